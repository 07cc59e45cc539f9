-- The requests of one step of the fit, each by its words and what they come to, and the reply to a line. Definitions only.
use Rattle.std.specs.Prelude.{ℕ, List, Float, Option, None, Result}
use Rattle.text.specs.Decode.{Got}
use Rattle.protocol_lists.specs.Lists.{at, fraction_list, fractions}
use Rattle.step.specs.declared.Step.{Step}
use Rattle.iterate.specs.Refusals.{iter4, iter5}
use Rattle.refusal.specs.declared.Refusal.{Refusal}
use Rattle.replies.specs.Requests.{◌>>=◌, named, or_refused, reply}
use Rattle.replies.specs.declared.forms.Reply.{Reply}
use Rattle.replies.specs.declared.forms.Reply.TheVariants.{Stepped}
use Rattle.walk.specs.declared.Variant.{Variant}
use Rattle.walk.specs.declared.Variant.TheVariants.{FourMoments, FiveMoments}

-- a step on moments, a mean and a weight
abbrev pub Stepping : Type 0
Stepping = List Float → Float → Float → Result Step Refusal

-- the one that is asked for
abbrev pub stepping : Variant → Stepping
stepping FourMoments = iter4
stepping FiveMoments = iter5

-- the words after the moments
abbrev pub step_from : Stepping → List Float → List ℕ → Got Reply
step_from stepped moments = do
  v ← fractions 2
  reply (or_refused Stepped (stepped moments (at v 0) (at v 1)))

abbrev pub one_step : Stepping → List ℕ → Got Reply
one_step stepped = do
  moments ← fraction_list
  step_from stepped moments

abbrev pub steps : List ℕ → Option Reply
steps s =
    named "iter_4" (one_step iter4) s
    (named "iter_5" (one_step iter5) s None)
