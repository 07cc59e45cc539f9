-- The request of a walk, by its words and what they come to, and the reply to a line. Definitions only.
use Rattle.std.specs.Prelude.{ℕ, ◌-◌, ◌^◌, List, Float, Option, None, length, replicate}
use Rattle.float.specs.Constants.{nought}
use Rattle.text.specs.Decode.{Got}
use Rattle.protocol.specs.Words.{next_natural}
use Rattle.protocol_lists.specs.Lists.{at, fraction_list, fractions, in_front, next_state}
use Rattle.fit_state.specs.State.{fit_part, state_with}
use Rattle.walk.specs.Reasons.{number_of}
use Rattle.walk.specs.Walk as walked
use Rattle.walk.specs.Walk.{walk_of}
use Rattle.fit_state.specs.declared.Fit.{Fit}
use Rattle.fit_state.specs.declared.M2N.{M2N}
use Rattle.replies.specs.Requests.{◌>>=◌, named, or_refused, reply}
use Rattle.replies.specs.declared.forms.Reply.{Reply}
use Rattle.replies.specs.declared.forms.Reply.TheVariants.{Walked}

-- how a walk ended, with the state after it, as a reply
abbrev pub walked_reply : walked.Walked → Reply
walked_reply w = or_refused (λ ended. Walked (record { count = ended.count; reason = number_of ended.reason; state = fit_part w.state })) w.outcome

-- the state that a request gives: 16 moments of which n were given, epsilon, factor, how many runs, the step limit, and what a STATE gives
abbrev pub state_from : ℕ → List Float → ℕ → Float → Float → ℕ → ℕ → Fit → M2N
state_from variant moments n epsilon factor runs limit state =
    record (state_with state) { moments = moments; len = n; epsilon = epsilon; factor = factor; n_runs = runs; variant = variant; max_iter = limit }

-- the words after the moments; a walk does not read the factor, nor how many runs
abbrev pub walk_from : ℕ → List Float → ℕ → List ℕ → Got Reply
walk_from variant moments n = do
  w ← fractions 3
  limit ← next_natural (2 ^ 64 - 1)
  state ← next_state
  reply (walked_reply (walk_of (state_from variant moments n (at w 2) nought 0 limit state) (at w 0) (at w 1)))

-- the state has the moments in front of zeros, as far as there is room for them
abbrev pub walk : List ℕ → Got Reply
walk = do
  variant ← next_natural (2 ^ 64 - 1)
  v ← fraction_list
  walk_from variant (in_front v (replicate 16 nought)) (length v)

abbrev pub walks : List ℕ → Option Reply
walks s = named "walk" walk s None
