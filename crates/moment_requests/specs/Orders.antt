-- The requests of moments, each by its words and what they come to; the reply to a line, and what the lent list holds after it. Definitions only.
use Rattle.std.specs.Prelude.{ℕ, ◌-◌, ◌^◌, List, ◌++◌, Float, Option, None, drop, take}
use Rattle.moments.specs.Lists.{params_of}
use Rattle.moments.specs.Mixture as mixture
use Rattle.moments.specs.Refusals as refusals
use Rattle.text.specs.Decode.{Got}
use Rattle.protocol.specs.Words.{next_fraction, next_natural}
use Rattle.protocol_lists.specs.Lists.{fraction_list, fractions}
use Rattle.replies.specs.Requests.{◌>>=◌, after, named, only_or, or_refused, reply}
use Rattle.replies.specs.declared.forms.Reply.{Reply}
use Rattle.replies.specs.declared.forms.Reply.TheVariants.{Fraction, Listed, Moments}

abbrev pub get_moments : List ℕ → Got Reply
get_moments = do
  v ← fractions 5
  reply (Moments (mixture.get_moments (params_of v)))

abbrev pub centered_moment : List ℕ → Got Reply
centered_moment = do
  order ← next_natural (2 ^ 64 - 1)
  m ← fraction_list
  reply (or_refused Fraction (refusals.centred_moment m order))

-- what comes of raw_moment's words: the room that is asked for, the mean, the centred moments
module _ {A : Type 0} where
  abbrev pub raw_words : (ℕ → Float → List Float → A) → List ℕ → Got A
  raw_words f = do
    room ← next_natural (2 ^ 64 - 1)
    mean ← next_fraction
    c ← fraction_list
    reply (f room mean c)

-- the raw moments go into the first places of the lent list, as many as are asked for
abbrev pub raw_moment : List Float → List ℕ → Got Reply
raw_moment xs = raw_words (λ room mean c. or_refused (λ count. Listed count count) (refusals.raw_moment c (take room xs)))

abbrev pub raw_moment_in : List Float → List ℕ → Got (List Float)
raw_moment_in xs = raw_words (λ room mean c. refusals.raw_out c mean (take room xs) ++ drop room xs)

abbrev pub orders : List Float → List ℕ → Option Reply
orders xs s =
    named "get_moments" get_moments s
    (named "centered_moment" centered_moment s
    (named "raw_moment" (raw_moment xs) s None))

-- a line that is no request of raw moments leaves the list as it was
abbrev pub orders_in : List Float → List ℕ → List Float
orders_in xs s = after "raw_moment" (λ t. only_or xs (raw_moment_in xs t)) s xs
