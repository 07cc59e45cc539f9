-- The request of several runs: its words, the reply to a line, and what the lent list holds after it. Definitions only.
use Rattle.std.specs.Prelude.{ℕ, ◌*◌, ◌-◌, ◌/◌, ◌^◌, min, List, ◌++◌, Float, Option, None, drop, length, replicate, take}
use Rattle.float.specs.Constants.{nought}
use Rattle.text.specs.Decode.{Got}
use Rattle.protocol.specs.Words.{next_natural}
use Rattle.protocol_lists.specs.Lists.{at, fraction_list, fractions, in_front, next_state}
use Rattle.fit_state.specs.declared.M2N.{M2N}
use Rattle.walk_requests.specs.Walks.{state_from}
use Rattle.fit_state.specs.declared.row.FitResultRow.{FitResultRow}
use Rattle.fit_state.specs.Rows.{flat_of}
use Rattle.fit_runs.specs.Runs.{mp_fit, run_rows}
use Rattle.replies.specs.Requests.{◌>>=◌, after, named, only_or, or_refused, reply}
use Rattle.replies.specs.declared.forms.Reply.{Reply}
use Rattle.replies.specs.declared.forms.Reply.TheVariants.{Listed}

-- what is asked: the state that each run starts from, the weights of all runs, and room for how many rows
pub record Asked : Type 0 where
  pub state : M2N
  pub weights : List Float
  pub places : ℕ

abbrev pub asked_of : M2N → List Float → ℕ → Asked
asked_of m weights places = record { state = m; weights = weights; places = places }

-- ---- the words
-- Of the weights 4,096 are kept. A line has fewer, for a weight has 17 of its 65,535 bytes. The state has the moments in front of zeros, as far
-- as there is room for them.
unfoldable pub asked : List ℕ → Got Asked
asked = do
  variant ← next_natural (2 ^ 64 - 1)
  v ← fraction_list
  w ← fractions 2
  limit ← next_natural (2 ^ 64 - 1)
  runs ← next_natural (2 ^ 64 - 1)
  places ← next_natural (2 ^ 64 - 1)
  state ← next_state
  weights ← fraction_list
  reply (asked_of (state_from variant (in_front v (replicate 16 nought)) (length v) (at w 0) (at w 1) runs limit state) (take 4096 weights) places)

-- ---- what they come to
-- how many rows there is room for, at six numbers a row, where a lent list has n places
abbrev pub room : ℕ → ℕ → ℕ
room places n = min places (n / 6)

abbrev pub runs_reply : ℕ → Asked → Reply
runs_reply n a = or_refused (λ count. Listed count (6 * count)) (mp_fit a.state a.weights (room a.places n))

-- a list with rows in front of it, six numbers each; its places past them stay
abbrev pub with_rows : List FitResultRow → List Float → List Float
with_rows rows xs = flat_of rows ++ drop (length (flat_of rows)) xs

-- there are no rows where the runs are refused
abbrev pub rows_in : List Float → Asked → List Float
rows_in xs a = with_rows (run_rows a.state a.weights (room a.places (length xs))) xs

-- what comes of words that ask
module _ {A : Type 0} where
  abbrev pub words : (Asked → A) → (List ℕ → Got Asked) → List ℕ → Got A
  words f form = do
    a ← form
    reply (f a)

-- ---- the reply to the line s, where the lent list has n places
abbrev pub runs : ℕ → List ℕ → Option Reply
runs n s = named "mp_fit" (words (runs_reply n) asked) s None

-- the lent list after it; a line that is no such request leaves it as it was
abbrev pub runs_in : List Float → List ℕ → List Float
runs_in xs s = after "mp_fit" (λ t. only_or xs (words (rows_in xs) asked t)) s xs
