-- The request of one search, by its words and what they come to, and the reply to a line. Definitions only.
use Rattle.std.specs.Prelude.{ℕ, ◌-◌, ◌^◌, List, Float, Option, Some, None, length, replicate, take}
use Rattle.float.specs.Constants.{nought}
use Rattle.fit_state.specs.declared.row.FitResultRow.{FitResultRow}
use Rattle.grid.specs.Search.{Fitted, single_fit}
use Rattle.text.specs.Bytes.{bytes}
use Rattle.text.specs.Decode.{Got, got, bad, word}
use Rattle.protocol.specs.Words.{next_fraction, next_natural}
use Rattle.protocol_lists.specs.Lists.{fraction_list, in_front, next_state}
use Rattle.replies.specs.Requests.{◌>>=◌, named, or_refused, reply}
use Rattle.replies.specs.declared.forms.Reply.{Reply}
use Rattle.replies.specs.declared.forms.Reply.TheVariants.{Searched}
use Rattle.replies.specs.declared.forms.Search.{Search}
use Rattle.fit_state.specs.State.{fit_part}
use Rattle.fit_state.specs.declared.M2N.{M2N}
use Rattle.walk_requests.specs.Walks.{state_from}

-- the epsilon for this search: `-` for the state's own
abbrev pub own : List ℕ → Got (Option Float)
own = do
  minus ← word (bytes " -")
  reply None

-- or a fraction in place of it
abbrev pub overriding : List ℕ → Got (Option Float)
overriding = do
  epsilon ← next_fraction
  reply (Some epsilon)

-- the first of two forms that the bytes are of
abbrev pub either : Got (Option Float) → Got (Option Float) → Got (Option Float)
either (got e s) other = got e s
either bad other = other

abbrev pub next_given : List ℕ → Got (Option Float)
next_given s = either (own s) (overriding s)

-- the row, if there is one, and the state after the search
abbrev pub ended_search : M2N → Option FitResultRow → Search
ended_search m row = record { row = row; state = fit_part m; epsilon = m.epsilon }

-- how a search ended, with the state after it, as a reply
abbrev pub searched_reply : Fitted → Reply
searched_reply f = or_refused (λ row. Searched (ended_search f.state row)) f.outcome

-- Of the weights 4,096 are kept: a line has fewer, for a weight has 17 of its 65,535 bytes. The state has the moments in front of zeros, as far
-- as there is room for them; one search does not read how many runs.
abbrev pub single : List ℕ → Got Reply
single = do
  variant ← next_natural (2 ^ 64 - 1)
  v ← fraction_list
  epsilon ← next_fraction
  e ← next_given
  factor ← next_fraction
  limit ← next_natural (2 ^ 64 - 1)
  state ← next_state
  weights ← fraction_list
  reply (searched_reply (single_fit (state_from variant (in_front v (replicate 16 nought)) (length v) epsilon factor 0 limit state) e (take 4096 weights)))

abbrev pub searches : List ℕ → Option Reply
searches s = named "single_fit" single s None
