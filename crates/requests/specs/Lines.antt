-- The reply to a line, whichever kind of request it is, and what the lent list holds after it. Definitions only.
use Rattle.std.specs.Prelude.{ℕ, List, Float, Option, length}
use Rattle.std.specs.Option.{option_or}
use Rattle.replies.specs.declared.forms.Reply.{Reply}
use Rattle.number_requests.specs.Leaves.{leaves}
use Rattle.moment_requests.specs.Orders.{orders, orders_in}
use Rattle.step_requests.specs.Steps.{steps}
use Rattle.walk_requests.specs.Walks.{walks}
use Rattle.search_requests.specs.Searches.{searches}
use Rattle.run_requests.specs.Runs.{runs, runs_in}
use Rattle.price_requests.specs.Curves.{curves}
use Rattle.bet_requests.specs.Spans.{spans, spans_in}

-- a kind's reply, or another where it has none, as of a line of another kind
infixr 5 ◌or_else◌
abbrev pub ◌or_else◌ : Option Reply → Option Reply → Option Reply
r or_else other = option_or r other

unfoldable pub fits : List ℕ → Option Reply
fits s = steps s or_else walks s or_else searches s

-- the reply to the line s, where the lent list is xs: that of the first kind that has one
unfoldable pub reply_to : List Float → List ℕ → Option Reply
reply_to xs s =
    leaves s or_else orders xs s or_else fits s or_else runs (length xs) s or_else curves s or_else spans (length xs) s

-- the lent list after it: three kinds leave answers there, and each leaves the list as it was where the line has another's name
unfoldable pub left_in : List Float → List ℕ → List Float
left_in xs s = spans_in (runs_in (orders_in xs s) s) s
