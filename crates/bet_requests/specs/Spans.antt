-- The requests of the counts and the budget over spans: their words, the reply to a line, and what the lent list holds after it. Definitions only.
use Rattle.std.specs.Prelude.{ℕ, ◌-◌, ◌/◌, ◌^◌, min, Option, None, Result, List, ◌++◌, ℤ, Float, drop, length, take}
use Rattle.budget.specs.Budget.{budget_sizes}
use Rattle.bet_sizing.specs.declared.counts.Side.TheVariants.{Long, Short}
use Rattle.bet_sizing.specs.Counts.{concurrent_counts}
use Rattle.bet_sizing.specs.Refusals.{spans_rules}
use Rattle.refusal.specs.Numbers.{Checked, if_accepted, unless_refused}
use Rattle.refusal.specs.Rules.{first_refusal}
use Rattle.refusal.specs.declared.Refusal.{Refusal}
use Rattle.text.specs.Decode.{Got, got}
use Rattle.protocol.specs.Words.{next_natural}
use Rattle.protocol_lists.specs.Lists.{fraction_list, instant_list}
use Rattle.replies.specs.Requests.{◌>>=◌, after, named, only_or, or_refused, reply}
use Rattle.replies.specs.declared.forms.Reply.{Reply}
use Rattle.replies.specs.declared.forms.Reply.TheVariants.{Spanned}
use Rattle.replies.specs.declared.forms.Columns.{Columns}
use Rattle.replies.specs.declared.forms.Columns.TheVariants.{One, Two}
use Rattle.replies.specs.declared.forms.SpanRows.{SpanRows}
use Rattle.bet_requests.specs.declared.spans.Asked as asked_slices
use Rattle.bet_requests.specs.declared.spans.Kind.{Kind}
use Rattle.bet_requests.specs.declared.spans.Kind.TheVariants.{Budget, ConcurrentSides}

-- what is asked: the room for the answer, the place in the line before the starts, and the spans
pub record Asked : Type 0 where
  pub room : ℕ
  pub from : ℕ
  pub starts : List ℤ
  pub ends : List ℤ
  pub sides : List Float

abbrev pub asked_of : ℕ → ℕ → List ℤ → List ℤ → List Float → Asked
asked_of room from ss es ds = record { room = room; from = from; starts = ss; ends = es; sides = ds }

-- the same as the code holds it, in slices
abbrev pub asked_in : asked_slices.Asked → Asked
asked_in a = asked_of a.room a.from a.starts.now a.ends.now a.sides.now

-- the place of what is left of a line of so many bytes
abbrev pub place_in : ℕ → List ℕ → Got ℕ
place_in size t = got (size - length t) t

-- Of each list 4,096 are kept. A line has fewer sides, for a side has 17 of its 65,535 bytes; and starts or ends that are more than that are
-- refused all the same, as unequal to the sides in number.
unfoldable pub asked : ℕ → List ℕ → Got Asked
asked size = do
  room ← next_natural (2 ^ 64 - 1)
  from ← place_in size
  starts ← instant_list
  ends ← instant_list
  sides ← fraction_list
  reply (asked_of room from (take 4096 starts) (take 4096 ends) (take 4096 sides))

-- what is turned away where the answer has so many places
abbrev pub refusal : Asked → ℕ → Checked
refusal a places = first_refusal (spans_rules (length a.starts) (length a.ends) (length a.sides) (min a.room places))

-- what comes of a check: a row for each span, where nothing is refused
abbrev pub rows : Columns → Asked → Checked → Result SpanRows Refusal
rows columns a checked = unless_refused checked (record { count = length a.starts; columns = columns; starts = a.from })

-- a list after the answer: new fractions in front, or as it was where the answer is a refusal
abbrev pub column : Checked → Asked → List Float → List Float → List Float
column checked a new old = if_accepted checked (new ++ drop (length a.starts) old) old

-- the counts are two columns, the longs in the first half of the lent list and the shorts in the second
abbrev pub sides_refusal : ℕ → Asked → Checked
sides_refusal n a = refusal a (n / 2)

abbrev pub sides_rows : ℕ → Asked → Result SpanRows Refusal
sides_rows n a = rows Two a (sides_refusal n a)

abbrev pub sides_reply : ℕ → Asked → Reply
sides_reply n a = or_refused Spanned (sides_rows n a)

abbrev pub sides_in : List Float → Asked → List Float
sides_in xs a =
    column (sides_refusal (length xs) a) a (concurrent_counts Long a.starts a.ends a.sides) (take (length xs / 2) xs)
    ++ column (sides_refusal (length xs) a) a (concurrent_counts Short a.starts a.ends a.sides) (drop (length xs / 2) xs)

-- the sizes are one column
abbrev pub sizes_rows : ℕ → Asked → Result SpanRows Refusal
sizes_rows n a = rows One a (refusal a n)

abbrev pub sizes_reply : ℕ → Asked → Reply
sizes_reply n a = or_refused Spanned (sizes_rows n a)

abbrev pub sizes_in : List Float → Asked → List Float
sizes_in xs a = column (refusal a (length xs)) a (budget_sizes a.starts a.ends a.sides) xs

-- of both, the kind that the code is asked for
abbrev pub reply_of : Kind → ℕ → Asked → Reply
reply_of ConcurrentSides n a = sides_reply n a
reply_of Budget n a = sizes_reply n a

abbrev pub left_by : Kind → List Float → Asked → List Float
left_by ConcurrentSides xs a = sides_in xs a
left_by Budget xs a = sizes_in xs a

-- what comes of the words of a line of so many bytes
module _ {A : Type 0} where
  abbrev pub words : (Asked → A) → ℕ → List ℕ → Got A
  words f size = do
    a ← asked size
    reply (f a)

-- the reply to the line s, where the lent list has n places
abbrev pub spans : ℕ → List ℕ → Option Reply
spans n s =
    named "concurrent_sides" (words (sides_reply n) (length s)) s
    (named "budget" (words (sizes_reply n) (length s)) s None)

-- the lent list after it; a line that is no such request leaves it as it was
abbrev pub spans_in : List Float → List ℕ → List Float
spans_in xs s =
    after "concurrent_sides" (λ t. only_or xs (words (sides_in xs) (length s) t)) s
    (after "budget" (λ t. only_or xs (words (sizes_in xs) (length s) t)) s xs)
