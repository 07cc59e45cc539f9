-- What a reading leaves in the lent lists, and what the code's functions promise each other. Definitions only.
use Rattle.std.specs.Prelude.{ℕ, min, ◌≡◌, List, ◌++◌, map, ℤ, Float, length, drop, Result, Ok, Err}
use Rattle.std.specs.Float.{binary64}
use Rattle.std.specs.Float.Ieee.{of_bits}
use Rattle.refusal.specs.Rules.{first_refusal, room_rules}
use Rattle.sheet_forms.specs.declared.Span.{Span}
use Rattle.sheet_read.specs.Sheet.{Reading, reading, sheet}
use Rattle.sheet_read.specs.declared.SheetError.{SheetError}

-- a span's start, its end, and its side as a float; every NaN's pattern is the NaN
abbrev pub from_of : Span → ℤ
from_of a = a.from

abbrev pub to_of : Span → ℤ
to_of a = a.to

abbrev pub side_of : Span → Float
side_of a = of_bits binary64 a.side

-- what is answered: how many spans a sheet has
abbrev pub answer_of : Reading → Result ℕ SheetError
answer_of (Ok l) = Ok (length l)
answer_of (Err e) = Err e

-- last of all: less room in the lists than spans
abbrev pub room_for : ℕ → Reading → Reading
room_for room (Ok l) = reading (first_refusal (room_rules room (length l))) (Ok l)
room_for room (Err e) = Err e

-- a lent list after it: a field of each span, and past them what was there; where the sheet is refused, all as it was
abbrev pub list_after : {A : Type 0} → (Span → A) → Reading → List A → List A
list_after f (Ok l) old = map f l ++ drop (length l) old
list_after f (Err e) old = old

abbrev pub read_into : List ℕ → List ℤ → List ℤ → List Float → Reading
read_into s a b c = room_for (min (min (length a) (length b)) (length c)) (sheet s)

-- read_sheet: its answer, and the three lent lists before and after it
pub record SheetRead (s : List ℕ) (a a' b b' : List ℤ) (c c' : List Float) (r : Result ℕ SheetError) : Type 0 where
  pub answered : r ≡ answer_of (read_into s a b c)
  pub starts : a' ≡ list_after from_of (read_into s a b c) a
  pub ends : b' ≡ list_after to_of (read_into s a b c) b
  pub sides : c' ≡ list_after side_of (read_into s a b c) c

-- an accepted sheet, and lists with a place for each of its spans
pub record Fillable (s : List ℕ) (a b : List ℤ) (c : List Float) : Type 0 where
  pub read : List Span
  pub is : sheet s ≡ Ok read
  pub starts : length a ≡ length read
  pub ends : length b ≡ length read
  pub sides : length c ≡ length read

-- the fields of an accepted sheet's spans
pub record HeldBy (g : Reading) (a b : List ℤ) (c : List Float) : Type 0 where
  pub spans : List Span
  pub is : g ≡ Ok spans
  pub starts : a ≡ map from_of spans
  pub ends : b ≡ map to_of spans
  pub sides : c ≡ map side_of spans
