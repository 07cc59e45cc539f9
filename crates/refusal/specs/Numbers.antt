-- Document 01's number of each refusal, and what stands for an answer in C. Definitions only.
use Rattle.std.specs.Prelude.{ℕ, Result, Ok, Err}
use Rattle.refusal.specs.declared.Refusal.{Refusal}
use Rattle.refusal.specs.declared.Refusal.TheVariants.{TooFewMoments, TooManyMoments, UnknownVariant, BadEpsilon, TooManyRows, TooFewWeights, BadWeight, TooLittleRoom, OrderTooHigh, UnequalLengths, TooLarge, TooManyLots, TooManyRuns, NotASpan}

abbrev pub number_of : Refusal → ℕ
number_of TooFewMoments = 1
number_of TooManyMoments = 2
number_of UnknownVariant = 3
number_of BadEpsilon = 4
number_of TooManyRows = 5
number_of TooFewWeights = 6
number_of BadWeight = 7
number_of TooLittleRoom = 8
number_of OrderTooHigh = 9
number_of UnequalLengths = 10
number_of TooLarge = 11
number_of TooManyLots = 12
number_of TooManyRuns = 13
number_of NotASpan = 15

-- what a check answers
abbrev pub Checked : Type 0
Checked = Result (Unit {0}) Refusal

module _ {A : Type 0} where
  -- the number of the refusal; nothing is refused by 0, so 0 stands for no refusal
  abbrev pub status_of : Result A Refusal → ℕ
  status_of (Ok x) = 0
  status_of (Err e) = number_of e

  -- the refusal of a check, or else what comes after it
  abbrev pub first_of : Checked → Result A Refusal → Result A Refusal
  first_of (Ok u) after = after
  first_of (Err e) after = Err e

  -- the value where nothing is refused
  abbrev pub unless_refused : Checked → A → Result A Refusal
  unless_refused c x = first_of c (Ok x)

  -- one value where nothing is refused, another where something is
  abbrev pub if_accepted : Checked → A → A → A
  if_accepted (Ok u) x otherwise = x
  if_accepted (Err e) x otherwise = otherwise
