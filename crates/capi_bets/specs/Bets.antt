-- What the C functions of the bets answer, and what they leave in the lent numbers. Definitions only.
use Rattle.std.specs.Prelude.{ℕ, ◌≡◌, Result, List, length, ℤ, Float}
use Rattle.refusal.specs.Numbers.{status_of, unless_refused}
use Rattle.refusal.specs.declared.Refusal.{Refusal}
use Rattle.bet_sizing.specs.Refusals.{ConcurrentSides, counts_refusal}
use Rattle.budget.specs.Budget.{BetSizeBudget, budget_refusal}

-- the outcomes that the library's records call for
abbrev pub sides_outcome : List ℤ → List ℤ → List Float → List Float → List Float → Result ℕ Refusal
sides_outcome ss es ds long short = unless_refused (counts_refusal ss es ds long short) (length ss)

abbrev pub budget_outcome : List ℤ → List ℤ → List Float → List Float → Result ℕ Refusal
budget_outcome ss es ds size = unless_refused (budget_refusal ss es ds size) (length ss)

-- 0 or the number of the refusal as the answer, and the lent lists before and after it, as the library leaves them
abbrev pub SidesLeave : List ℤ → List ℤ → List Float → List Float → List Float → List Float → List Float → ℕ → Type 0
SidesLeave ss es ds long long' short short' answer =
    (answer ≡ status_of (sides_outcome ss es ds long short)) × ConcurrentSides ss es ds long long' short short' (sides_outcome ss es ds long short)

abbrev pub BudgetLeaves : List ℤ → List ℤ → List Float → List Float → List Float → ℕ → Type 0
BudgetLeaves ss es ds size size' answer =
    (answer ≡ status_of (budget_outcome ss es ds size)) × BetSizeBudget ss es ds size size' (budget_outcome ss es ds size)
