-- The budget size of chapter 10 of Advances in Financial Machine Learning: the live longs over their largest number, less the same of the shorts; the Rust's bet_size_budget, line by line. Definitions only.
use Rattle.std.specs.Prelude.{ℕ, ◌≡◌, cond, Result, List, [], ◌∷◌, ◌++◌, map, ℤ, Float, length, drop}
use Rattle.std.specs.Float.{binary64}
use Rattle.std.specs.Float.Ieee.{div, lt, sub}
use Rattle.float.specs.Constants.{nought}
use Rattle.float.specs.Leaves.{as_f64, larger_of}
use Rattle.bet_sizing.specs.declared.counts.Side.TheVariants.{Long, Short}
use Rattle.bet_sizing.specs.Counts.{concurrent, concurrent_counts}
use Rattle.bet_sizing.specs.Refusals.{spans_rules}
use Rattle.refusal.specs.Numbers.{Checked, if_accepted, unless_refused}
use Rattle.refusal.specs.Rules.{first_refusal}
use Rattle.refusal.specs.declared.Refusal.{Refusal}

-- the larger of a number and of counts, one after another
unfoldable pub largest_from : Float → List Float → Float
largest_from most [] = most
largest_from most (c ∷ cs) = largest_from (larger_of most c) cs

-- the largest count, 0 for none
abbrev pub largest : List Float → Float
largest cs = largest_from nought cs

-- a count over the largest count; +0 for a side that has none
abbrev pub share : Float → Float → Float
share c most = cond (lt nought most) (div binary64 c most) nought

-- the size at t
abbrev pub budget_size : List ℤ → List ℤ → List Float → ℤ → Float
budget_size ss es ds t =
    sub binary64
    (share (as_f64 (concurrent Long t ss es ds)) (largest (concurrent_counts Long ss es ds)))
    (share (as_f64 (concurrent Short t ss es ds)) (largest (concurrent_counts Short ss es ds)))

-- for each span, the size at its start
abbrev pub budget_sizes : List ℤ → List ℤ → List Float → List Float
budget_sizes ss es ds = map (budget_size ss es ds) ss

-- what it turns away
abbrev pub budget_refusal : List ℤ → List ℤ → List Float → List Float → Checked
budget_refusal ss es ds size = first_refusal (spans_rules (length ss) (length es) (length ds) (length size))

-- bet_size_budget: its answer, and the lent list before and after it
pub record BetSizeBudget (ss es : List ℤ) (ds size size' : List Float) (answer : Result ℕ Refusal) : Type 0 where
  pub answered : answer ≡ unless_refused (budget_refusal ss es ds size) (length ss)
  pub sizes : size' ≡ if_accepted (budget_refusal ss es ds size) (budget_sizes ss es ds ++ drop (length ss) size) size
