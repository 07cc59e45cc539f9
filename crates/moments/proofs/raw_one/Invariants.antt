use mathlib.Core.Path.{◌≡◌}
use mathlib.Core.List.{[], ◌∷◌}
use Rattle.formula.specs.Formula.{eval}
use Rattle.formula.specs.Whole.{sum_of}
use Rattle.moments.specs.Orders.{numbered, raw_term}
use Rattle.moments.proofs.raw_one.Given as goal

-- after k turns the sum has k terms
abbrev pub invariant-loop-k : goal.invariant-loop-k
invariant-loop-k l = l.moment_n ≡ eval (l.mean ∷ numbered l.central) [] (sum_of (raw_term l.n) l.k)
