use mathlib.Core.Path.{◌≡◌}
use mathlib.Core.List.{[]}
use Rattle.formula.specs.Formula.{eval}
use Rattle.formula.specs.Whole.{sum_of}
use Rattle.moments.specs.Orders.{numbered, centred_term}
use Rattle.moments.proofs.centered_moment.Given as goal

-- after j turns the sum has j terms
abbrev pub invariant-loop-j : goal.invariant-loop-j
invariant-loop-j l = l.moment_c ≡ eval (numbered l.moments) [] (sum_of (centred_term l.order) l.j)
