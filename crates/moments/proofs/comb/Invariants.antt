use mathlib.Core.Path.{◌≡◌}
use Rattle.moments.specs.Comb.{falling, rising}
use Rattle.moments.proofs.comb.Given as goal

-- after i turns the two products have i factors each
abbrev pub invariant-loop-i : goal.invariant-loop-i
invariant-loop-i l = (l.num ≡ falling l.n l.i) × (l.den ≡ rising l.i)
