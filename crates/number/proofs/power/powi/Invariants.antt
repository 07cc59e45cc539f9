use Rattle.number.proofs.power.Turns.{Left}
use Rattle.number.proofs.power.powi.Given as goal

abbrev pub invariant-loop-b : goal.invariant-loop-b
invariant-loop-b l = Left l.x l.n l.r l.a l.b

abbrev pub decreases-loop-b : goal.decreases-loop-b
decreases-loop-b l = l.b
