use lib.ListN.{length}
use Rattle.sheet_read.proofs.Going.{Going}
use Rattle.sheet_read.proofs.check.Given as goal

abbrev pub invariant-loop-rest : goal.invariant-loop-rest
invariant-loop-rest l = Going l.s l.rest l.n

abbrev pub decreases-loop-rest : goal.decreases-loop-rest
decreases-loop-rest l = length l.rest
