use lib.ListN.{length}
use Rattle.sheet.proofs.Rowing.{Rowed}
use Rattle.sheet.proofs.rows.put.Given as goal

abbrev pub invariant-loop-i : goal.invariant-loop-i
invariant-loop-i l = Rowed (length l.initial.text.out.now) l.starts l.ends l.sides l.text l.i
