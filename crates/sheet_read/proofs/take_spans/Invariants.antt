use Rattle.sheet_read.proofs.Filling.{Filling}
use Rattle.sheet_read.proofs.take_spans.Given as goal

abbrev pub invariant-loop-i : goal.invariant-loop-i
invariant-loop-i l = Filling l.s l.rest l.i l.initial.starts l.starts l.initial.ends l.ends l.initial.sides l.sides
