-- `ef3m_runs::fill`: after i turns the first i rows are those of the flat numbers, and the others as they were.
use Rattle.std.proofs.Common.{◌≡◌}
use Rattle.ef3m_runs.proofs.Lists.{cur}
use Rattle.ef3m_runs.proofs.fill.Given as goal

abbrev pub invariant-loop-i : goal.invariant-loop-i
invariant-loop-i l = l.rows ≡ cur l.flat l.initial.rows l.i
