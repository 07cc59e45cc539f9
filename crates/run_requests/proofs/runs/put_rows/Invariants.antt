use mathlib.Core.Path.{◌≡◌}
use lib.ListN.{take}
use Rattle.run_requests.specs.Runs.{with_rows}
use Rattle.run_requests.proofs.runs.put_rows.Given as goal

abbrev pub invariant-loop-i : goal.invariant-loop-i
invariant-loop-i l = l.xs ≡ with_rows (take l.i l.rows) l.initial.xs
