use mathlib.Core.Path.{◌≡◌}
use lib.ListN.{length}
use Rattle.fit_runs.specs.Runs.{rows_to}
use Rattle.fit_state.specs.Rows.{flat_in64}
use Rattle.fit_runs.proofs.all.Given as goal

abbrev pub invariant-loop-k : goal.invariant-loop-k
invariant-loop-k l = (l.numbers ≡ flat_in64 (rows_to l.m l.weights l.k)) × (l.count ≡ length (rows_to l.m l.weights l.k))
