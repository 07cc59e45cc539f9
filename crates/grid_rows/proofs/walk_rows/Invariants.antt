use Rattle.std.proofs.Common.{◌≡◌, ◌-◌, min, length}
use Rattle.grid_rows.specs.Rows.{search_to}
use Rattle.grid_rows.proofs.walk_rows.Given as goal

-- the last block ends with the weights, which may lie before the next step
abbrev pub invariant-loop-from : goal.invariant-loop-from
invariant-loop-from l = l.s ≡ search_to l.fn.m l.fn.deviation l.weights (min l.from (length l.weights))

abbrev pub decreases-loop-from : goal.decreases-loop-from
decreases-loop-from l = length l.weights - l.from
