use Rattle.std.proofs.Common.{◌≡◌, ◌+◌}
use Rattle.grid_rows.specs.Rows.{search_to}
use Rattle.grid_rows.proofs.Grid.walk_block.Given as goal

abbrev pub invariant-loop-j : goal.invariant-loop-j
invariant-loop-j l = l.t ≡ search_to l.fn.self.m l.fn.self.deviation l.weights (l.from + l.j)
