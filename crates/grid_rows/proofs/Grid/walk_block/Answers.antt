-- `grid_rows::Grid::walk_block` meets its contract: after j turns, the search after j rows more, passed over or walked. Assumes nothing.
use Rattle.std.proofs.Common.{arith, ◌<◌}
use lib.Ieee.{of_bits}
use Rattle.grid_rows.proofs.Blocks.{block_weight, row_passed, row_more}
use Rattle.grid_rows.proofs.Grid.walk_block.Goals as goal

pub loop-j-preserved-then-variances-j : goal.loop-j-preserved-then-variances-j
unfolding of_bits
loop-j-preserved-then-variances-j c =
    let j = c.loop-j.j in
    let below : j < 256 = omega arith in
    let weight = block_weight c.args.self.m c.args.self.deviation c.args.weights.now c.args.from j in
    row_passed _ _ _ _ _ _ _ _ _ _ (omega arith) c.loop-j.invariant c.first_five.ensures (c.means-means.ensures j below (omega arith)) weight (c.variances-variances.ensures j below (omega arith)) c.if-variances-j.true

pub loop-j-preserved : goal.loop-j-preserved
loop-j-preserved c =
    let j = c.loop-j.j in
    let below : j < 256 = omega arith in
    let weight = block_weight c.args.self.m c.args.self.deviation c.args.weights.now c.args.from j in
    row_more _ _ _ _ _ _ _ _ _ (omega arith) c.loop-j.invariant (c.means-means.ensures j below (omega arith)) weight c.walk_row-t.ensures
