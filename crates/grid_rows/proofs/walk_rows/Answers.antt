use Rattle.std.proofs.Common.{arith, length-take-le}
use Rattle.grid_rows.proofs.First.{as_of_all}
use Rattle.grid_rows.proofs.walk_rows.Goals as goal

pub returns : goal.returns
returns c =
    let long = length-take-le c.min.result c.args.weights.now (omega arith) in
    as_of_all _ _ _ _ _ _ _ c.loop-from.invariant (omega arith) (omega arith)

pub returns-2 : goal.returns-2
returns-2 c =
    let long = length-take-le c.min.result c.args.weights.now (omega arith) in
    as_of_all _ _ _ _ _ _ _ c.walk_block-s.ensures (omega arith) (omega arith)
