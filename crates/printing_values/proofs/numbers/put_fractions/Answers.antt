-- `printing_values::numbers::put_fractions` meets its contract and ends: a turn puts the first fraction of those that are left. Assumes nothing.
use native.Mathlib.Omega.{arith}
use Rattle.printing_values.proofs.Fractions.{left_fraction, no_fraction}
use Rattle.printing_values.proofs.numbers.put_fractions.Goals as goal

pub loop-x-preserved : goal.loop-x-preserved
loop-x-preserved c =
    left_fraction c.args.xs.now c.loop-x.x-index (omega arith) c.loop-x.invariant c.put.ensures c.f64_to_bits_with_nan.ensures c.put_hex.ensures

pub returns : goal.returns
returns c = no_fraction c.args.xs.now c.loop-x.x-index (omega arith) c.loop-x.invariant
