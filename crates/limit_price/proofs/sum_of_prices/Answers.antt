-- `limit_price::sum_of_prices` meets its contract: when so many lots are done the sum has their prices, and `lot` is the last of them (`Lots.antt`). Assumes nothing.
use mathlib.Core.Path.{refl}
use lib.Ieee.{neg, of_bits}
use mir.Syntax.{w64}
use mir.Val.{to_z, of_z}
use Rattle.limit_price.specs.LimitPrice.{summed}
use Rattle.limit_price.proofs.Lots.{first_lot, next_fits, next_lot, sum_more}
use Rattle.limit_price.proofs.sum_of_prices.Goals as goal

pub loop-init : goal.loop-init
unfolding summed neg of_bits
loop-init c = (first_lot c.args.current c.args.sgn c.ranges.current c.ranges.sgn, refl)

pub overflow_add-lot : goal.overflow_add-lot
overflow_add-lot c =
    let l = c.loop in
    next_fits c.args.current c.args.sgn c.ranges.current c.ranges.sgn c.args.lots l.counter c.requires c.loop-test.true _ l.invariant.0

pub loop-preserved : goal.loop-preserved
loop-preserved c =
    let l = c.loop in
    let e = next_lot c.args.current c.args.sgn c.ranges.current c.ranges.sgn c.args.lots l.counter c.requires c.loop-test.true _ l.invariant.0 in (
      e,
      sum_more c.args.f c.args.w c.args.max_pos (to_z w64 (of_z w64 c.args.current)) (to_z w64 (of_z w64 c.args.sgn)) l.counter _ l.sum c.i64_as_f64.result c.inv_price_sigmoid-sum.result e c.i64_as_f64.ensures c.inv_price_sigmoid-sum.ensures l.invariant.1,
    )
