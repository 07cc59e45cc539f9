-- `limit_price::limit_price_sigmoid` meets its contract: by its tests, from what the parts answer (`Limits.antt`). Assumes nothing.
use lib.Ieee.{of_bits}
use Rattle.limit_price.proofs.Limits.{walks_none, walks_too_many, walks}
use Rattle.limit_price.proofs.limit_price_sigmoid.Goals as goal

pub returns-then-lots-eq0 : goal.returns-then-lots-eq0
unfolding of_bits
returns-then-lots-eq0 c = walks_none c.args.t_pos c.args.pos c.args.f c.args.w c.args.max_pos c.as_i64-target.result c.as_i64-current.result c.as_i64-target.ensures c.as_i64-current.ensures (record { sfits = c.as_i64-target.type_inv }) (record { sfits = c.as_i64-current.type_inv }) c.abs_diff-lots.result c.abs_diff-lots.ensures c.if-lots-eq0.true

pub returns-then-lots-gt1000000 : goal.returns-then-lots-gt1000000
returns-then-lots-gt1000000 c = walks_too_many c.args.t_pos c.args.pos c.args.f c.args.w c.args.max_pos c.as_i64-target.result c.as_i64-current.result c.as_i64-target.ensures c.as_i64-current.ensures (record { sfits = c.as_i64-target.type_inv }) (record { sfits = c.as_i64-current.type_inv }) c.abs_diff-lots.result c.abs_diff-lots.ensures c.if-lots-gt1000000.true

pub returns : goal.returns
returns c = walks c.args.t_pos c.args.pos c.args.f c.args.w c.args.max_pos c.as_i64-target.result c.as_i64-current.result c.as_i64-target.ensures c.as_i64-current.ensures (record { sfits = c.as_i64-target.type_inv }) (record { sfits = c.as_i64-current.type_inv }) c.abs_diff-lots.result c.abs_diff-lots.ensures c.if-lots-gt1000000.false c.signum-sgn.result c.signum-sgn.ensures.value (record { sfits = c.signum-sgn.type_inv }) c.sum_of_prices-total.result c.if-lots-eq0.false c.sum_of_prices-total.ensures
