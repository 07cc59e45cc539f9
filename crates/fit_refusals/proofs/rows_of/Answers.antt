-- `fit_refusals::rows_of` meets its contract: the larger of any number and 1, cut, is at least 1. Assumes nothing.
use lib.Ieee.{of_bits}
use native.Mathlib.Omega.{arith}
use Rattle.fit_refusals.proofs.Known.{some_upper, cut_upper}
use Rattle.fit_refusals.proofs.rows_of.Goals as goal

pub overflow_sub-result : goal.overflow_sub-result
unfolding of_bits
overflow_sub-result c = omega (arith, cut_upper c.args.epsilon _ _ c.larger.ensures c.as_usize.ensures, some_upper c.args.epsilon)
