-- `fit_runs::all` meets its contract: after k runs the numbers are the rows of the first k, flat, and the count is how many (`Running.antt`). Assumes nothing.
use mathlib.Core.Path.{refl}
use Prim.Native.Nat.{◌<◌}
use native.Mathlib.Omega.{arith}
use lib.Ieee.{of_bits}
use Rattle.fit_runs.specs.Runs.{rows_to}
use Rattle.fit_state.specs.Rows.{flat_of, flat_in64}
use Rattle.fit_runs.proofs.Running.{turn}
use Rattle.fit_runs.proofs.all.Goals as goal

pub loop-k-init : goal.loop-k-init
unfolding rows_to flat_in64 flat_of of_bits
loop-k-init c = (refl, refl)

pub loop-k-preserved : goal.loop-k-preserved
loop-k-preserved c =
    let l = c.loop-k in
    let h : l.k < 64 = omega (arith, c.requires.0, c.loop-k-test.true) in
    turn c.args.m c.args.weights.now l.k _ _ _ _ _ c.single_fit_loop-f.result h c.rows_of-rows.ensures c.single_fit_loop-f.ensures l.invariant.0 l.invariant.1 c.put-count.ensures
