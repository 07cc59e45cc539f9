-- `moments::raw_moment` meets its contract: after the loop's turns the first places are written and the others as they were (`Turns.antt`). Assumes nothing.
use mathlib.Core.Path.{◌≡◌, refl, ap, ◌∙◌}
use Prim.Native.Nat.{◌<◌}
use lib.ListN.{length, set, length-set}
use native.Mathlib.Omega.{arith}
use Rattle.std.proofs.lemmas.Result.{err_from_is_err_and}
use Rattle.moments.specs.Refusals.{raw_moment, raw_out}
use Rattle.moments.proofs.Turns.{fill, fill_first, raw_at, raw_done}
use Rattle.moments.proofs.raw_moment.Goals as goal

pub returns-in_err-check_raw : goal.returns-in_err-check_raw
unfolding raw_moment raw_out
returns-in_err-check_raw c =
    let p = err_from_is_err_and c.from_residual.result c.from_residual.ensures.1 in
    (rw (p.1, p.2, ← c.in_err-check_raw.ensures) refl, rw (← c.in_err-check_raw.ensures) refl)

pub loop-i-init : goal.loop-i-init
loop-i-init c = fill_first _ _ c.args.out.now (grind arith)

pub loop-i-preserved : goal.loop-i-preserved
loop-i-preserved c = let l = c.loop-i in
    let old = set c.args.out.now 0 c.args.mean in
    let e : length old ≡ length c.args.out.now = length-set c.args.out.now 0 c.args.mean in
    let r : l.i < length c.args.out.now = grind arith in
    let h : l.i < length old = omega arith in
    ap (λ w. set w l.i c.raw_one.result) l.invariant ∙ fill _ _ old l.i _ h (raw_at _ _ l.i _ l.auto.i c.raw_one.ensures)

pub returns : goal.returns
returns c = let l = c.loop-i in
    let e : l.i ≡ c.max-need.result = omega arith in
    raw_done _ _ _ _ _ l.i c.in_ok-check_raw.ensures c.max-need.ensures e l.auto.i l.invariant
