-- `moments::centered_moment` meets its contract: after j turns the sum has j terms (`Turns.antt`). Assumes nothing.
use mathlib.Core.Path.{◌≡◌, refl}
use Rattle.std.proofs.lemmas.Result.{err_from_is_err_and}
use Rattle.moments.specs.Refusals.{centred_moment}
use Prim.Native.Nat.{◌+◌}
use lib.Ieee.{of_bits, neg}
use native.Mathlib.Omega.{arith}
use Rattle.moments.proofs.Turns.{centred_start, centred_turn, centred_done}
use Rattle.moments.proofs.centered_moment.Goals as goal

pub returns-in_err-check_centred : goal.returns-in_err-check_centred
unfolding centred_moment
returns-in_err-check_centred c =
    let p = err_from_is_err_and c.from_residual.result c.from_residual.ensures.1 in
    rw (p.1, p.2, ← c.in_err-check_centred.ensures) refl

pub loop-j-init : goal.loop-j-init
unfolding of_bits
loop-j-init c = centred_start _ _

pub loop-j-preserved : goal.loop-j-preserved
unfolding of_bits neg
loop-j-preserved c =
    centred_turn _ _ c.loop-j.j _ _ _ _ _ c.loop-j.invariant c.powi-sign.ensures c.comb-combin.ensures c.powi-p.ensures c.numbered_at-a_1.ensures

pub returns-in_ok-check_centred-2 : goal.returns-in_ok-check_centred-2
unfolding of_bits neg
returns-in_ok-check_centred-2 c =
    let e : c.loop-j.j + 1 ≡ c.args.order + 1 = omega arith in
    centred_done _ _ (c.loop-j.j + 1) _ c.in_ok-check_centred.ensures e
    (centred_turn _ _ c.loop-j.j _ _ _ _ _ c.loop-j.invariant c.powi-sign.ensures c.comb-combin.ensures c.powi-p.ensures c.numbered_at-a_1.ensures)
