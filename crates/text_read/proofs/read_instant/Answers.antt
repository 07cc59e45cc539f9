-- `text_read::read_instant` meets its contract, by whether a minus is in front and by what `read_natural` answers (`Steps.antt`). Assumes nothing.
use Prim.Native.Nat.{◌-◌, ◌^◌}
use native.Mathlib.Omega.{arith}
use mir.Syntax.{w64}
use mir.ValLaws.{to_z_pos, to_z-of_z}
use Rattle.text.specs.Decode.{natural}
use Rattle.text.proofs.Steps.{instant_minus, instant_plus, minus_zero, minus_more, up_to_bound}
use Rattle.text_read.proofs.read_instant.Goals as goal

pub returns-in_err-n : goal.returns-in_err-n
returns-in_err-n c =
    rw (c.from_residual.ensures, instant_minus c.args.s.now c.in-Some.digits.now c.in-Some.ensures, c.in_err-n.ensures)

pub returns-then-n-eq0 : goal.returns-then-n-eq0
returns-then-n-eq0 c =
    rw (instant_minus c.args.s.now c.in-Some.digits.now c.in-Some.ensures, c.in_ok-n.ensures)
    (minus_zero c.in_ok-n.n c.in_ok-n.rest.now c.if-n-eq0.true)

pub returns-in-Some : goal.returns-in-Some
returns-in-Some c =
    rw (instant_minus c.args.s.now c.in-Some.digits.now c.in-Some.ensures, c.in_ok-n.ensures, to_z-of_z w64 c.negative.result (record { sfits = c.negative.type_inv }), c.negative.ensures)
    (minus_more c.in_ok-n.n c.in_ok-n.rest.now (omega arith))

pub returns-in_err-n-2 : goal.returns-in_err-n-2
returns-in_err-n-2 c = rw (c.from_residual-in_err-n-2.ensures, instant_plus c.args.s.now c.in_default.ensures, c.in_err-n-2.ensures)

pub returns : goal.returns
returns c =
    let n = c.in_ok-n-2 in
    let e = up_to_bound (2 ^ 63 - 1) n.n n.rest.now (natural c.args.s.now) n.ensures in
    rw (instant_plus c.args.s.now c.in_default.ensures, n.ensures, to_z_pos w64 n.n (omega (arith, e)))
