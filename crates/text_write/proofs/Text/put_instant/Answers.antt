-- `Text::put_instant` meets its contract. Below zero the minus and the digits go into an array that has room for both, so its front is the number, printed.
-- Assumes nothing.
use mathlib.Core.Path.{refl}
use native.Mathlib.Omega.{arith}
use mir.Syntax.{w64}
use mir.ValLaws.{to_z-of_z}
use Rattle.text.proofs.Digits.{decimal_short}
use Rattle.text.proofs.Signs.{shown_above, shown_below}
use Rattle.text_write.proofs.Appending.{appended_front, appended_then}
use Rattle.text_write.proofs.Text.put_instant.Goals as goal

pub returns-then-i-ge0 : goal.returns-then-i-ge0
returns-then-i-ge0 c =
    let same = to_z-of_z w64 c.args.i c.ranges.i in
    rw (shown_above c.args.i (rw same at c.if-i-ge0.true)) (rw same at c.put_decimal.ensures)

pub returns : goal.returns
returns c =
    let same = to_z-of_z w64 c.args.i c.ranges.i in
    let l = decimal_short c.unsigned_abs.result in
    let made = appended_front refl (omega (arith, l)) (appended_then (omega (arith, l)) (rw c.new-text.ensures at c.put.ensures) c.put_decimal-2.ensures) in
    rw (shown_below c.args.i (rw same at c.if-i-ge0.false), ← same, ← c.unsigned_abs.ensures.value)
    (rw (c.as_bytes.ensures, made) at c.put-2.ensures)
