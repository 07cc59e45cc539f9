-- The number alone, or the number, a blank and the line one after another (`appended_three`).
use native.Mathlib.Omega.{arith}
use Rattle.text.proofs.Digits.{decimal_short}
use Rattle.sheet.specs.CountSheet.{reason}
use Rattle.sheet.proofs.Refusing.{appended_three}
use Rattle.sheet.proofs.whole.put_reason.Goals as goal

pub returns-in-Refused : goal.returns-in-Refused
unfolding reason
returns-in-Refused c = rw (c.in-Refused.is, ← c.from.ensures) c.put_decimal.ensures

pub returns-in-NotASpan : goal.returns-in-NotASpan
unfolding reason
returns-in-NotASpan c =
    rw (c.in-NotASpan.is, ← c.from-in-NotASpan.ensures)
    (appended_three (omega (arith, c.requires, decimal_short c.from-in-NotASpan.result, decimal_short c.in-NotASpan.line))
    c.put_decimal-in-NotASpan.ensures c.put.ensures c.put_decimal-in-NotASpan-2.ensures)
