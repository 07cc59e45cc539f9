-- Why a sheet is turned away, as it is printed: a number, and perhaps a blank and a line. Assumes nothing.
use Prim.Native.Nat.{ℕ, ◌+◌, ◌≤◌}
use mathlib.Core.List.{List, ◌++◌, append_assoc}
use native.Mathlib.Omega.{arith}
use lib.ListN.{length, length-append}
use Rattle.refusal.specs.Numbers.{number_of}
use Rattle.refusal.specs.declared.Refusal.TheVariants as refusals
use Rattle.text.proofs.Digits.{decimal_short}
use Rattle.text_write.specs.Appending.{Appended}
use Rattle.text_write.specs.declared.Text.{Text}
use Rattle.text_write.proofs.Appending.{appended_then}
use Rattle.sheet_read.specs.declared.SheetError.{SheetError}
use Rattle.sheet_read.specs.declared.SheetError.TheVariants.{Refused, NotASpan}
use Rattle.sheet.specs.CountSheet.{reason}

pub reason_short : (e : SheetError) → length (reason e) ≤ 41
unfolding reason
reason_short (Refused e) = omega (arith, decimal_short (number_of e))
reason_short (NotASpan line) = simp length-append (omega (arith, decimal_short (number_of refusals.NotASpan), decimal_short line))

-- three texts one after another
pub appended_three : {t₀ t₁ t₂ t₃ : Text} {u v w : List ℕ} → t₀.end + length u + length v + length w ≤ length t₀.out.now
    → Appended t₀ t₁ u → Appended t₁ t₂ v → Appended t₂ t₃ w → Appended t₀ t₃ (u ++ (v ++ w))
appended_three {u = u} {v = v} {w = w} h p q r = rw append_assoc at (appended_then (simp length-append (omega arith)) (appended_then (omega arith) p q) r)
