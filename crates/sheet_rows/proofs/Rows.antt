-- A row is nine texts put one after another at the front, whose lengths add up to less than 128. Assumes nothing.
use Prim.Native.Nat.{◌≤◌}
use mathlib.Core.Path.{◌≡◌}
use mathlib.Core.List.{flatten}
use native.Mathlib.Omega.{arith}
use lib.ListN.{length, length-append, take}
use Rattle.text.specs.Bytes.{bytes}
use Rattle.text.specs.Print.{decimal, hex, shown}
use Rattle.text.proofs.Digits.{decimal_short, hex_length, shown_short}
use Rattle.text_write.proofs.Appending.{appended_front}
use Rattle.text_write.proofs.Putting.{puts_first, puts_one, puts_whole}
use Rattle.text_write.specs.Appending.{Appended}
use Rattle.text_write.specs.declared.Text.{Text}
use Rattle.sheet_rows.specs.Rows.{row_line}
use Rattle.sheet_rows.specs.declared.Row.{Row}

pub row_short : (r : Row) → length (row_line r) ≤ 128
unfolding row_line
row_short r =
    simp length-append
    (omega (arith, shown_short r.at, decimal_short r.long, decimal_short r.short, hex_length r.size))

module _ {t₀ t₁ t₂ t₃ t₄ t₅ t₆ t₇ t₈ t₉ : Text} (r : Row) where
  pub row_made : t₀.end ≡ 0 → 128 ≤ length t₀.out.now
      → Appended t₀ t₁ (bytes "(row (at ")
      → Appended t₁ t₂ (shown r.at)
      → Appended t₂ t₃ (bytes ") (long ")
      → Appended t₃ t₄ (decimal r.long)
      → Appended t₄ t₅ (bytes ") (short ")
      → Appended t₅ t₆ (decimal r.short)
      → Appended t₆ t₇ (bytes ") (size ")
      → Appended t₇ t₈ (hex r.size)
      → Appended t₈ t₉ (bytes "))\n")
      → take t₉.end t₉.out.now ≡ row_line r
  unfolding row_line flatten
  row_made z h p₁ p₂ p₃ p₄ p₅ p₆ p₇ p₈ p₉ =
      appended_front z (omega (arith, row_short r))
      (puts_whole (rw z (omega (arith, row_short r)))
      (puts_first p₁ (puts_first p₂ (puts_first p₃ (puts_first p₄ (puts_first p₅ (puts_first p₆ (puts_first p₇ (puts_first p₈ (puts_one p₉))))))))))
