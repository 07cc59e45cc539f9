-- Rows as a loop puts them: of n, i are put, and the starts of n - i stand in what is left of the request. Assumes nothing.
use Prim.Native.Nat.{ℕ, suc, ◌+◌, ◌-◌, ◌≤◌, ◌<◌}
use mathlib.Core.Path.{◌≡◌}
use mathlib.Core.List.{List, [], ◌++◌}
use native.Mathlib.Omega.{arith}
use native.Mathlib.Numerals.{add-one}
use lib.IntN.{ℤ}
use lib.Ieee.{Float}
use Rattle.text.specs.Decode.{got, bad}
use Rattle.protocol.specs.Words.{next_instant}
use Rattle.protocol_lists.specs.Lists.{values_of}
use Rattle.replies.specs.declared.forms.Columns.{Columns}
use Rattle.text_write.specs.declared.Text.{Text}
use Rattle.printing_values.specs.Rows.{entries, row, rows_from}
use Rattle.text_write.specs.Appending.{Puts}
use Rattle.printing_values.specs.Texts.{fractions, instant}
use Rattle.text_write.proofs.Putting.{Left, left_none, left_some, puts_then}

module _ (columns : Columns) (xs : List Float) (n i : ℕ) (s : List ℕ) {t : Text} {ts : List (List ℕ)} where
  -- one row more
  pub left_row : {t₁ t₂ t₃ : Text} {at : ℤ} {s' : List ℕ} → i < n → next_instant s ≡ got at s'
      → Left t ts t₁ (rows_from columns xs i (values_of next_instant (n - i) s))
      → Puts t₁ t₂ (instant at) → Puts t₂ t₃ (fractions (entries columns xs i))
      → Left t ts t₃ (rows_from columns xs (i + 1) (values_of next_instant (n - (i + 1)) s'))
  unfolding rows_from values_of
  left_row {at = at} {s' = s'} h e l p q =
      let m : n - i ≡ suc (n - (i + 1)) = omega arith in
      let f : rows_from columns xs i (values_of next_instant (n - i) s) ≡ row columns xs i at ++ rows_from columns xs (i + 1) (values_of next_instant (n - (i + 1)) s') = rw (m, e, add-one i) in
      left_some {us = row columns xs i at} (rw f at l) (puts_then p q)

  -- what follows is no start
  pub no_start : {t₁ : Text} → i < n → next_instant s ≡ bad → Left t ts t₁ (rows_from columns xs i (values_of next_instant (n - i) s)) → Puts t t₁ ts
  unfolding rows_from values_of
  no_start h e l =
      let m : n - i ≡ suc (n - (i + 1)) = omega arith in
      let f : rows_from columns xs i (values_of next_instant (n - i) s) ≡ [] = rw (m, e) in
      left_none (rw f at l)

  -- no row is left
  pub no_row : {t₁ : Text} → n ≤ i → Left t ts t₁ (rows_from columns xs i (values_of next_instant (n - i) s)) → Puts t t₁ ts
  unfolding rows_from values_of
  no_row h l =
      let m : n - i ≡ 0 = omega arith in
      let f : rows_from columns xs i (values_of next_instant (n - i) s) ≡ [] = rw m in
      left_none (rw f at l)
