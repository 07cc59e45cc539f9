-- A row put in its place of flat numbers: what stands before it and behind it stays. Assumes nothing.
use mathlib.Core.Path.{◌≡◌, refl}
use mathlib.Core.List.{List, ◌++◌, append_assoc}
use Prim.Native.Nat.{ℕ, ◌+◌, ◌*◌, ◌/◌, ◌≤◌}
use native.Mathlib.Omega.{arith}
use lib.Ieee.{Float}
use borrow.Author.Tests.{lt-ltb}
use lib.ListN.{length, take, drop}
use lib.Seq.{drop-drop}
use Rattle.std.proofs.lemmas.List.Edits.{sets-eq}
use Rattle.fit_state.specs.Rows.{six, with_row_at, with_row_in}
use Rattle.fit_state.specs.declared.row.FitResultRow.{FitResultRow}

pub row_put : (l : List Float) (i : ℕ) (r : FitResultRow) → 6 * i + 6 ≤ length l → with_row_at l i r ≡ take (6 * i) l ++ six r ++ drop (6 * i + 6) l
row_put l i r h = sets-eq (six r) l (6 * i) h

pub row_within : (l : List Float) (i : ℕ) (r : FitResultRow) → 6 * i + 6 ≤ length l → with_row_in l i r ≡ take (6 * i) l ++ six r ++ drop (6 * i + 6) l
row_within l i r h = rw (lt-ltb i (length l / 6) (omega (arith, h))) (row_put l i r h)

-- six numbers copied there
pub row_copied : (l numbers : List Float) (i n : ℕ) (r : FitResultRow) → 6 * i + 6 ≤ length l → n ≡ 6 → numbers ≡ six r → take (6 * i) l ++ (numbers ++ drop n (drop (6 * i) l)) ≡ with_row_at l i r
row_copied l numbers i n r h e s = rw (e, s, row_put l i r h, drop-drop 6 (6 * i) l, append_assoc (take (6 * i) l)) refl
