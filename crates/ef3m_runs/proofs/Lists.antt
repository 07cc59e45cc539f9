-- The rows where the first i come from flat numbers and the others are as they were: how many there are, none of them filled, and one more filled. Assumes nothing.
use mathlib.Core.Path.{◌≡◌, refl, sym, ◌∙◌, ap}
use Prim.Native.Nat.{ℕ, zero, suc, ◌+◌, ◌≤◌, ◌<◌}
use native.Mathlib.Numerals.{add-one}
use native.Mathlib.Omega.{arith}
use mathlib.Core.List.{List, [], ◌∷◌, ◌++◌, append_assoc}
use lib.ListN.{length, set, drop, get_or, length-append, length-drop}
use lib.Seq.{drop-cons, set_at}
use lib.Ieee.{Float}
use Rattle.fit_state.specs.Rows.{rows_at, row_at}
use Rattle.fit_state.specs.declared.row.FitResultRow.{FitResultRow}

length_rows : (l : List Float) (i : ℕ) → length (rows_at l i) ≡ i
unfolding rows_at
length_rows l zero = refl
length_rows l (suc i) = length-append (rows_at l i) (row_at l i ∷ []) ∙ ap (λ (k : ℕ). k + 1) (length_rows l i) ∙ add-one i

abbrev pub cur : List Float → List FitResultRow → ℕ → List FitResultRow
cur l ys i = rows_at l i ++ drop i ys

pub length_cur : (l : List Float) (ys : List FitResultRow) (i : ℕ) → i ≤ length ys → length (cur l ys i) ≡ length ys
length_cur l ys i h = omega (arith, length_rows l i, length-append (rows_at l i) (drop i ys), length-drop i ys)

pub next_cur : (l : List Float) (ys : List FitResultRow) (i : ℕ) (r : FitResultRow) → i < length ys → r ≡ row_at l i → set (cur l ys i) i r ≡ cur l ys (i + 1)
unfolding rows_at
next_cur l ys i r h e =
    ap (λ (zs : List FitResultRow). set (rows_at l i ++ zs) i r) (drop-cons ys i r h) ∙ set_at (rows_at l i) (get_or ys i r) (drop (suc i) ys) r i (length_rows l i)
    ∙ sym (append_assoc (rows_at l i) (r ∷ []) (drop (suc i) ys)) ∙ ap (λ (x : FitResultRow). (rows_at l i ++ (x ∷ [])) ++ drop (suc i) ys) e ∙ ap (cur l ys) (sym (add-one i))

pub starts : (l : List Float) (ys : List FitResultRow) → ys ≡ cur l ys 0
unfolding rows_at
starts l ys = refl
