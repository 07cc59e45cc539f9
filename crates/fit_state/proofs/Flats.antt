-- Rows as flat numbers: a row put behind the others, and the rows read back. Assumes nothing.
use mathlib.Core.Path.{◌≡◌, refl, sym, ap, ◌∙◌}
use mathlib.Core.List.{List, [], ◌∷◌, ◌++◌}
use Prim.Native.Nat.{ℕ, zero, suc, ◌+◌, ◌*◌, ◌-◌, ◌≤◌, ◌<◌}
use native.Mathlib.Omega.{arith}
use lib.ListN.{length, get_or, take, replicate, length-append, length-replicate}
use lib.Seq.{take-append_seam, drop-append-add, drop-drop, get_or-take, take-suc, take-length}
use lib.Ieee.{Float, nan}
use Rattle.std.specs.Simd.{first_chunks}
use Rattle.float.specs.Constants.{nought}
use Rattle.std.proofs.Common.{drop}
use Rattle.fit_state.proofs.Places.{row_put}
use Rattle.fit_state.specs.Rows.{six, row_at, row_from, flat_of, flat_in64, rows_at, with_row_at}
use Rattle.fit_state.specs.declared.row.FitResultRow.{FitResultRow}

-- ---- lengths
pub length_flat : (rows : List FitResultRow) → length (flat_of rows) ≡ 6 * length rows
unfolding flat_of
length_flat [] = refl
length_flat (r ∷ rows) = omega (arith, length_flat rows)

pub length_flat_64 : (rows : List FitResultRow) → length rows ≤ 64 → length (flat_in64 rows) ≡ 384
unfolding flat_in64
length_flat_64 rows h = rw (length-append, length-replicate) (omega (arith, length_flat rows))

-- ---- a row put behind the others
flat_snoc : (rows : List FitResultRow) (r : FitResultRow) → flat_of (rows ++ (r ∷ [])) ≡ flat_of rows ++ six r
unfolding flat_of
flat_snoc [] r = refl
flat_snoc (q ∷ rows) r = ap (λ l. six q ++ l) (flat_snoc rows r)

-- six numbers in place of the six behind p
six_behind : (p q : List Float) (a b c d e f : Float) (at : ℕ) (r : FitResultRow) → at ≡ length p → take at (p ++ a ∷ b ∷ c ∷ d ∷ e ∷ f ∷ q) ++ six r ++ drop (at + 6) (p ++ a ∷ b ∷ c ∷ d ∷ e ∷ f ∷ q) ≡ (p ++ six r) ++ q
six_behind p q a b c d e f at r h =
    let l = a ∷ b ∷ c ∷ d ∷ e ∷ f ∷ q in
    rw (h, take-append_seam p l, drop-append-add p l 6)

six_less : (rows : List FitResultRow) (r : FitResultRow) → length rows < 64 → 384 - length (flat_of rows) ≡ suc (suc (suc (suc (suc (suc (384 - length (flat_of (rows ++ (r ∷ [])))))))))
six_less rows r h = omega (arith, length_flat rows, length_flat (rows ++ (r ∷ [])), length-append rows (r ∷ []))

pub row_behind : (rows : List FitResultRow) (r : FitResultRow) → length rows < 64 → with_row_at (flat_in64 rows) (length rows) r ≡ flat_in64 (rows ++ (r ∷ []))
unfolding flat_in64
row_behind rows r h =
    row_put (flat_in64 rows) (length rows) r (omega (arith, length_flat_64 rows (omega (arith, h)), h))
    ∙ rw (six_less rows r h)
    (six_behind (flat_of rows) (replicate (384 - length (flat_of (rows ++ (r ∷ [])))) nought) nought nought nought nought nought nought (6 * length rows) r (sym (length_flat rows))
    ∙ rw (flat_snoc rows r))

-- ---- the rows read back
next_row : (r : FitResultRow) (l : List Float) (k : ℕ) → row_at (six r ++ l) (suc k) ≡ row_at l k
next_row r l k = ap (λ n. row_from (drop n (six r ++ l))) (next k)
  where
    next : (k : ℕ) → 6 * suc k ≡ suc (suc (suc (suc (suc (suc (6 * k))))))
    next k = omega arith

row_back : (rows : List FitResultRow) (q : List Float) (k : ℕ) (none : FitResultRow) → k < length rows → row_at (flat_of rows ++ q) k ≡ get_or rows k none
unfolding flat_of
row_back [] q k none h = absurd (omega (arith, h))
row_back (r ∷ rows) q zero none h = refl
row_back (r ∷ rows) q (suc k) none h = next_row r (flat_of rows ++ q) k ∙ row_back rows q k none (omega (arith, h))

first_back : (rows : List FitResultRow) (q : List Float) (k : ℕ) → k ≤ length rows → rows_at (flat_of rows ++ q) k ≡ take k rows
unfolding rows_at
first_back rows q zero h = refl
first_back rows q (suc k) h =
    let none = row_at (flat_of rows ++ q) k in
    rw (first_back rows q k (omega (arith, h)), row_back rows q k none h) (sym (take-suc rows k none h))

pub rows_back : (rows : List FitResultRow) → rows_at (flat_in64 rows) (length rows) ≡ rows
unfolding flat_in64
rows_back rows = first_back rows (replicate (384 - length (flat_of rows)) nought) (length rows) (omega arith) ∙ take-length rows

-- ---- flat numbers, six at a time
six_first : (l : List Float) → row_from (take 6 l) ≡ row_at l 0
six_first l = rw (get_or-take 6 l 0 nan (omega arith), get_or-take 6 l 1 nan (omega arith), get_or-take 6 l 2 nan (omega arith), get_or-take 6 l 3 nan (omega arith), get_or-take 6 l 4 nan (omega arith), get_or-take 6 l 5 nan (omega arith)) refl

row_later : (l : List Float) (i : ℕ) → row_at (drop 6 l) i ≡ row_at l (suc i)
row_later l i = ap row_from (drop-drop (6 * i) 6 l ∙ ap (λ n. drop n l) (six_on i))
  where
    six_on : (i : ℕ) → 6 + 6 * i ≡ 6 * suc i
    six_on i = omega arith

pub six_at : (l : List Float) (k i : ℕ) (none : List Float) → i < k → row_from (get_or (first_chunks 6 k l) i none) ≡ row_at l i
six_at l zero i none h = absurd (omega (arith, h))
six_at l (suc k) zero none h = six_first l
six_at l (suc k) (suc i) none h = six_at (drop 6 l) k i none (omega (arith, h)) ∙ row_later l i
