-- Rows put one by one in front of a list: after i turns the first i stand there, six numbers each. By induction on the rows. Assumes nothing.
use Prim.Native.Nat.{ℕ, zero, suc, ◌+◌, ◌*◌, ◌≤◌, ◌<◌}
use mathlib.Core.Path.{◌≡◌, refl, sym, ◌∙◌, ap}
use mathlib.Core.List.{List, [], ◌∷◌, ◌++◌}
use native.Mathlib.Numerals.{add-one}
use native.Mathlib.Omega.{arith}
use lib.Ieee.{Float}
use lib.ListN.{drop, get_or, length, length-append, length-drop, take}
use lib.Seq.{drop-append-add, drop-drop, length-take-le, take-append_seam}
use Rattle.fit_state.proofs.Places.{row_within}
use Rattle.fit_state.specs.Rows.{six, with_row_in, flat_of}
use Rattle.fit_state.specs.declared.row.FitResultRow.{FitResultRow}
use Rattle.fit_state.proofs.Flats.{length_flat}
use Rattle.run_requests.specs.Runs.{with_rows}

flat_next : (rows : List FitResultRow) (i : ℕ) (none : FitResultRow) → i < length rows → flat_of (take (suc i) rows) ≡ flat_of (take i rows) ++ six (get_or rows i none)
unfolding flat_of
flat_next [] i none h = absurd (omega (arith, h))
flat_next (r ∷ rows) zero none h = refl
flat_next (r ∷ rows) (suc i) none h = ap (λ (l : List Float). six r ++ l) (flat_next rows i none (omega (arith, h)))

flat_long : (rows : List FitResultRow) (i : ℕ) → i ≤ length rows → length (flat_of (take i rows)) ≡ 6 * i
flat_long rows i h = length_flat (take i rows) ∙ ap (λ (k : ℕ). 6 * k) (length-take-le i rows h)

-- a row behind the numbers p, which stand in front of xs
six_put : (p xs : List Float) (at : ℕ) (r : FitResultRow) → at ≡ length p → take at (p ++ drop (length p) xs) ++ six r ++ drop (at + 6) (p ++ drop (length p) xs) ≡ (p ++ six r) ++ drop (length (p ++ six r)) xs
six_put p xs at r h =
    let q = drop (length p) xs in
    rw (h, take-append_seam p q, drop-append-add p q 6, drop-drop 6 (length p) xs, length-append p (six r))

module _ (rows : List FitResultRow) (xs : List Float) (i : ℕ) where
  pub next_put : (none : FitResultRow) → i < length rows → 6 * length rows ≤ length xs → with_row_in (with_rows (take i rows) xs) i (get_or rows i none) ≡ with_rows (take (i + 1) rows) xs
  next_put none h l =
      let long : length (flat_of (take i rows)) ≡ 6 * i = flat_long rows i (omega arith) in
      let room : 6 * i + 6 ≤ length (with_rows (take i rows) xs) = omega (arith, h, l, long, length-append (flat_of (take i rows)) (drop (length (flat_of (take i rows))) xs), length-drop (length (flat_of (take i rows))) xs) in
      rw (row_within (with_rows (take i rows) xs) i (get_or rows i none) room, add-one i, flat_next rows i none h) (six_put (flat_of (take i rows)) xs (6 * i) (get_or rows i none) (sym long))

pub none_put : (rows : List FitResultRow) (xs : List Float) → xs ≡ with_rows (take 0 rows) xs
unfolding flat_of
none_put rows xs = refl
