-- Whole positions, the lots between them, and the sum over the lots. Assumes nothing.
use mathlib.Core.Path.{◌≡◌, sym, ap, ◌∙◌, subst}
use Prim.Native.Nat.{ℕ, zero, suc, min, ◌+◌, ◌*◌, ◌≤◌, ◌<◌}
use native.Mathlib.Omega.{arith}
use native.Mathlib.Numerals.{add-one}
use lib.IntN.{ℤ, pos, negsuc, nat_abs, ◌+ℤ◌, ◌*ℤ◌, suc_ℤ-*ℤ, *ℤ-zero, *ℤ_comm, +ℤ_assoc, +ℤ_idr}
use Rattle.std.specs.Int.{int_signum}
use Rattle.std.proofs.lemmas.Int.{ints}
use mir.Syntax.{w64}
use mir.Val.{to_z, of_z, SFits}
use mir.ValLaws.{to_z-of_z}
use Rattle.prices.specs.Prices.{◌⊕◌, ◌⊘◌, inv_price_sigmoid}
use Rattle.limit_price.specs.LimitPrice.{lot_number, lot_price, summed}
use lib.Ieee.{Float, binary64, of_int}

-- ---- the lots on the way
pub lot_first : (c s : ℤ) → lot_number c s 0 ≡ c
lot_first c s = ap (λ z. c +ℤ z) (*ℤ-zero s) ∙ +ℤ_idr c

-- one lot more
pub lot_next : (current sgn : ℤ) (i : ℕ) → lot_number current sgn i +ℤ sgn ≡ lot_number current sgn (i + 1)
lot_next c s i =
    let e : s *ℤ pos (suc i) ≡ s *ℤ pos i +ℤ s = *ℤ_comm s (pos (suc i)) ∙ suc_ℤ-*ℤ (pos i) s ∙ ap (λ z. z +ℤ s) (*ℤ_comm (pos i) s) in
    +ℤ_assoc c (s *ℤ pos i) s ∙ ap (λ z. c +ℤ z) (sym e) ∙ ap (lot_number c s) (sym (add-one i))

-- every lot up to the one that is d from c
pub lots_fit : (c d : ℤ) (i : ℕ) → SFits w64 c → SFits w64 (c +ℤ d) → i ≤ nat_abs d → SFits w64 (lot_number c (int_signum d) i)
lots_fit c (pos zero) i f g h = omega (arith, ints)
lots_fit c (pos (suc n)) i f g h =
    let one : min (suc n) 1 ≡ 1 = omega arith in
    let e : min (suc n) 1 * i ≡ i = rw one (omega arith) in
    omega (arith, ints, e)
lots_fit c (negsuc n) i f g h = omega (arith, ints)

-- ---- the sum
pub sum_more : (f w max : Float) (current sgn : ℤ) (i : ℕ) (lot : ℤ) (sum x y : Float) → lot ≡ lot_number current sgn (i + 1) → x ≡ of_int binary64 lot → y ≡ inv_price_sigmoid f w (x ⊘ max)
    → sum ≡ summed (lot_price f w max current sgn) i → sum ⊕ y ≡ summed (lot_price f w max current sgn) (i + 1)
unfolding summed
sum_more f w max current sgn i lot sum x y e h g s =
    let price : y ≡ lot_price f w max current sgn (i + 1) =
    g ∙ ap (λ z. inv_price_sigmoid f w (z ⊘ max)) (h ∙ ap (of_int binary64) e) in
    ap (λ z. z ⊕ y) s
    ∙ ap (λ z. summed (lot_price f w max current sgn) i ⊕ z) (price ∙ ap (lot_price f w max current sgn) (add-one i))
    ∙ ap (summed (lot_price f w max current sgn)) (sym (add-one i))

-- ---- a turn of the loop, which holds positions as bits
module _ (current sgn : ℤ) (fc : SFits w64 current) (fs : SFits w64 sgn) where
  pub read_lot : (i : ℕ) → lot_number (to_z w64 (of_z w64 current)) (to_z w64 (of_z w64 sgn)) i ≡ lot_number current sgn i
  read_lot i =
      ap (λ (z : ℤ). lot_number z (to_z w64 (of_z w64 sgn)) i) (to_z-of_z w64 current fc) ∙ ap (λ (z : ℤ). lot_number current z i) (to_z-of_z w64 sgn fs)

  pub first_lot : to_z w64 (of_z w64 current) ≡ lot_number (to_z w64 (of_z w64 current)) (to_z w64 (of_z w64 sgn)) 0
  first_lot = sym (lot_first (to_z w64 (of_z w64 current)) (to_z w64 (of_z w64 sgn)))

  pub sum_done : (f w max : Float) (lots i : ℕ) (sum : Float) → i ≡ lots → sum ≡ summed (lot_price f w max (to_z w64 (of_z w64 current)) (to_z w64 (of_z w64 sgn))) i → sum ≡ summed (lot_price f w max current sgn) lots
  sum_done f w max lots i sum e s =
      s
      ∙ ap (λ (z : ℤ). summed (lot_price f w max z (to_z w64 (of_z w64 sgn))) i) (to_z-of_z w64 current fc)
      ∙ ap (λ (z : ℤ). summed (lot_price f w max current z) i) (to_z-of_z w64 sgn fs)
      ∙ ap (summed (lot_price f w max current sgn)) e

  module _ (lots i : ℕ) (fit : (j : ℕ) → j ≤ lots → SFits w64 (lot_number current sgn j)) (l : i < lots) (lot : ℤ) (e : lot ≡ lot_number (to_z w64 (of_z w64 current)) (to_z w64 (of_z w64 sgn)) i) where
    moved : lot +ℤ to_z w64 (of_z w64 sgn) ≡ lot_number (to_z w64 (of_z w64 current)) (to_z w64 (of_z w64 sgn)) (i + 1)
    moved = ap (λ (z : ℤ). z +ℤ to_z w64 (of_z w64 sgn)) e ∙ lot_next (to_z w64 (of_z w64 current)) (to_z w64 (of_z w64 sgn)) i

    pub next_fits : SFits w64 (lot +ℤ to_z w64 (of_z w64 sgn))
    next_fits = subst (SFits w64) (sym (moved ∙ read_lot (i + 1))) (fit (i + 1) (omega arith))

    pub next_lot : to_z w64 (of_z w64 (lot +ℤ to_z w64 (of_z w64 sgn))) ≡ lot_number (to_z w64 (of_z w64 current)) (to_z w64 (of_z w64 sgn)) (i + 1)
    next_lot = to_z-of_z w64 (lot +ℤ to_z w64 (of_z w64 sgn)) next_fits ∙ moved
