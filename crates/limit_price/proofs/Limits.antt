-- The limit price from what its parts answer: the lots between the positions, the direction and the sum. The code holds positions as bits, which are read back. Assumes nothing.
use mathlib.Core.Path.{◌≡◌, refl, sym, ap, ◌∙◌, subst}
use Prim.Native.Nat.{ℕ, zero, suc, ◌≤◌, ◌<◌}
use native.Mathlib.Omega.{arith}
use lib.Dec.{T, le→leb}
use lib.IntN.{ℤ, pos, nat_abs, ◌+ℤ◌, ◌-ℤ◌}
use lib.Ieee.{Float, nan, binary64, of_int, in_float, to_signed}
use mir.Syntax.{w64}
use mir.Val.{to_z, of_z, SFits}
use mir.ValLaws.{to_z-of_z}
use borrow.Author.Tests.{le-ltb, lt-ltb}
use Rattle.std.proofs.Common.{Ok, Err}
use Rattle.std.specs.Int.{int_signum}
use Rattle.std.proofs.lemmas.Int.{ints}
use Rattle.refusal.specs.declared.Refusal.TheVariants.{TooManyLots}
use Rattle.prices.specs.Prices.{◌⊘◌}
use Rattle.limit_price.specs.LimitPrice.{lot_number, lot_price, summed, limit_from, limit_price_sigmoid}
use Rattle.limit_price.proofs.Lots.{lots_fit}

-- a few lots are a number that f64 counts
pub few : (n : ℕ) → n ≤ 1000000 → T (in_float binary64 (pos n))
unfolding in_float
few n h = le→leb n 9007199254740992 (omega arith)

-- ---- the walk over d lots
module _ (f w max : Float) (current d : ℤ) where
  none : nat_abs d ≡ 0 → Ok nan ≡ limit_from f w max current d
  none h = rw h refl

  refused : 1000000 < nat_abs d → Err TooManyLots ≡ limit_from f w max current d
  refused h = rw (lt-ltb 1000000 (nat_abs d) h) refl

  priced : (n : ℕ) (total : Float) → n ≡ nat_abs d → (n ≡ 0 → ⊥) → n ≤ 1000000 → total ≡ summed (lot_price f w max current (int_signum d)) n → Ok (total ⊘ of_int binary64 (pos n)) ≡ limit_from f w max current d
  priced zero total e z l s = absurd (z refl)
  priced (suc n) total e z l s = rw (sym e, le-ltb 1000000 (suc n) l, s) refl

module _ (t p f w max : Float) (target current : ℤ) (et : target ≡ to_signed 63 t) (ec : current ≡ to_signed 63 p) (ft : SFits w64 target) (fc : SFits w64 current) where
  module _ (lots : ℕ) (el : lots ≡ nat_abs (to_z w64 (of_z w64 target) -ℤ to_z w64 (of_z w64 current))) where
    between : lots ≡ nat_abs (target -ℤ current)
    between = simp to_z-of_z at el

    limit_is : limit_price_sigmoid t p f w max ≡ limit_from f w max current (target -ℤ current)
    unfolding limit_price_sigmoid
    limit_is = rw (sym et, sym ec) refl

    pub walks_none : lots ≡ 0 → Ok nan ≡ limit_price_sigmoid t p f w max
    walks_none h = none f w max current (target -ℤ current) (sym between ∙ h) ∙ sym limit_is

    pub walks_too_many : 1000000 < lots → Err TooManyLots ≡ limit_price_sigmoid t p f w max
    walks_too_many h = refused f w max current (target -ℤ current) (subst (λ n. 1000000 < n) between h) ∙ sym limit_is

    module _ (near : lots ≤ 1000000) (sgn : ℤ) (es : sgn ≡ int_signum (to_z w64 (of_z w64 (to_z w64 (of_z w64 target) -ℤ to_z w64 (of_z w64 current))))) (fs : SFits w64 sgn) where
      way : sgn ≡ int_signum (target -ℤ current)
      way = es ∙ ap int_signum (omega (arith, ints, between))

      pub walkable : (i : ℕ) → i ≤ lots → SFits w64 (lot_number (to_z w64 (of_z w64 current)) (to_z w64 (of_z w64 sgn)) i)
      walkable i h =
          let e : current +ℤ (target -ℤ current) ≡ target = omega (arith, ints) in
          rw (to_z-of_z w64 current fc, to_z-of_z w64 sgn fs, way) (lots_fit current (target -ℤ current) i fc (subst (SFits w64) (sym e) ft) (omega (arith, between)))

      pub walks : (total : Float) → (lots ≡ 0 → ⊥) → total ≡ summed (lot_price f w max (to_z w64 (of_z w64 current)) (to_z w64 (of_z w64 sgn))) lots → Ok (total ⊘ of_int binary64 (pos lots)) ≡ limit_price_sigmoid t p f w max
      walks total z s =
          let e : total ≡ summed (lot_price f w max current (int_signum (target -ℤ current))) lots =
          s ∙ ap (λ (z : ℤ). summed (lot_price f w max z (to_z w64 (of_z w64 sgn))) lots) (to_z-of_z w64 current fc)
          ∙ ap (λ (z : ℤ). summed (lot_price f w max current z) lots) (to_z-of_z w64 sgn fs ∙ way) in
          priced f w max current (target -ℤ current) lots total between z near e ∙ sym limit_is
