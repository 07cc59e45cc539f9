-- The key of a number that code holds as bits: 2 ^ 63 is added before the cast below zero, and after it from zero up, so that neither overflows. Assumes nothing.
use mathlib.Core.Path.{◌≡◌, refl, sym, ap, ◌∙◌, subst}
use mathlib.Core.Bool.{true, false}
use Prim.Native.Nat.{suc, ◌+◌, ◌<◌}
use native.Mathlib.Omega.{arith}
use lib.Dec.{T}
use lib.IntN.{ℤ, pos, negsuc, nat_abs, ◌-ℤ◌}
use lib.Signed.{lt_z, non_neg}
use mir.Syntax.{w64}
use mir.Val.{to_z, of_z, SFits, Fits}
use mir.ValLaws.{to_z-of_z}
use borrow.Author.Tests.{ltb-true, le-ltb}
use Rattle.float.specs.Keys.{key_of}

never : {X : Type 0} → true ≡ false → X
never e = absurd (subst T e tt)

-- ---- below zero
less : (t : ℤ) → SFits w64 t → lt_z t (pos 0) ≡ true → t -ℤ negsuc 9223372036854775807 ≡ pos (key_of t)
less (pos n) f e = absurd (omega (arith, ltb-true n 0 e))
less (negsuc n) f e = rw (le-ltb 9223372036854775808 (suc n) (omega (arith, f.sfits))) (ap pos (omega (arith, f.sfits)))

small : (t : ℤ) → lt_z t (pos 0) ≡ true → key_of t < 9223372036854775808
small (pos n) e = absurd (omega (arith, ltb-true n 0 e))
small (negsuc n) e = omega arith

module _ (t : ℤ) (f : SFits w64 t) (e : lt_z (to_z w64 (of_z w64 t)) (pos 0) ≡ true) where
  negative : lt_z t (pos 0) ≡ true
  negative = ap (λ (z : ℤ). lt_z z (pos 0)) (sym (to_z-of_z w64 t f)) ∙ e

  raised : to_z w64 (of_z w64 t) -ℤ negsuc 9223372036854775807 ≡ pos (key_of t)
  raised = ap (λ (z : ℤ). z -ℤ negsuc 9223372036854775807) (to_z-of_z w64 t f) ∙ less t f negative

  fits : SFits w64 (pos (key_of t))
  fits = record { sfits = small t negative }

  pub raised_fits : SFits w64 (to_z w64 (of_z w64 t) -ℤ negsuc 9223372036854775807)
  raised_fits = subst (SFits w64) (sym raised) fits

  back : to_z w64 (of_z w64 (to_z w64 (of_z w64 t) -ℤ negsuc 9223372036854775807)) ≡ pos (key_of t)
  back = ap (λ (z : ℤ). to_z w64 (of_z w64 z)) raised ∙ to_z-of_z w64 (pos (key_of t)) fits

  pub raised_cast : T (non_neg (to_z w64 (of_z w64 (to_z w64 (of_z w64 t) -ℤ negsuc 9223372036854775807)))) × Fits w64 (nat_abs (to_z w64 (of_z w64 (to_z w64 (of_z w64 t) -ℤ negsuc 9223372036854775807))))
  raised_cast = subst (λ (z : ℤ). T (non_neg z) × Fits w64 (nat_abs z)) (sym back) (tt, omega (arith, small t negative))

  pub raised_key : nat_abs (to_z w64 (of_z w64 (to_z w64 (of_z w64 t) -ℤ negsuc 9223372036854775807))) ≡ key_of t
  raised_key = ap nat_abs back

-- ---- from zero up
above : (t : ℤ) → lt_z t (pos 0) ≡ false → t ≡ pos (nat_abs t)
above (pos n) e = refl
above (negsuc n) e = never e

above_key : (t : ℤ) → lt_z t (pos 0) ≡ false → nat_abs t + 9223372036854775808 ≡ key_of t
above_key (pos n) e = refl
above_key (negsuc n) e = never e

above_fits : (t : ℤ) → SFits w64 t → lt_z t (pos 0) ≡ false → nat_abs t < 9223372036854775808
above_fits (pos n) f e = f.sfits
above_fits (negsuc n) f e = never e

module _ (t : ℤ) (f : SFits w64 t) (e : lt_z (to_z w64 (of_z w64 t)) (pos 0) ≡ false) where
  not_negative : lt_z t (pos 0) ≡ false
  not_negative = ap (λ (z : ℤ). lt_z z (pos 0)) (sym (to_z-of_z w64 t f)) ∙ e

  read : to_z w64 (of_z w64 t) ≡ pos (nat_abs t)
  read = to_z-of_z w64 t f ∙ above t not_negative

  pub plain_cast : T (non_neg (to_z w64 (of_z w64 t))) × Fits w64 (nat_abs (to_z w64 (of_z w64 t)))
  plain_cast = subst (λ (z : ℤ). T (non_neg z) × Fits w64 (nat_abs z)) (sym read) (tt, omega (arith, above_fits t f not_negative))

  pub plain_fits : Fits w64 (nat_abs (to_z w64 (of_z w64 t)) + 9223372036854775808)
  plain_fits = omega (arith, ap nat_abs read, above_fits t f not_negative)

  pub plain_key : nat_abs (to_z w64 (of_z w64 t)) + 9223372036854775808 ≡ key_of t
  plain_key = omega (arith, ap nat_abs read, above_key t not_negative)
