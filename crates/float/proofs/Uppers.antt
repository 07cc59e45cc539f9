-- The larger of a number and 1, cut, is the larger of the cut number and 1; so rows 1 to upper - 1 can be counted. Assumes nothing.
use mathlib.Core.Path.{◌≡◌, refl}
use Prim.Native.Nat.{ℕ, ◌+◌, ◌*◌, ◌/◌, ◌≤◌, ◌<◌, min, max}
use native.Mathlib.Nat.{le-div_iff_mul-le, div-lt_iff_lt-mul}
use native.Mathlib.Omega.{arith}
use mathlib.Core.Bool.{Bool, true, false, cond}
use lib.IntN.{ℤ}
use lib.Dec.{ltb}
use lib.Ieee.{Float, nan, inf, fin, up, down, lt, div, binary64, to_unsigned}
use lib.Ieee.Fits.{down_pos}
use borrow.Author.Tests.{ltb-true, ltb-false, lt-ltb}
use Rattle.float.specs.Constants.{one}
use Rattle.float.specs.Leaves.{larger_of}
use Rattle.float.specs.Upper.{upper_of}

-- m * 2 ^ e is below 1, or it is not
positive : (m : ℕ) (e : ℤ) (b : Bool) → ltb (m * up e * 1) (1 * 1 * down e) ≡ b
    → to_unsigned 64 (cond b one (fin false m e)) ≡ max 1 (min (m * up e / down e) 18446744073709551615)
unfolding to_unsigned
positive m e true h = small (m * up e / down e) ((div-lt_iff_lt-mul (down_pos e)).1 (omega (arith, ltb-true (m * up e * 1) (1 * 1 * down e) h)))
  where
    small : (q : ℕ) → q < 1 → 1 ≡ max 1 (min q 18446744073709551615)
    small q h = omega arith
positive m e false h = large (m * up e / down e) ((le-div_iff_mul-le (down_pos e)).1 (omega (arith, ltb-false (m * up e * 1) (1 * 1 * down e) h)))
  where
    large : (q : ℕ) → 1 ≤ q → min q 18446744073709551615 ≡ max 1 (min q 18446744073709551615)
    large q h = omega arith

pub cut_larger : (x : Float) → to_unsigned 64 (larger_of x one) ≡ max 1 (to_unsigned 64 x)
unfolding larger_of lt to_unsigned
cut_larger nan = refl
cut_larger (inf true) = refl
cut_larger (inf false) = refl
cut_larger (fin true m e) = rw (lt-ltb 0 (m * up e * 1 + 1 * 1 * down e) (omega (arith, down_pos e)))
cut_larger (fin false m e) = positive m e (ltb (m * up e * 1) (1 * 1 * down e)) refl

pub upper_is : (epsilon : Float) → upper_of epsilon ≡ max 1 (to_unsigned 64 (div binary64 one epsilon))
unfolding upper_of
upper_is epsilon = cut_larger (div binary64 one epsilon)
