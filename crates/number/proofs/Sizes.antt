-- Size and the larger of two: the library's words for them say the same. Assumes nothing.
use Rattle.std.proofs.Common.{◌≡◌, refl, true, false}
use lib.Ieee.{Float, nan, inf, fin, is_nan, lt}
use Rattle.std.specs.Float.{float_with_sign}
use Rattle.float.proofs.Zero.{clash}
use Rattle.float.specs.Leaves.{abs_of, larger_of}

pub abs_is : (x : Float) → float_with_sign false x ≡ abs_of x
unfolding float_with_sign abs_of
abs_is nan = refl
abs_is (inf s) = refl
abs_is (fin s m e) = refl

-- ---- larger
pub larger_nan : (x y : Float) → is_nan x ≡ true → y ≡ larger_of x y
unfolding is_nan larger_of
larger_nan nan y h = refl
larger_nan (inf s) y h = clash h refl
larger_nan (fin s m e) y h = clash h refl

pub larger_second : (x y : Float) → lt x y ≡ true → y ≡ larger_of x y
unfolding larger_of
larger_second nan y h = refl
larger_second (inf s) y h = rw h
larger_second (fin s m e) y h = rw h

pub larger_first : (x y : Float) → is_nan x ≡ false → lt x y ≡ false → x ≡ larger_of x y
unfolding is_nan larger_of
larger_first nan y h g = clash refl h
larger_first (inf s) y h g = rw g
larger_first (fin s m e) y h g = rw g
