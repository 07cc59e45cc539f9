-- An instant printed: its size, after a minus below zero. Assumes nothing.
use mathlib.Core.Path.{◌≡◌, refl}
use mathlib.Core.Bool.{true, false}
use mathlib.Core.List.{◌++◌}
use native.Mathlib.Numerals.{add-one}
use native.Mathlib.Omega.{arith}
use borrow.Author.Tests.{leb-false}
use lib.IntN.{ℤ, pos, negsuc}
use lib.Signed.{le_z}
use Rattle.std.specs.Prelude.{unsigned_abs}
use Rattle.text.specs.Bytes.{bytes}
use Rattle.text.specs.Print.{decimal, shown}

pub shown_above : (i : ℤ) → le_z (pos 0) i ≡ true → shown i ≡ decimal (unsigned_abs i)
unfolding shown
shown_above (pos n) h = refl
shown_above (negsuc m) h = cc

pub shown_below : (i : ℤ) → le_z (pos 0) i ≡ false → shown i ≡ bytes "-" ++ decimal (unsigned_abs i)
unfolding shown
shown_below (pos n) h = absurd (omega (arith, leb-false 0 n h))
shown_below (negsuc m) h = rw add-one
