-- A key by the distance from the least i64. Assumes nothing.
use Rattle.std.proofs.Common.{◌≡◌, ℤ, pos, negsuc, nat_abs, ◌-ℤ◌, w64, SFits, arith}
use Rattle.std.proofs.lemmas.Int.{ints}
use Rattle.float.specs.Keys.{key_of}

pub key_is : (n : ℤ) → SFits w64 n → nat_abs (n -ℤ negsuc 9223372036854775807) ≡ key_of n
key_is (pos n) h = omega (arith, ints)
key_is (negsuc n) h = omega (arith, ints, h.sfits)
