-- Known values of the definitions, computed: each row is an argument and its answer, floats by their bits.
use Rattle.std.specs.Prelude.{◌≡◌, refl, Bool, true, false, List, [], ◌∷◌, ℕ, ℤ, pos, negsuc, Float}
use Rattle.std.specs.Float.{binary64, float_is_finite}
use Rattle.std.specs.Float.Ieee.{of_bits, to_bits, of_int, to_signed, to_unsigned, lt, mul}
use Rattle.float.specs.Leaves.{abs_of, larger_of}
use Rattle.float.specs.Power.{power_of, power}
use Rattle.float.specs.Root.{root}
use Rattle.tables.specs.Tables.{Row, ◌⇒◌, answers, expected}

abbrev float : ℕ → Float
float b = of_bits binary64 b

abbrev bits : Float → ℕ
bits x = to_bits binary64 x

-- ---- sqrt; the answers are those of the C library
abbrev roots : List (Row ℕ ℕ)
roots =
    (0x4010000000000000 ⇒ 0x4000000000000000)  -- 4
    ∷ (0x4000000000000000 ⇒ 0x3ff6a09e667f3bcd)  -- 2
    ∷ (0x4008000000000000 ⇒ 0x3ffbb67ae8584caa)  -- 3
    ∷ (0x3fb999999999999a ⇒ 0x3fd43d136248490f)  -- 0.1
    ∷ (0x0000000000000001 ⇒ 0x1e60000000000000)  -- the smallest subnormal
    ∷ (0x000fffffffffffff ⇒ 0x1fffffffffffffff)  -- the largest subnormal
    ∷ (0x0010000000000000 ⇒ 0x2000000000000000)  -- the smallest normal
    ∷ (0x7fefffffffffffff ⇒ 0x5fefffffffffffff)  -- the largest finite
    ∷ (0x3ff0000000000001 ⇒ 0x3ff0000000000000)  -- 1 + ulp
    ∷ (0x3fefffffffffffff ⇒ 0x3fefffffffffffff)  -- 1 - ulp
    ∷ (0x0000000000000000 ⇒ 0x0000000000000000)  -- 0
    ∷ (0x8000000000000000 ⇒ 0x8000000000000000)  -- -0
    ∷ (0x7ff0000000000000 ⇒ 0x7ff0000000000000)  -- infinity
    ∷ (0xfff0000000000000 ⇒ 0x7ff8000000000000)  -- minus infinity: NaN
    ∷ (0x7ff8000000000000 ⇒ 0x7ff8000000000000)  -- NaN
    ∷ (0xbff0000000000000 ⇒ 0x7ff8000000000000)  -- -1: NaN
    ∷ []

known_roots : answers (λ b. bits (root binary64 (float b))) roots ≡ expected roots
unfolding answers expected root of_bits to_bits
known_roots = refl

-- ---- as_i64
abbrev signed_casts : List (Row ℕ ℤ)
signed_casts =
    (0x43e0000000000000 ⇒ pos 9223372036854775807)  -- 2^63
    ∷ (0x43dfffffffffffff ⇒ pos 9223372036854774784)  -- the number below it
    ∷ (0x43e0000000000001 ⇒ pos 9223372036854775807)  -- the number above it
    ∷ (0x43f0000000000000 ⇒ pos 9223372036854775807)  -- 2^64
    ∷ (0xc3e0000000000000 ⇒ negsuc 9223372036854775807)  -- -2^63
    ∷ (0xc3dfffffffffffff ⇒ negsuc 9223372036854774783)  -- the number above it
    ∷ (0xc3e0000000000001 ⇒ negsuc 9223372036854775807)  -- the number below it
    ∷ (0x7ff8000000000000 ⇒ pos 0)  -- NaN
    ∷ (0x7ff0000000000000 ⇒ pos 9223372036854775807)  -- infinity
    ∷ (0xfff0000000000000 ⇒ negsuc 9223372036854775807)  -- minus infinity
    ∷ (0x3feccccccccccccd ⇒ pos 0)  -- 0.9
    ∷ (0xbfeccccccccccccd ⇒ pos 0)  -- -0.9
    ∷ (0xc004000000000000 ⇒ negsuc 1)  -- -2.5
    ∷ []

known_signed_casts : answers (λ b. to_signed 63 (float b)) signed_casts ≡ expected signed_casts
unfolding answers expected to_signed of_bits
known_signed_casts = refl

-- ---- as_usize
abbrev unsigned_casts : List (Row ℕ ℕ)
unsigned_casts =
    (0x43f0000000000000 ⇒ 18446744073709551615)  -- 2^64
    ∷ (0x43efffffffffffff ⇒ 18446744073709549568)  -- the number below it
    ∷ (0x43f0000000000001 ⇒ 18446744073709551615)  -- the number above it
    ∷ (0x43e0000000000000 ⇒ 9223372036854775808)  -- 2^63
    ∷ (0xc3e0000000000000 ⇒ 0)  -- -2^63
    ∷ (0x7ff8000000000000 ⇒ 0)  -- NaN
    ∷ (0x7ff0000000000000 ⇒ 18446744073709551615)  -- infinity
    ∷ (0xfff0000000000000 ⇒ 0)  -- minus infinity
    ∷ (0x3feccccccccccccd ⇒ 0)  -- 0.9
    ∷ (0xbfeccccccccccccd ⇒ 0)  -- -0.9
    ∷ []

known_unsigned_casts : answers (λ b. to_unsigned 64 (float b)) unsigned_casts ≡ expected unsigned_casts
unfolding answers expected to_unsigned of_bits
known_unsigned_casts = refl

-- ---- i64_as_f64
abbrev wholes : List (Row ℤ ℕ)
wholes =
    (pos 9007199254740993 ⇒ 0x4340000000000000)  -- 2^53 + 1: half to even
    ∷ (negsuc 9007199254740992 ⇒ 0xc340000000000000)  -- -(2^53 + 1)
    ∷ (pos 9007199254740995 ⇒ 0x4340000000000002)  -- 2^53 + 3
    ∷ (negsuc 9223372036854775807 ⇒ 0xc3e0000000000000)  -- i64::MIN
    ∷ (pos 9223372036854775807 ⇒ 0x43e0000000000000)  -- i64::MAX
    ∷ (pos 0 ⇒ 0x0000000000000000)
    ∷ []

known_wholes : answers (λ n. bits (of_int binary64 n)) wholes ≡ expected wholes
unfolding answers expected of_int to_bits
known_wholes = refl

-- ---- abs, is_finite
abbrev sizes : List (Row ℕ ℕ)
sizes =
    (0xc004000000000000 ⇒ 0x4004000000000000)  -- -2.5
    ∷ (0x8000000000000000 ⇒ 0x0000000000000000)  -- -0
    ∷ (0xfff0000000000000 ⇒ 0x7ff0000000000000)  -- minus infinity
    ∷ (0x7ff8000000000000 ⇒ 0x7ff8000000000000)  -- NaN
    ∷ (0x0000000000000001 ⇒ 0x0000000000000001)  -- the smallest subnormal
    ∷ []

known_sizes : answers (λ b. bits (abs_of (float b))) sizes ≡ expected sizes
unfolding answers expected abs_of of_bits to_bits
known_sizes = refl

abbrev finites : List (Row ℕ Bool)
finites =
    (0x7fefffffffffffff ⇒ true)  -- the largest finite
    ∷ (0x8000000000000000 ⇒ true)  -- -0
    ∷ (0x7ff0000000000000 ⇒ false)  -- infinity
    ∷ (0xfff0000000000000 ⇒ false)  -- minus infinity
    ∷ (0x7ff8000000000000 ⇒ false)  -- NaN
    ∷ []

known_finites : answers (λ b. float_is_finite (float b)) finites ≡ expected finites
unfolding answers expected of_bits float_is_finite
known_finites = refl

-- ---- larger, of a number and 1
abbrev larger_than_one : List (Row ℕ ℕ)
larger_than_one =
    (0x4004000000000000 ⇒ 0x4004000000000000)  -- 2.5
    ∷ (0x3fe0000000000000 ⇒ 0x3ff0000000000000)  -- 0.5
    ∷ (0x7ff8000000000000 ⇒ 0x3ff0000000000000)  -- NaN
    ∷ (0xfff0000000000000 ⇒ 0x3ff0000000000000)  -- minus infinity
    ∷ (0x7ff0000000000000 ⇒ 0x7ff0000000000000)  -- infinity
    ∷ []

known_larger : answers (λ b. bits (larger_of (float b) (float 0x3ff0000000000000))) larger_than_one ≡ expected larger_than_one
unfolding answers expected larger_of lt of_bits to_bits
known_larger = refl

-- ---- powi: the powers of 0.1 by order
abbrev powers : List (Row ℕ ℕ)
powers =
    (0 ⇒ 0x3ff0000000000000)
    ∷ (1 ⇒ 0x3fb999999999999a)
    ∷ (2 ⇒ 0x3f847ae147ae147c)
    ∷ (3 ⇒ 0x3f50624dd2f1a9fd)
    ∷ (4 ⇒ 0x3f1a36e2eb1c4330)
    ∷ (5 ⇒ 0x3ee4f8b588e368f4)
    ∷ (7 ⇒ 0x3e7ad7f29abcaf4e)
    ∷ (16 ⇒ 0x3c9cd2b297d889ca)
    ∷ []

known_powers : answers (λ n. bits (power (float 0x3fb999999999999a) n)) powers ≡ expected powers
unfolding answers expected power_of mul of_bits to_bits
known_powers = refl
