-- How far the grid's rows go: the larger of 1 / epsilon and 1, cut. Definitions only, with known values.
use Rattle.std.specs.Prelude.{◌≡◌, refl, [], ◌∷◌, ℕ, Float}
use Rattle.std.specs.Float.{binary64}
use Rattle.std.specs.Float.Ieee.{div, lt, of_bits, to_unsigned}
use Rattle.float.specs.Constants.{one}
use Rattle.float.specs.Leaves.{larger_of}

-- (1.0 / epsilon).max(1.0) as usize
unfoldable pub upper_of : Float → ℕ
upper_of epsilon = to_unsigned 64 (larger_of (div binary64 one epsilon) one)

-- document 01's figures, and the ends of the range
abbrev at : ℕ → ℕ
at b = upper_of (of_bits binary64 b)

known_uppers :
    (at 0x3ff0000000000000 ∷ at 0x3fe0000000000000 ∷ at 0x3ee0000000000000 ∷ at 0x3ed0000000000000 ∷ at 0x7ff8000000000000 ∷ at 0x0000000000000000 ∷ at 0xbff0000000000000 ∷ at 0x7ff0000000000000 ∷ [])
    ≡ (1 ∷ 2 ∷ 131072 ∷ 262144 ∷ 1 ∷ 18446744073709551615 ∷ 1 ∷ 1 ∷ [])
unfolding upper_of larger_of div lt of_bits to_unsigned
known_uppers = refl
