-- The float constants that definitions name, each checked against the bits of the code's literal.
use Rattle.std.specs.Prelude.{◌≡◌, refl, true, false, pos, Float}
use Rattle.std.specs.Float.{fin, binary64}
use Rattle.std.specs.Float.Ieee.{of_bits}

-- 0.0
abbrev pub nought : Float
nought = fin false 0 (pos 0)

nought_bits : of_bits binary64 0x0000000000000000 ≡ nought
unfolding of_bits
nought_bits = refl

-- 1.0
abbrev pub one : Float
one = fin false 1 (pos 0)

one_bits : of_bits binary64 0x3ff0000000000000 ≡ one
unfolding of_bits
one_bits = refl

-- -0.0, from which Rust's sum() starts
abbrev pub minus_nought : Float
minus_nought = fin true 0 (pos 0)

minus_nought_bits : of_bits binary64 0x8000000000000000 ≡ minus_nought
unfolding of_bits
minus_nought_bits = refl
