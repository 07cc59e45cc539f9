-- The float constants of the formulas, each checked against the bits of the code's literal.
use Rattle.std.specs.Prelude.{◌≡◌, refl, true, false, [], ◌∷◌, pos, Float}
use Rattle.std.specs.Float.{fin, binary64}
use Rattle.std.specs.Float.Ieee.{of_bits}

abbrev pub minus_one : Float
minus_one = fin true 1 (pos 0)

abbrev pub three : Float
three = fin false 3 (pos 0)

abbrev pub six : Float
six = fin false 3 (pos 1)

abbrev pub ten : Float
ten = fin false 5 (pos 1)

abbrev pub fifteen : Float
fifteen = fin false 15 (pos 0)

known_bits : (minus_one ∷ three ∷ six ∷ ten ∷ fifteen ∷ [])
    ≡ (of_bits binary64 0xbff0000000000000 ∷ of_bits binary64 0x4008000000000000 ∷ of_bits binary64 0x4018000000000000 ∷ of_bits binary64 0x4024000000000000 ∷ of_bits binary64 0x402e000000000000 ∷ [])
unfolding of_bits
known_bits = refl
