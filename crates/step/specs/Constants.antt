-- The float constants of the steps that moments does not have, each checked against the bits of the code's literal.
use Rattle.std.specs.Prelude.{◌≡◌, refl, false, [], ◌∷◌, pos, negsuc, Float}
use Rattle.std.specs.Float.{fin, binary64}
use Rattle.std.specs.Float.Ieee.{of_bits}

abbrev pub two : Float
two = fin false 1 (pos 1)

-- the float nearest to 1 / 10000
abbrev pub ten_thousandth : Float
ten_thousandth = fin false 7378697629483821 (negsuc 65)

known_bits : (two ∷ ten_thousandth ∷ []) ≡ (of_bits binary64 0x4000000000000000 ∷ of_bits binary64 0x3f1a36e2eb1c432d ∷ [])
unfolding of_bits
known_bits = refl
