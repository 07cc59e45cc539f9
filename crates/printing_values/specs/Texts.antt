-- Numbers as texts. Definitions only.
use Rattle.std.specs.Prelude.{ℕ, List, [], ◌∷◌, ℤ, Float}
use Rattle.std.specs.Float.{binary64}
use Rattle.std.specs.Float.Ieee.{to_bits}
use Rattle.text.specs.Bytes.{bytes}
use Rattle.text.specs.Print.{decimal, hex, shown}

-- numbers, each after a blank: a whole number, an instant, and fractions by their bits
abbrev pub natural : ℕ → List (List ℕ)
natural n = bytes " " ∷ decimal n ∷ []

abbrev pub instant : ℤ → List (List ℕ)
instant i = bytes " " ∷ shown i ∷ []

unfoldable pub fractions : List Float → List (List ℕ)
fractions [] = []
fractions (x ∷ xs) = bytes " " ∷ hex (to_bits binary64 x) ∷ fractions xs
