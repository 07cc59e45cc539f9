-- The words of a request, decoded. Definitions only.
use Rattle.std.specs.Prelude.{ℕ, List, [], ◌∷◌, ℤ, Float, Option, Some, None}
use Rattle.std.specs.Float.{binary64}
use Rattle.std.specs.Float.Ieee.{of_bits}
use Rattle.text.specs.Bytes.{bytes}
use Rattle.text.specs.Decode.{Got, got, bad, ◌▷◌, word, hexes, instant, natural, up_to}

-- what follows a name, where a blank does: the bytes from the blank on
abbrev pub words_after : List ℕ → List ℕ → Got (Unit {0})
words_after name s = word name s ▷ (λ u words. word (bytes " ") words ▷ (λ v t. got tt words))

-- the value, where nothing follows it
module _ {A : Type 0} where
  abbrev pub only : Got A → Option A
  only (got a []) = Some a
  only (got a (b ∷ s)) = None
  only bad = None

-- a fraction: sixteen hexadecimal digits, the float's bits
abbrev pub a_fraction : List ℕ → Got Float
a_fraction s = hexes 16 0 s ▷ (λ n t. got (of_bits binary64 n) t)

abbrev pub a_natural : ℕ → List ℕ → Got ℕ
a_natural limit s = up_to limit (natural s)

-- each after a blank
module _ {A : Type 0} where
  abbrev pub next : (List ℕ → Got A) → List ℕ → Got A
  next form s = word (bytes " ") s ▷ (λ u t. form t)

abbrev pub next_fraction : List ℕ → Got Float
next_fraction = next a_fraction

abbrev pub next_natural : ℕ → List ℕ → Got ℕ
next_natural limit = next (a_natural limit)

abbrev pub next_instant : List ℕ → Got ℤ
next_instant = next instant
