-- Known values of the definitions, computed: each row is an argument and its answer.
use Rattle.std.specs.Prelude.{◌≡◌, refl, List, [], ◌∷◌, ℕ, ℤ, pos, negsuc}
use Prim.Native.String.{String}
use Rattle.std.specs.Float.{nan, binary64}
use Rattle.std.specs.Float.Ieee.{to_bits}
use Rattle.text.specs.Bytes.{bytes}
use Rattle.text.specs.Decode.{Got, got, bad, ◌▷◌, word, nibble, numeral, natural, up_to, instant, hexes}
use Rattle.text.specs.Print.{width, decimal, hex, shown, placed, place_after}
use Rattle.tables.specs.Tables.{Row, ◌⇒◌, answers, expected}

-- ---- instants, at the ends of i64 and past them
abbrev instants : List (Row String (Got ℤ))
instants =
    ("9223372036854775807)" ⇒ got (pos 9223372036854775807) (bytes ")"))
    ∷ ("9223372036854775808)" ⇒ bad)
    ∷ ("-9223372036854775808)" ⇒ got (negsuc 9223372036854775807) (bytes ")"))
    ∷ ("-9223372036854775809)" ⇒ bad)
    ∷ ("0" ⇒ got (pos 0) [])
    ∷ ("-0" ⇒ bad)
    ∷ ("--1" ⇒ bad)
    ∷ ("+1" ⇒ bad)
    ∷ []

known_instants : answers (λ t. instant (bytes t)) instants ≡ expected instants
unfolding answers expected nibble numeral natural instant
known_instants = refl

-- ---- naturals of at most 2^64 - 1
abbrev naturals : List (Row String (Got ℕ))
naturals =
    ("18446744073709551615" ⇒ got 18446744073709551615 [])
    ∷ ("18446744073709551616" ⇒ bad)
    ∷ ("7a" ⇒ got 7 (bytes "a"))
    ∷ ("" ⇒ bad)
    ∷ []

known_naturals : answers (λ t. up_to 18446744073709551615 (natural (bytes t))) naturals ≡ expected naturals
unfolding answers expected nibble numeral natural
known_naturals = refl

-- a leading zero is the whole number, so what must follow a number does not
abbrev closed : List (Row String (Got Unit))
closed =
    ("7)" ⇒ got tt [])
    ∷ ("0)" ⇒ got tt [])
    ∷ ("07)" ⇒ bad)
    ∷ []

known_closed : answers (λ t. natural (bytes t) ▷ λ _ s. word (bytes ")") s) closed ≡ expected closed
unfolding answers expected word nibble numeral natural
known_closed = refl

-- ---- sixteen hexadecimal digits
abbrev patterns : List (Row String (Got ℕ))
patterns =
    ("3ff00000000000ff)" ⇒ got 0x3ff0_0000_0000_00ff (bytes ")"))
    ∷ ("3ff00000000000FF)" ⇒ bad)
    ∷ ("3ff00000000000f)" ⇒ bad)
    ∷ []

known_patterns : answers (λ t. hexes 16 0 (bytes t)) patterns ≡ expected patterns
unfolding answers expected nibble hexes
known_patterns = refl

-- ---- printed
abbrev decimals : List (Row ℕ (List ℕ))
decimals =
    (0 ⇒ bytes "0")
    ∷ (10 ⇒ bytes "10")
    ∷ (18446744073709551615 ⇒ bytes "18446744073709551615")
    ∷ []

known_decimals : answers decimal decimals ≡ expected decimals
unfolding answers expected width decimal
known_decimals = refl

abbrev shows : List (Row ℤ (List ℕ))
shows =
    (pos 0 ⇒ bytes "0")
    ∷ (negsuc 0 ⇒ bytes "-1")
    ∷ (negsuc 9223372036854775807 ⇒ bytes "-9223372036854775808")
    ∷ []

known_shows : answers shown shows ≡ expected shows
unfolding answers expected width decimal shown
known_shows = refl

known_hex : hex 0x3ff0_0000_0000_00ff ≡ bytes "3ff00000000000ff"
unfolding hex
known_hex = refl

-- ---- into a buffer, with room and without
room : placed (bytes "......") 2 (bytes "abc") ≡ bytes "..abc."
unfolding placed
room = refl

no_room : placed (bytes "....") 2 (bytes "abc") ≡ bytes "...."
unfolding placed
no_room = refl

after_room : place_after (bytes "......") 2 (bytes "abc") ≡ 5
unfolding place_after
after_room = refl

after_no_room : place_after (bytes "....") 2 (bytes "abc") ≡ 2
unfolding place_after
after_no_room = refl

-- ---- the pattern that is written for a NaN
nan_bits_lem : to_bits binary64 nan ≡ 0x7ff8_0000_0000_0000
unfolding to_bits
nan_bits_lem = refl
