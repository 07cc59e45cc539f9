-- Words and numbers, decoded from a list of bytes. Each decoder answers a value and the bytes after it, or `bad`. Definitions only.
use Rattle.std.specs.Prelude.{ℕ, zero, suc, ◌+◌, ◌-◌, ◌*◌, ◌^◌, cond, List, [], ◌∷◌, ltb, leb, eqb, ℤ, pos, negsuc}

-- a value and the bytes after it; or the bytes are not of the form
pub data Got (A : Type 0) : Type 0 where
  got : A → List ℕ → Got A
  bad : Got A

-- one decoder after another: the second is handed the value and the bytes after it
module _ {A B : Type 0} where
  infixl 5 ◌▷◌
  abbrev pub ◌▷◌ : Got A → (A → List ℕ → Got B) → Got B
  got a s ▷ f = f a s
  bad ▷ f = bad

-- the bytes of w, at the front of s
unfoldable pub word : List ℕ → List ℕ → Got (Unit {0})
word [] s = got tt s
word (c ∷ w) [] = bad
word (c ∷ w) (b ∷ s) = cond (eqb b c) (word w s) bad

-- what the digit b stands for, `0` to `9` and then `a` to `f`; 16 where b is none of them
unfoldable pub nibble : ℕ → ℕ
nibble b =
    cond (ltb b 48) 16
    (cond (leb b 57) (b - 48)
    (cond (ltb b 97) 16
    (cond (leb b 102) (b - 87) 16)))

-- decimal digits, as many as there are, after others that made n
unfoldable pub numeral : ℕ → List ℕ → Got ℕ
numeral n [] = got n []
numeral n (b ∷ s) = cond (leb 10 (nibble b)) (got n (b ∷ s)) (numeral (n * 10 + nibble b) s)

-- a decimal number with no leading zeros: 0 alone, or a digit that is not 0 and then any more
unfoldable pub natural : List ℕ → Got ℕ
natural [] = bad
natural (b ∷ s) =
    cond (eqb (nibble b) 0) (got 0 s) (cond (leb 10 (nibble b)) bad (numeral (nibble b) s))

-- a number of at most m
abbrev pub up_to : ℕ → Got ℕ → Got ℕ
up_to m (got n s) = cond (leb n m) (got n s) bad
up_to m bad = bad

-- the number below zero; there is no -0
abbrev pub minus : ℕ → List ℕ → Got ℤ
minus zero s = bad
minus (suc n) s = got (negsuc n) s

abbrev pub plus : ℕ → List ℕ → Got ℤ
plus n s = got (pos n) s

-- an instant: a decimal number after at most a minus, within i64
unfoldable pub instant : List ℕ → Got ℤ
instant [] = bad
instant (b ∷ s) =
    cond (eqb b 45) (up_to (2 ^ 63) (natural s) ▷ minus) (up_to (2 ^ 63 - 1) (natural (b ∷ s)) ▷ plus)

-- k hexadecimal digits, after others that made n
unfoldable pub hexes : ℕ → ℕ → List ℕ → Got ℕ
hexes zero n s = got n s
hexes (suc k) n [] = bad
hexes (suc k) n (b ∷ s) = cond (leb 16 (nibble b)) bad (hexes k (n * 16 + nibble b) s)
