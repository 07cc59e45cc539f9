-- How each decoder goes on, in the terms in which the code goes on: a first byte and the bytes after it. Assumes nothing.
use Prim.Native.Nat.{ℕ, zero, suc, ◌+◌, ◌-◌, ◌*◌, ◌^◌, ◌≤◌, ◌<◌}
use mathlib.Core.Path.{◌≡◌, refl}
use mathlib.Core.Bool.{Bool, cond, true, false, ◌&&◌}
use mathlib.Core.List.{List, [], ◌∷◌, ◌++◌}
use native.Mathlib.Numerals.{add-one, sub-one}
use native.Mathlib.Omega.{arith}
use borrow.Author.Tests.{leb-true, ne_eqb, le-leb, lt-leb}
use denote.Bor.{Bor}
use lib.Dec.{leb, eqb}
use lib.IntN.{negsuc}
use lib.ListN.{length, take, drop, get_or, drop_of_length-le}
use lib.Pointwise.{pointwise}
use lib.Seq.{drop-cons}
use Rattle.std.specs.Prelude.{Option, Some, None}
use Rattle.std.specs.Option.{MatchOption}
use Rattle.text.specs.Decode.{Got, got, bad, word, nibble, numeral, natural, up_to, hexes, instant, minus, plus, ◌▷◌}
use Rattle.text.specs.Meaning.{left_of}
use Rattle.text.proofs.Spelling.{word_spelled}

-- ---- words
-- a word is there where the front of s, as long as it, is the word
word_front : (w s : List ℕ) → word w s ≡ cond (pointwise eqb (take (length w) s) w) (got tt (drop (length w) s)) bad
unfolding word
word_front [] s = refl
word_front (c ∷ w) [] = refl
word_front (c ∷ w) (b ∷ s) = by (eqb b c) (word_front w s)
  where
    by : (t : Bool) → word w s ≡ cond (pointwise eqb (take (length w) s) w) (got tt (drop (length w) s)) bad
        → cond t (word w s) bad ≡ cond (t && pointwise eqb (take (length w) s) w) (got tt (drop (length w) s)) bad
    by true e = e
    by false e = refl

-- what `strip_prefix` answers
pub word_strip : (w s : List ℕ) (r : Option (Bor (List ℕ)))
    → MatchOption r (pointwise eqb (take (length w) s) w ≡ false)
    (λ x. (pointwise eqb (take (length w) s) w ≡ true) × (x.now ≡ drop (length w) s) × (length x.now + length w ≡ length s))
    → word w s ≡ left_of r
word_strip w s None e = rw (word_front w s, e)
word_strip w s (Some x) e = rw (word_front w s, e.0, e.1)

-- ---- digits
pub numeral_end : (n : ℕ) (s : List ℕ) → length s ≡ 0 → numeral n s ≡ got n s
unfolding numeral
numeral_end n [] h = refl
numeral_end n (b ∷ s) h = absurd (omega arith)

module _ {s : List ℕ} {b : ℕ} {t : List ℕ} (h : s ≡ b ∷ t) where
  pub numeral_stop : (n : ℕ) → 10 ≤ nibble b → numeral n s ≡ got n s
  unfolding numeral
  numeral_stop n l = rw (h, le-leb _ _ l)

  pub numeral_more : (n : ℕ) {d : ℕ} → d ≡ nibble b → d < 10 → numeral n s ≡ numeral (n * 10 + d) t
  unfolding numeral
  numeral_more n e l = rw (h, ← e, lt-leb _ _ l)

  pub natural_zero : nibble b ≡ 0 → natural s ≡ got 0 t
  unfolding natural
  natural_zero e = rw (h, e)

  pub natural_other : 10 ≤ nibble b → natural s ≡ bad
  unfolding natural
  natural_other l = rw (h, ne_eqb (nibble b) 0 (λ e. omega arith), le-leb _ _ l)

  pub natural_more : {d : ℕ} → d ≡ nibble b → (d ≡ 0 → ⊥) → d < 10 → natural s ≡ numeral d t
  unfolding natural
  natural_more e z l = rw (h, ← e, ne_eqb _ _ z, lt-leb _ _ l)

pub natural_none : (s : List ℕ) → length s ≡ 0 → natural s ≡ bad
unfolding natural
natural_none [] h = refl
natural_none (b ∷ s) h = absurd (omega arith)

-- of k hexadecimal digits, i are done
module _ (ds t : List ℕ) (i n : ℕ) {k : ℕ} (h : length ds ≡ k) where
  pub hexes_more : {d : ℕ} → i < k → d ≡ nibble (get_or ds i 0) → d < 16 → hexes (k - i) n (drop i ds ++ t) ≡ hexes (k - (i + 1)) (n * 16 + d) (drop (i + 1) ds ++ t)
  unfolding hexes
  hexes_more hi e l =
      let p : k - i ≡ suc (k - (i + 1)) = omega arith in
      rw (p, drop-cons ds i 0 (omega arith), ← e, lt-leb _ _ l, add-one i)

  pub hexes_other : i < k → 16 ≤ nibble (get_or ds i 0) → hexes (k - i) n (drop i ds ++ t) ≡ bad
  unfolding hexes
  hexes_other hi l =
      let p : k - i ≡ suc (k - (i + 1)) = omega arith in
      rw (p, drop-cons ds i 0 (omega arith), le-leb _ _ l)

  pub hexes_end : k ≤ i → hexes (k - i) n (drop i ds ++ t) ≡ got n t
  unfolding hexes
  hexes_end hi =
      let p : k - i ≡ 0 = omega arith in
      let q : length ds ≤ i = omega arith in
      rw (p, drop_of_length-le ds q)

-- too few bytes
pub hexes_short : (k n : ℕ) (s : List ℕ) → length s < k → hexes k n s ≡ bad
unfolding hexes
hexes_short zero n s h = absurd (omega arith)
hexes_short (suc k) n [] h = refl
hexes_short (suc k) n (b ∷ s) h = rw (hexes_short k (n * 16 + nibble b) s (omega arith)) (same (leb 16 (nibble b)))
  where
    same : (t : Bool) → ◌≡◌ {A = Got ℕ} (cond t bad bad) bad
    same true = refl
    same false = refl

-- digits only make a number larger
pub numeral_over : (m n : ℕ) (s : List ℕ) → m < n → up_to m (numeral n s) ≡ bad
unfolding numeral
numeral_over m n [] h = rw (lt-leb _ _ h)
numeral_over m n (b ∷ s) h = over (leb 10 (nibble b)) (numeral_over m (n * 10 + nibble b) s (omega arith))
  where
    over : (t : Bool) → up_to m (numeral (n * 10 + nibble b) s) ≡ bad → up_to m (cond t (got n (b ∷ s)) (numeral (n * 10 + nibble b) s)) ≡ bad
    over true r = rw (lt-leb _ _ h)
    over false r = r

-- ---- numbers of at most m
pub up_to_in : (m n : ℕ) (s : List ℕ) → n ≤ m → up_to m (got n s) ≡ got n s
up_to_in m n s h = rw (le-leb _ _ h)

pub up_to_out : (m n : ℕ) (s : List ℕ) → m < n → up_to m (got n s) ≡ bad
up_to_out m n s h = rw (lt-leb _ _ h)

pub up_to_bound : (m n : ℕ) (s : List ℕ) (g : Got ℕ) → up_to m g ≡ got n s → n ≤ m
up_to_bound m n s bad e = let z : ◌≡◌ {A = ℕ} 0 1 = cc in absurd (omega arith)
up_to_bound m n s (got x t) e = within (leb x m) (leb-true x m) e
  where
    within : (b : Bool) → (b ≡ true → x ≤ m) → cond b (got x t) bad ≡ got n s → n ≤ m
    within true h e = let p : x ≡ n = cc in omega (arith, h refl)
    within false h e = let z : ◌≡◌ {A = ℕ} 0 1 = cc in absurd (omega arith)

-- ---- instants
pub instant_minus : (s t : List ℕ) → word (45 ∷ []) s ≡ got tt t → instant s ≡ up_to (2 ^ 63) (natural t) ▷ minus
unfolding instant
instant_minus s t e = rw (word_spelled (45 ∷ []) s t e)

pub instant_plus : (s : List ℕ) → word (45 ∷ []) s ≡ bad → instant s ≡ up_to (2 ^ 63 - 1) (natural s) ▷ plus
unfolding word instant natural
instant_plus [] e = refl
instant_plus (b ∷ s) e = by (eqb b 45) e
  where
    by : (d : Bool) → cond d (got (tt {0}) s) bad ≡ bad → cond d (up_to (2 ^ 63) (natural s) ▷ minus) (up_to (2 ^ 63 - 1) (natural (b ∷ s)) ▷ plus) ≡ up_to (2 ^ 63 - 1) (natural (b ∷ s)) ▷ plus
    by true e = let z : ◌≡◌ {A = ℕ} 0 1 = cc in absurd (omega arith)
    by false e = refl

pub minus_zero : (n : ℕ) (s : List ℕ) → n ≡ 0 → minus n s ≡ bad
minus_zero n s e = rw e

pub minus_more : (n : ℕ) (s : List ℕ) → 0 < n → minus n s ≡ got (negsuc (n - 1)) s
minus_more zero s h = absurd (omega arith)
minus_more (suc n) s h = rw sub-one
