-- Words and numbers have one spelling: what is printed reads back (`-back`), and what reads was printed (`-spelled`), both because one digit more of a number is one digit more of its text. Assumes nothing.
use Prim.Native.Nat.{ℕ, zero, suc, ◌+◌, ◌-◌, ◌*◌, ◌/◌, ◌%◌, ◌^◌, ◌≤◌, ◌<◌}
use mathlib.Core.Path.{◌≡◌, refl, sym, ◌∙◌, ap}
use mathlib.Core.Bool.{Bool, cond, true, false}
use mathlib.Core.List.{List, [], ◌∷◌, ◌++◌, append_assoc}
use native.Mathlib.Omega.{arith}
use native.Mathlib.Numerals.{add-one}
use native.Mathlib.Nat.{pow-succ', zero-add, add-zero}
use native.Mathlib.Decide.{dec_lt, dec_le}
use borrow.Author.Tests.{eqb-true, eqb-false, leb-false, leb-true, eq-eqb, ne_eqb, le-leb, lt-leb, lt-ltb, le-ltb}
use lib.Dec.{leb, eqb}
use lib.IntN.{ℤ, pos, negsuc}
use lib.Signed.{mag}
use Rattle.io.specs.Digits.{last_digits, hex_digit_ascii}
use Rattle.text.specs.Decode.{Got, got, bad, ◌▷◌, word, nibble, numeral, natural, up_to, minus, plus, hexes, instant}
use Rattle.text.specs.Print.{width, decimal, hex, shown}
use Rattle.text.proofs.Digits.{nibble_low, nibble_digit, nibble_middle, nibble_letter, nibble_high}

-- ---- what is known where a decoder got something
module _ {A : Type 0} where
  pub no_got : {B : Type 0} (a : A) (s : List ℕ) → ◌≡◌ {A = Got A} bad (got a s) → B
  no_got a s e = let z : ◌≡◌ {A = ℕ} 0 1 = cc in absurd (omega arith)

  when : (b : Bool) (g : Got A) (a : A) (s : List ℕ) → cond b g bad ≡ got a s → (b ≡ true) × (g ≡ got a s)
  when true g a s e = (refl, e)
  when false g a s e = no_got a s e

  unless : (b : Bool) (g : Got A) (a : A) (s : List ℕ) → cond b bad g ≡ got a s → (b ≡ false) × (g ≡ got a s)
  unless false g a s e = (refl, e)
  unless true g a s e = no_got a s e

-- one after another: so did each
pub parts : {A B P : Type 0} (g : Got A) (f : A → List ℕ → Got B) (b : B) (t : List ℕ) → g ▷ f ≡ got b t
    → ((a : A) (s : List ℕ) → g ≡ got a s → f a s ≡ got b t → P) → P
parts (got a s) f b t e k = k a s refl e
parts bad f b t e k = no_got b t e

-- ---- words
pub word_back : (w s : List ℕ) → word w (w ++ s) ≡ got tt s
unfolding word
word_back [] s = refl
word_back (c ∷ w) s = rw (eq-eqb c c refl) (word_back w s)

pub word_spelled : (w s t : List ℕ) → word w s ≡ got tt t → s ≡ w ++ t
unfolding word
word_spelled [] s t e = cc
word_spelled (c ∷ w) [] t e = no_got tt t e
word_spelled (c ∷ w) (b ∷ s) t e =
    let p = when (eqb b c) (word w s) tt t e in
    cc (eqb-true b c p.0, word_spelled w s t p.1)

-- ---- digits
nibble_glyph : (d : ℕ) → d < 16 → nibble (hex_digit_ascii d) ≡ d
nibble_glyph d h = by (dec_lt d 10)
  where
    by : Dec (d < 10) → nibble (hex_digit_ascii d) ≡ d
    by (yes l) = rw (lt-ltb d 10 l) (nibble_digit (48 + d) (omega arith) (omega arith) ∙ omega arith)
    by (no g) = rw (le-ltb d 10 (omega arith)) (nibble_letter (87 + d) (omega arith) (omega arith) ∙ omega arith)

glyph_nibble : (b : ℕ) → nibble b < 16 → hex_digit_ascii (nibble b) ≡ b
glyph_nibble b h = low (dec_lt b 48)
  where
    letter : Dec (b ≤ 102) → 97 ≤ b → hex_digit_ascii (nibble b) ≡ b
    letter (yes l) k = rw (nibble_letter b k l, le-ltb (b - 87) 10 (omega arith)) (omega arith)
    letter (no g) k = absurd (omega (arith, nibble_high b (omega arith)))

    middle : Dec (b < 97) → 57 < b → hex_digit_ascii (nibble b) ≡ b
    middle (yes l) k = absurd (omega (arith, nibble_middle b k l))
    middle (no g) k = letter (dec_le b 102) (omega arith)

    digit : Dec (b ≤ 57) → 48 ≤ b → hex_digit_ascii (nibble b) ≡ b
    digit (yes l) k = rw (nibble_digit b k l, lt-ltb (b - 48) 10 (omega arith)) (omega arith)
    digit (no g) k = middle (dec_lt b 97) (omega arith)

    low : Dec (b < 48) → hex_digit_ascii (nibble b) ≡ b
    low (yes l) = absurd (omega (arith, nibble_low b l))
    low (no g) = digit (dec_le b 57) (omega arith)

-- ---- a digit more, in decimal
width_more : (k n : ℕ) → 0 < n → n < 10 ^ k → width k n ≡ width (suc k) n
unfolding width
width_more zero n h l = absurd (omega arith)
width_more (suc k) n h l =
    let l' : n < 10 * 10 ^ k = rw pow-succ' at l in
    by (dec_lt n 10) (λ (g : 10 ≤ n). width_more k (n / 10) (omega arith) (omega arith))
  where
    by : Dec (n < 10) → (10 ≤ n → width k (n / 10) ≡ width (suc k) (n / 10)) → width (suc k) n ≡ width (suc (suc k)) n
    by (yes m) f = rw (lt-ltb n 10 m)
    by (no g) f = rw (le-ltb n 10 (omega arith)) (ap suc (f (omega arith)))

decimal_digit : (d : ℕ) → d < 10 → decimal d ≡ hex_digit_ascii d ∷ []
unfolding decimal width
decimal_digit d h =
    let q : d % 10 ≡ d = omega arith in
    rw (lt-ltb d 10 h, q, lt-ltb d 10 h)

decimal_more : (n d : ℕ) (s : List ℕ) → 0 < n → n < 10 ^ 19 → d < 10 → decimal (n * 10 + d) ++ s ≡ decimal n ++ (hex_digit_ascii d ∷ s)
unfolding decimal width
decimal_more n d s h l k =
    let p : (n * 10 + d) / 10 ≡ n = omega arith in
    let q : (n * 10 + d) % 10 ≡ d = omega arith in
    rw (le-ltb (n * 10 + d) 10 (omega arith), p, q, append_assoc)
    (ap (λ (w : ℕ). last_digits 10 w n ++ (hex_digit_ascii d ∷ s)) (width_more 19 n h l))

-- ---- numbers
numeral_digit : (n d : ℕ) (s : List ℕ) → d < 10 → numeral n (hex_digit_ascii d ∷ s) ≡ numeral (n * 10 + d) s
unfolding numeral
numeral_digit n d s h = rw (nibble_glyph d (omega arith), lt-leb 10 d h)

natural_digit : (d : ℕ) (s : List ℕ) → 0 < d → d < 10 → natural (hex_digit_ascii d ∷ s) ≡ numeral d s
unfolding natural
natural_digit d s p h = rw (nibble_glyph d (omega arith), ne_eqb d 0 (λ e. omega arith), lt-leb 10 d h)

-- k is turns enough
natural_digits : (k n : ℕ) (s : List ℕ) → 0 < n → n < 10 ^ 20 → n < 10 ^ k → natural (decimal n ++ s) ≡ numeral n s
natural_digits zero n s p h l = absurd (omega arith)
natural_digits (suc k) n s p h l =
    let l' : n < 10 * 10 ^ k = rw pow-succ' at l in
    by (dec_lt n 10) (λ (g : 10 ≤ n). natural_digits k (n / 10) (hex_digit_ascii (n % 10) ∷ s) (omega arith) (omega arith) (omega arith))
  where
    by : Dec (n < 10) → (10 ≤ n → natural (decimal (n / 10) ++ (hex_digit_ascii (n % 10) ∷ s)) ≡ numeral (n / 10) (hex_digit_ascii (n % 10) ∷ s))
        → natural (decimal n ++ s) ≡ numeral n s
    by (yes m) f = rw (decimal_digit n m) (natural_digit n s p m)
    by (no g) f =
        let e : n / 10 * 10 + n % 10 ≡ n = omega arith in
        let q = decimal_more (n / 10) (n % 10) s (omega arith) (omega arith) (omega arith) in
        let r = numeral_digit (n / 10) (n % 10) s (omega arith) in
        ap natural (rw e at q) ∙ f (omega arith) ∙ rw e at r

-- after it a closing bracket, as in every form: no digit
numeral_stop : (n : ℕ) (s : List ℕ) → numeral n (41 ∷ s) ≡ got n (41 ∷ s)
unfolding numeral nibble
numeral_stop n s = refl

natural_zero : (s : List ℕ) → natural (decimal 0 ++ s) ≡ got 0 s
unfolding natural decimal width nibble
natural_zero s = refl

pub natural_back : (n : ℕ) (s : List ℕ) → n < 10 ^ 20 → natural (decimal n ++ (41 ∷ s)) ≡ got n (41 ∷ s)
natural_back zero s h = natural_zero (41 ∷ s)
natural_back (suc n) s h = natural_digits 20 (suc n) (41 ∷ s) (omega arith) h h ∙ numeral_stop (suc n) s

numeral_spelled : (n m : ℕ) (s t : List ℕ) → 0 < n → m < 10 ^ 19 → numeral n s ≡ got m t → (n ≤ m) × (decimal n ++ s ≡ decimal m ++ t)
unfolding numeral
numeral_spelled n m [] t h l e = let p : n ≡ m = cc in (omega arith, cc)
numeral_spelled n m (b ∷ s) t h l e =
    by (leb 10 (nibble b)) (leb-false 10 (nibble b)) e (λ f. numeral_spelled (n * 10 + nibble b) m s t (omega arith) l f)
  where
    by : (x : Bool) → (x ≡ false → nibble b < 10) → cond x (got n (b ∷ s)) (numeral (n * 10 + nibble b) s) ≡ got m t
        → (numeral (n * 10 + nibble b) s ≡ got m t → (n * 10 + nibble b ≤ m) × (decimal (n * 10 + nibble b) ++ s ≡ decimal m ++ t))
        → (n ≤ m) × (decimal n ++ (b ∷ s) ≡ decimal m ++ t)
    by true g e f = let p : n ≡ m = cc in (omega arith, cc)
    by false g e f =
        let d : nibble b < 10 = g refl in
        let r = f e in
        let q = decimal_more n (nibble b) s h (omega arith) d in
        (omega arith, sym (rw (glyph_nibble b (omega arith)) at q) ∙ r.1)

digit_spelled : (b : ℕ) → nibble b < 10 → decimal (nibble b) ≡ b ∷ []
digit_spelled b h = rw (decimal_digit (nibble b) h, glyph_nibble b (omega arith))

pub natural_spelled : (m : ℕ) (s t : List ℕ) → m < 10 ^ 19 → natural s ≡ got m t → s ≡ decimal m ++ t
unfolding natural
natural_spelled m [] t l e = no_got m t e
natural_spelled m (b ∷ s) t l e = by (eqb (nibble b) 0) (eqb-true (nibble b) 0) (eqb-false (nibble b) 0) e
  where
    by : (x : Bool) → (x ≡ true → nibble b ≡ 0) → (x ≡ false → nibble b ≡ 0 → ⊥)
        → cond x (got 0 s) (cond (leb 10 (nibble b)) bad (numeral (nibble b) s)) ≡ got m t → (b ∷ s) ≡ decimal m ++ t
    by true z y e =
        let p : nibble b ≡ m = cc (z refl) in
        let q : s ≡ t = cc in
        rw (← p, digit_spelled b (omega (arith, z refl)), q)
    by false z y e =
        let p = unless (leb 10 (nibble b)) (numeral (nibble b) s) m t e in
        let d : nibble b < 10 = leb-false 10 (nibble b) p.0 in
        let z : nibble b ≡ 0 → ⊥ = y refl in
        rw (digit_spelled b d) at (numeral_spelled (nibble b) m s t (omega arith) l p.1).1

-- ---- instants
-- what reads as a number has no minus in front
unsigned : (n : ℕ) (s t : List ℕ) → natural s ≡ got n t → instant s ≡ up_to (2 ^ 63 - 1) (natural s) ▷ plus
unfolding natural instant nibble
unsigned n [] t e = no_got n t e
unsigned n (b ∷ s) t e = rw (ne_eqb b 45 (λ p. no_got n t (rw p at e)))

pub instant_back : (i : ℤ) (s : List ℕ) → mag i < 2 ^ 63 → instant (shown i ++ (41 ∷ s)) ≡ got i (41 ∷ s)
unfolding shown instant
instant_back (pos n) s h =
    let p = natural_back n s (omega arith) in
    unsigned n _ (41 ∷ s) p ∙ rw (p, le-leb n (2 ^ 63 - 1) (omega arith))
instant_back (negsuc n) s h = rw (add-one n, natural_back (suc n) s (omega arith), le-leb (suc n) (2 ^ 63) (omega arith))

up_to_got : (m n : ℕ) (g : Got ℕ) (t : List ℕ) → up_to m g ≡ got n t → (n ≤ m) × (g ≡ got n t)
up_to_got m n (got x s) t e =
    let p = when (leb x m) (got x s) n t e in
    let q : x ≡ n = cc p.1 in
    (omega (arith, leb-true x m p.0), p.1)
up_to_got m n bad t e = no_got n t e

abbrev Printed : ℤ → List ℕ → List ℕ → Type 0
Printed i s t = (s ≡ shown i ++ t) × (mag i < 2 ^ 63)

module _ (i : ℤ) (s t : List ℕ) where
  below : (n : ℕ) (u : List ℕ) → n ≤ 2 ^ 63 → s ≡ decimal n ++ u → minus n u ≡ got i t → Printed i (45 ∷ s) t
  unfolding shown
  below zero u h p e = no_got i t e
  below (suc n) u h p e =
      let q : negsuc n ≡ i = cc in
      let r : u ≡ t = cc in
      rw (← q, ← r, add-one n, p) (refl, omega arith)

  above : (n : ℕ) (u : List ℕ) → n ≤ 2 ^ 63 - 1 → s ≡ decimal n ++ u → plus n u ≡ got i t → Printed i s t
  unfolding shown
  above n u h p e =
      let q : pos n ≡ i = cc in
      let r : u ≡ t = cc in
      rw (← q, ← r, p) (refl, omega arith)

instant_printed : (i : ℤ) (s t : List ℕ) → instant s ≡ got i t → Printed i s t
unfolding instant
instant_printed i [] t e = no_got i t e
instant_printed i (b ∷ s) t e = by (eqb b 45) (eqb-true b 45) e
  where
    by : (x : Bool) → (x ≡ true → b ≡ 45) → cond x (up_to (2 ^ 63) (natural s) ▷ minus) (up_to (2 ^ 63 - 1) (natural (b ∷ s)) ▷ plus) ≡ got i t
        → Printed i (b ∷ s) t
    by true y e =
        parts (up_to (2 ^ 63) (natural s)) minus i t e λ n u p q.
        let g = up_to_got (2 ^ 63) n (natural s) u p in
        rw (y refl) (below i s t n u g.0 (natural_spelled n s u (omega arith) g.1) q)
    by false y e =
        parts (up_to (2 ^ 63 - 1) (natural (b ∷ s))) plus i t e λ n u p q.
        let g = up_to_got (2 ^ 63 - 1) n (natural (b ∷ s)) u p in
        above i (b ∷ s) t n u g.0 (natural_spelled n (b ∷ s) u (omega arith) g.1) q

pub instant_spelled : (i : ℤ) (s t : List ℕ) → instant s ≡ got i t → s ≡ shown i ++ t
instant_spelled i s t e = (instant_printed i s t e).0

pub instant_range : (i : ℤ) (s t : List ℕ) → instant s ≡ got i t → mag i < 2 ^ 63
instant_range i s t e = (instant_printed i s t e).1

-- ---- hexadecimal numbers
hexes_back : (k j n : ℕ) (s : List ℕ) → n < 16 ^ k → hexes (k + j) 0 (last_digits 16 k n ++ s) ≡ hexes j n s
unfolding hexes
hexes_back zero j n s h =
    let e : 0 ≡ n = omega arith in
    rw zero-add (ap (λ (x : ℕ). hexes j x s) e)
hexes_back (suc k) j n s h =
    let l : n < 16 * 16 ^ k = rw pow-succ' at h in
    let d : n % 16 < 16 = omega arith in
    let e : n / 16 * 16 + n % 16 ≡ n = omega arith in
    let q : suc k + j ≡ k + suc j = omega arith in
    rw (append_assoc, q)
    (hexes_back k (suc j) (n / 16) (hex_digit_ascii (n % 16) ∷ s) (omega arith) ∙ rw (nibble_glyph (n % 16) d, lt-leb 16 (n % 16) d, e))

pub hex_back : (n : ℕ) (s : List ℕ) → n < 2 ^ 64 → hexes 16 0 (hex n ++ s) ≡ got n s
unfolding hex hexes
hex_back n s h = hexes_back 16 0 n s h

-- j digits have made n, and k come
hexes_spelled : (k j n m : ℕ) (s t : List ℕ) → n < 16 ^ j → hexes k n s ≡ got m t
    → (last_digits 16 j n ++ s ≡ last_digits 16 (j + k) m ++ t) × (m < 16 ^ (j + k))
unfolding hexes
hexes_spelled zero j n m s t h e =
    let p : n ≡ m = cc in
    let q : s ≡ t = cc in
    rw (add-zero j, ← p, q) (refl, h)
hexes_spelled (suc k) j n m [] t h e = no_got m t e
hexes_spelled (suc k) j n m (b ∷ s) t h e =
    let p = unless (leb 16 (nibble b)) (hexes k (n * 16 + nibble b) s) m t e in
    let d : nibble b < 16 = leb-false 16 (nibble b) p.0 in
    let x : (n * 16 + nibble b) / 16 ≡ n = omega arith in
    let y : (n * 16 + nibble b) % 16 ≡ nibble b = omega arith in
    let q : last_digits 16 (suc j) (n * 16 + nibble b) ++ s ≡ last_digits 16 j n ++ (b ∷ s) = rw (x, y, glyph_nibble b d, append_assoc) in
    let z : j + suc k ≡ suc j + k = omega arith in
    let r = hexes_spelled k (suc j) (n * 16 + nibble b) m s t (rw pow-succ' (omega arith)) p.1 in
    rw z (sym q ∙ r.0, r.1)

pub hex_spelled : (m : ℕ) (s t : List ℕ) → hexes 16 0 s ≡ got m t → s ≡ hex m ++ t
unfolding hex
hex_spelled m s t e = (hexes_spelled 16 0 0 m s t (omega arith) e).0

pub hex_range : (m : ℕ) (s t : List ℕ) → hexes 16 0 s ≡ got m t → m < 2 ^ 64
hex_range m s t e = (hexes_spelled 16 0 0 m s t (omega arith) e).1
