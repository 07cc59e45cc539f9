-- What a digit stands for, when a number of digits keeps within 64 bits, and how many digits a number has. Assumes nothing.
use Prim.Native.Nat.{ℕ, zero, suc, ◌+◌, ◌-◌, ◌*◌, ◌/◌, ◌^◌, ◌≤◌, ◌<◌}
use mathlib.Core.Path.{◌≡◌, refl, ◌∙◌, ap}
use mathlib.Core.List.{List}
use native.Mathlib.Omega.{arith}
use native.Mathlib.Nat.{pow-succ', pow-le-pow_right}
use native.Mathlib.Numerals.{add-one}
use native.Mathlib.Decide.{dec_lt}
use borrow.Author.Tests.{le-leb, lt-leb, lt-ltb, le-ltb}
use lib.Dec.{lit≤}
use lib.IntN.{ℤ, pos, negsuc}
use lib.ListN.{length, length-append}
use Rattle.io.specs.Digits.{last_digits, IsDigitCount}
use Rattle.text.specs.Decode.{nibble}
use Rattle.text.specs.Print.{width, decimal, hex, shown}

-- ---- the byte of a digit
module _ (b : ℕ) where
  pub nibble_low : b < 48 → nibble b ≡ 16
  unfolding nibble
  nibble_low h = rw (lt-ltb _ _ h)

  pub nibble_digit : 48 ≤ b → b ≤ 57 → nibble b ≡ b - 48
  unfolding nibble
  nibble_digit h k = rw (le-ltb _ _ h, le-leb _ _ k)

  pub nibble_middle : 57 < b → b < 97 → nibble b ≡ 16
  unfolding nibble
  nibble_middle h k = rw (le-ltb b 48 (omega arith), lt-leb _ _ h, lt-ltb _ _ k)

  pub nibble_letter : 97 ≤ b → b ≤ 102 → nibble b ≡ b - 87
  unfolding nibble
  nibble_letter h k = rw (le-ltb b 48 (omega arith), lt-leb b 57 (omega arith), le-ltb _ _ h, le-leb _ _ k)

  pub nibble_high : 102 < b → nibble b ≡ 16
  unfolding nibble
  nibble_high h = rw (le-ltb b 48 (omega arith), lt-leb b 57 (omega arith), le-ltb b 97 (omega arith), lt-leb _ _ h)

-- ---- a hexadecimal digit more, after i of sixteen: the number keeps within its digits, and so within 64 bits
module _ (v d i : ℕ) (b : v < 16 ^ i) (e : d < 16) where
  pub hex_room : v * 16 + d < 16 ^ (i + 1)
  hex_room = rw (add-one i, pow-succ') (omega arith)

  pub hex_fits : i < 16 → v * 16 + d < 2 ^ 64
  hex_fits h =
      let p : 16 ^ (i + 1) ≤ 16 ^ 16 = pow-le-pow_right (lit≤ tt) {i = i + 1} {j = 16} (omega arith) in
      omega (arith, hex_room, p)

-- ---- the fewest digits that hold a number are as many as it has
width_fewest : (k n r : ℕ) → r ≤ k → IsDigitCount 10 1 n r → r ≡ width k n
unfolding width
width_fewest k n zero h f = absurd (omega (arith, f.0))
width_fewest zero n (suc r) h f = absurd (omega arith)
width_fewest (suc k) n (suc zero) h f = rw (lt-ltb n 10 (omega (arith, f.1)))
width_fewest (suc k) n (suc (suc r)) h f =
    let lo : 10 ^ (suc (suc r) - 1) ≤ n = f.2 (omega arith) in
    let e : suc (suc r) - 1 ≡ suc r = omega arith in
    let lo' : 10 * 10 ^ r ≤ n = rw (e, pow-succ') at lo in
    let hi : n < 10 * (10 * 10 ^ r) = rw (pow-succ', pow-succ') at f.1 in
    let one : 10 ^ 0 ≤ 10 ^ r = pow-le-pow_right (lit≤ tt) {i = 0} {j = r} (omega arith) in
    let up : n / 10 < 10 ^ suc r = rw pow-succ' (omega arith) in
    let down : 10 ^ (suc r - 1) ≤ n / 10 = (let e' : suc r - 1 ≡ r = omega arith in rw e' (omega arith)) in
    rw (le-ltb n 10 (omega arith))
    (ap suc (width_fewest k (n / 10) (suc r) (omega arith) (omega arith, up, λ _. down)))

-- of a u64 in decimal 20 at most
few : (n r : ℕ) → n < 2 ^ 64 → IsDigitCount 10 1 n r → r ≤ 20
few n r h f = by (dec_lt 20 r)
  where
    by : Dec (20 < r) → r ≤ 20
    by (yes l) =
        let p : 10 ^ 20 ≤ 10 ^ (r - 1) = pow-le-pow_right (lit≤ tt) {i = 20} {j = r - 1} (omega arith) in
        absurd (omega (arith, f.2 (omega arith)))
    by (no g) = omega arith

-- and in hexadecimal sixteen, with zeros in front
hex_fewest : (n r : ℕ) → n < 2 ^ 64 → IsDigitCount 16 16 n r → r ≡ 16
hex_fewest n r h f = by (dec_lt 16 r)
  where
    by : Dec (16 < r) → r ≡ 16
    by (yes l) =
        let p : 16 ^ 16 ≤ 16 ^ (r - 1) = pow-le-pow_right (lit≤ tt) {i = 16} {j = r - 1} (omega arith) in
        absurd (omega (arith, f.2 l))
    by (no g) = omega (arith, f.0)

-- so the fewest digits are the number, printed
pub decimal_is : (n r : ℕ) (t : List ℕ) → n < 2 ^ 64 → IsDigitCount 10 1 n r → t ≡ last_digits 10 r n → t ≡ decimal n
unfolding decimal
decimal_is n r t h f e = e ∙ ap (λ (k : ℕ). last_digits 10 k n) (width_fewest 20 n r (few n r h f) f)

pub hex_is : (n r : ℕ) (t : List ℕ) → n < 2 ^ 64 → IsDigitCount 16 16 n r → t ≡ last_digits 16 r n → t ≡ hex n
unfolding hex
hex_is n r t h f e = e ∙ ap (λ (k : ℕ). last_digits 16 k n) (hex_fewest n r h f)

-- ---- how long a printed number is, for whoever makes room
width_most : (k n : ℕ) → width k n ≤ k
unfolding width
width_most zero n = omega arith
width_most (suc k) n = by (dec_lt n 10) (width_most k (n / 10))
  where
    by : Dec (n < 10) → width k (n / 10) ≤ k → width (suc k) n ≤ suc k
    by (yes l) h = rw (lt-ltb n 10 l) (omega arith)
    by (no g) h = rw (le-ltb n 10 (omega arith)) (omega arith)

digits_length : (b k n : ℕ) → length (last_digits b k n) ≡ k
digits_length b zero n = refl
digits_length b (suc k) n = rw (length-append, digits_length b k (n / b)) (omega arith)

pub decimal_short : (n : ℕ) → length (decimal n) ≤ 20
unfolding decimal
decimal_short n = rw digits_length (width_most 20 n)

pub shown_short : (i : ℤ) → length (shown i) ≤ 21
unfolding shown
shown_short (pos n) = omega (arith, decimal_short n)
shown_short (negsuc n) = omega (arith, decimal_short (n + 1))

pub hex_length : (n : ℕ) → length (hex n) ≡ 16
unfolding hex
hex_length n = digits_length 16 16 n
