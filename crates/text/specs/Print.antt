-- Numbers as they are printed, and a buffer with a text in it. `last_digits b k n` is the last k digits of n in base b. Definitions only.
use Rattle.std.specs.Prelude.{ℕ, zero, suc, ◌+◌, ◌/◌, ◌≤◌, ◌≡◌, cond, List, ◌++◌, ltb, leb, ℤ, pos, negsuc, length, take, drop}
use Rattle.io.specs.Digits.{last_digits}
use Rattle.text.specs.Bytes.{bytes}

-- how many decimal digits n takes, of k at most
unfoldable pub width : ℕ → ℕ → ℕ
width zero n = 0
width (suc k) n = cond (ltb n 10) 1 (suc (width k (n / 10)))

-- a number below 10^20
unfoldable pub decimal : ℕ → List ℕ
decimal n = last_digits 10 (width 20 n) n

-- sixteen hexadecimal digits
unfoldable pub hex : ℕ → List ℕ
hex n = last_digits 16 16 n

unfoldable pub shown : ℤ → List ℕ
shown (pos n) = decimal n
shown (negsuc n) = bytes "-" ++ decimal (n + 1)

-- o with t at the place `at`, where all of t has room; otherwise o as it was
unfoldable pub placed : List ℕ → ℕ → List ℕ → List ℕ
placed o at t = cond (leb (at + length t) (length o)) (take at o ++ (t ++ drop (at + length t) o)) o

-- the place after it; otherwise `at`
unfoldable pub place_after : List ℕ → ℕ → List ℕ → ℕ
place_after o at t = cond (leb (at + length t) (length o)) (at + length t) at

-- o' is o after t was put at `at`, and r is the place after it
pub record Placed (o o' : List ℕ) (at r : ℕ) (t : List ℕ) : Type 0 where
  pub is : o' ≡ placed o at t
  pub next : r ≡ place_after o at t

-- t is at the front of o, up to r
pub record Fronts (o : List ℕ) (r : ℕ) (t : List ℕ) : Type 0 where
  pub within : r ≤ length o
  pub is : take r o ≡ t
