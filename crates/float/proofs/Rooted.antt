-- `rooted` by its digits: where q has all the digits that the format keeps and q * 2 ^ k ≤ √n < (q + 1) * 2 ^ k, the result is q or q + 1 times 2 ^ k units.
-- So a multiplication of n by 4 ^ t multiplies the root by 2 ^ t. Assumes nothing.
use mathlib.Core.Path.{◌≡◌, refl, sym, ap, ◌∙◌, subst}
use Prim.Native.Nat.{ℕ, suc, ◌+◌, ◌-◌, ◌*◌, ◌/◌, ◌^◌, ◌≤◌, ◌<◌, compare, Ordering}
use native.Mathlib.Nat.{le_trans, le_of_eq, lt_of_lt_of_le, lt_of_le_of_lt, lt_of_not-le, not-le_of_lt, le_antisymm, le_of_suc-le-suc, mul-le-mul_right, div-eq_of_lt-le}
use native.Mathlib.Omega.{arith}
use mathlib.Core.Bool.{false}
use lib.Pow.{pow-add, pow_mono}
use lib.Ieee.{Float, Format, prec, size, nearest, units}
use lib.Ieee.Digits.{size-lt, size-le}
use lib.Ieee.Fits.{two}
use Rattle.float.specs.Root.{whole_root, rooted}
use Rattle.float.proofs.Floor.{floor_size, square_lt}

-- q or q + 1 times 2 ^ k units, by which side of the middle √n is
abbrev pub middle : ℕ → ℕ → ℕ
middle q k = (2 * q + 1) * 2 ^ k

abbrev pub side : ℕ → ℕ → ℕ → Ordering
side n q k = compare (4 * n) (middle q k * middle q k)

abbrev pub picked : Format → ℕ → ℕ → ℕ → Float
picked f n q k = units f false (nearest q (side n q k)) k

pub rooted_def : (f : Format) (n : ℕ) → rooted f n ≡ picked f n (whole_root (size n) n / 2 ^ (size (whole_root (size n) n) - prec f)) (size (whole_root (size n) n) - prec f)
unfolding rooted
rooted_def f n = refl

pow_lt_back : (i p : ℕ) → 2 ^ i < 2 ^ p → i < p
pow_lt_back i p h = lt_of_not-le (λ (g : p ≤ i). not-le_of_lt h (pow_mono g))

size_exact : (a n : ℕ) → 2 ^ a ≤ n → n < 2 ^ suc a → size n ≡ suc a
size_exact a n lo hi = le_antisymm (size-le n (suc a) hi) (pow_lt_back a (size n) (lt_of_le_of_lt lo (size-lt n)))

up_one : (p k : ℕ) → 2 ≤ p → p + k ≡ suc (p - 1 + k)
up_one p k h = omega arith

off : (p k z : ℕ) → 2 ≤ p → z ≡ suc (p - 1 + k) → z - p ≡ k
off p k z h e = omega arith

-- √n lies from q * 2 ^ k up and below (q + 1) * 2 ^ k
abbrev pub Between : ℕ → ℕ → ℕ → Type 0
Between n q k = (q * 2 ^ k * (q * 2 ^ k) ≤ n) × (n < (q + 1) * 2 ^ k * ((q + 1) * 2 ^ k))

suc_is : (w : ℕ) → suc w ≡ w + 1
suc_is w = omega arith

module _ (f : Format) (n q k : ℕ) (b : Between n q k) where
  w : ℕ
  w = whole_root (size n) n

  above : q * 2 ^ k ≤ w
  unfolding w
  above = le_of_suc-le-suc (subst (λ (x : ℕ). q * 2 ^ k < x) (sym (suc_is w)) (square_lt (q * 2 ^ k) (w + 1) (lt_of_le_of_lt b.0 (floor_size n).1)))

  below : w < (q + 1) * 2 ^ k
  unfolding w
  below = square_lt w ((q + 1) * 2 ^ k) (lt_of_le_of_lt (floor_size n).0 b.1)

  quotient : w / 2 ^ k ≡ q
  quotient = div-eq_of_lt-le (2 ^ k) above below

  module _ (lo : 2 ^ (prec f - 1) ≤ q) (hi : q < 2 ^ prec f) where
    digits : size w ≡ suc (prec f - 1 + k)
    digits =
        size_exact (prec f - 1 + k) w
        (le_trans (le_of_eq (pow-add 2 (prec f - 1) k)) (le_trans (mul-le-mul_right (2 ^ k) lo) above))
        (lt_of_lt_of_le below (le_trans (mul-le-mul_right (2 ^ k) (subst (λ (x : ℕ). x ≤ 2 ^ prec f) (suc_is q) hi)) (le_of_eq (sym (pow-add 2 (prec f) k) ∙ ap (λ (x : ℕ). 2 ^ x) (up_one (prec f) k (two f))))))

    pub rooted_is : rooted f n ≡ picked f n q k
    unfolding w
    rooted_is =
        rooted_def f n
        ∙ ap (λ (j : ℕ). picked f n (w / 2 ^ j) j) (off (prec f) k (size w) (two f) digits)
        ∙ ap (λ (x : ℕ). picked f n x k) quotient
