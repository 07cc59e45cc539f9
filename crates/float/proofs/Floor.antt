-- `whole_root d n` is the whole part of √n, for an n below 4 ^ d; and it is the only number with that property. Assumes nothing.
use mathlib.Core.Path.{◌≡◌, refl, sym, ap, ◌∙◌, subst}
use Prim.Native.Nat.{ℕ, zero, suc, ◌+◌, ◌*◌, ◌/◌, ◌^◌, ◌≤◌, ◌<◌, zero-le}
use native.Mathlib.Nat.{lt_of_not-le, not-le_of_lt, mul-le-mul, pow-suc}
use native.Mathlib.Omega.{arith}
use mathlib.Core.Bool.{Bool, true, false, not, cond}
use lib.Dec.{T, leb, leb→le, nleb→lt}
use lib.Ieee.{size}
use lib.Ieee.Digits.{size-lt}
use Rattle.float.specs.Root.{whole_root}

-- q * q ≤ n < (q + 1) * (q + 1)
abbrev pub Floor : ℕ → ℕ → Type 0
Floor q n = (q * q ≤ n) × (n < (q + 1) * (q + 1))

none : (n : ℕ) → n < 1 → Floor 0 n
none n h = (zero-le, omega arith)

quarter : (n p : ℕ) → n < p * 4 → n / 4 < p
quarter n p h = omega arith

double : (r n : ℕ) → Floor r (n / 4) → ((2 * r) * (2 * r) ≤ n) × (n < (2 * r + 1 + 1) * (2 * r + 1 + 1))
double r n h = omega (arith, h.0, h.1)

pub floor : (d n : ℕ) → n < 4 ^ d → Floor (whole_root d n) n
unfolding whole_root
floor zero n h = none n h
floor (suc d) n h =
    let z = whole_root d (n / 4) in
    let r = 2 * z in
    go r (leb ((r + 1) * (r + 1)) n) (leb→le ((r + 1) * (r + 1)) n) (nleb→lt ((r + 1) * (r + 1)) n) (double z n (floor d (n / 4) (quarter n (4 ^ d) (subst (λ (x : ℕ). n < x) (pow-suc 4 d) h))))
  where
    go : (r : ℕ) (b : Bool) → (T b → (r + 1) * (r + 1) ≤ n) → (T (not b) → n < (r + 1) * (r + 1)) → (r * r ≤ n) × (n < (r + 1 + 1) * (r + 1 + 1)) → Floor (cond b (r + 1) r) n
    go r true y x p = (y tt, p.1)
    go r false y x p = (p.0, x tt)

-- ---- squares are in the order of their roots
pub square_lt : (a b : ℕ) → a * a < b * b → a < b
square_lt a b h = lt_of_not-le (λ (g : b ≤ a). not-le_of_lt h (mul-le-mul g g))

pub four : (d : ℕ) → 4 ^ d ≡ 2 ^ d * 2 ^ d
four zero = refl
four (suc d) = pow-suc 4 d ∙ ap (λ (x : ℕ). x * 4) (four d) ∙ quad (2 ^ d) (2 ^ suc d) (pow-suc 2 d)
  where
    quad : (a b : ℕ) → b ≡ a * 2 → a * a * 4 ≡ b * b
    quad a b e = subst (λ (x : ℕ). a * a * 4 ≡ x * x) (sym e) (omega arith)

-- the fuel that `rooted` gives is enough
enough : (n p : ℕ) → n < p → n < p * p
enough n p h = omega (arith, mul-le-mul h h)

pub floor_size : (n : ℕ) → Floor (whole_root (size n) n) n
floor_size n = floor (size n) n (subst (λ (x : ℕ). n < x) (sym (four (size n))) (enough n (2 ^ size n) (size-lt n)))
