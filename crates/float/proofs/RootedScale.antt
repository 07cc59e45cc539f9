-- 4 ^ t times n has 2 ^ t times the root, on the numbers that `rooted` is handed. Assumes nothing.
use mathlib.Core.Path.{◌≡◌, sym, ap, ◌∙◌, subst}
use Prim.Native.Nat.{ℕ, ◌+◌, ◌-◌, ◌*◌, ◌/◌, ◌^◌, ◌≤◌, ◌<◌, compare, Ordering}
use native.Mathlib.Nat.{le_trans, le_of_eq, lt_of_lt_of_le, mul-le-mul, mul-le-mul_right, mul-lt-mul_of_pos_right, mul-pos, div-mul-le_self, lt-div-mul-add, le-div_iff_mul-le}
use native.Mathlib.Omega.{arith}
use mathlib.Core.Bool.{false}
use lib.Pow.{pow-add, pow_pos}
use lib.Ieee.{Format, prec, size, nearest, units}
use lib.Ieee.Digits.{size_reaches}
use lib.Ieee.Fits.{two, kept-lt}
use Rattle.float.specs.Root.{whole_root, rooted}
use Rattle.float.proofs.Floor.{floor_size}
use Rattle.float.proofs.Comparing.{compare_scale}
use Rattle.float.proofs.Rooted.{middle, side, Between, rooted_is}

spread : (a u v : ℕ) → a * (u * v) * (a * (u * v)) ≡ a * u * (a * u) * (v * v)
spread a u v = omega arith

spread_pow : (a k t : ℕ) → a * 2 ^ (k + t) * (a * 2 ^ (k + t)) ≡ a * 2 ^ k * (a * 2 ^ k) * (2 ^ t * 2 ^ t)
spread_pow a k t = ap (λ (x : ℕ). a * x * (a * x)) (pow-add 2 k t) ∙ spread a (2 ^ k) (2 ^ t)

pub between_scale : (n q k t : ℕ) → Between n q k → Between (n * (2 ^ t * 2 ^ t)) q (k + t)
between_scale n q k t b = (
  subst (λ (x : ℕ). x ≤ n * (2 ^ t * 2 ^ t)) (sym (spread_pow q k t)) (mul-le-mul_right (2 ^ t * 2 ^ t) b.0),
  subst (λ (x : ℕ). n * (2 ^ t * 2 ^ t) < x) (sym (spread_pow (q + 1) k t)) (mul-lt-mul_of_pos_right b.1 (mul-pos (pow_pos t) (pow_pos t))),
)

four_out : (n c : ℕ) → 4 * (n * c) ≡ 4 * n * c
four_out n c = omega arith

pub side_scale : (n q k t : ℕ) → side (n * (2 ^ t * 2 ^ t)) q (k + t) ≡ side n q k
side_scale n q k t =
    ap (λ (x : ℕ). compare x (middle q (k + t) * middle q (k + t))) (four_out n (2 ^ t * 2 ^ t))
    ∙ ap (λ (x : ℕ). compare (4 * n * (2 ^ t * 2 ^ t)) x) (spread_pow (2 * q + 1) k t)
    ∙ compare_scale (4 * n) (middle q k * middle q k) (2 ^ t * 2 ^ t) (mul-pos (pow_pos t) (pow_pos t))

-- ---- the digits that `rooted` finds by itself
abbrev pub dropped : Format → ℕ → ℕ
dropped f n = size (whole_root (size n) n) - prec f

abbrev pub kept : Format → ℕ → ℕ
kept f n = whole_root (size n) n / 2 ^ dropped f n

one_out : (a u : ℕ) → a * u + u ≡ (a + 1) * u
one_out a u = omega arith

pub between_own : (f : Format) (n : ℕ) → Between n (kept f n) (dropped f n)
between_own f n =
    let w = whole_root (size n) n in
    let u = 2 ^ dropped f n in
    let q = kept f n in
    let a : q * u ≤ w = div-mul-le_self w u in
    let b : w + 1 ≤ (q + 1) * u = subst (λ (x : ℕ). w + 1 ≤ x) (one_out q u) (omega (arith, lt-div-mul-add {a = w} (pow_pos (dropped f n)))) in
    (le_trans (mul-le-mul a a) (floor_size n).0, lt_of_lt_of_le (floor_size n).1 (mul-le-mul b b))

top : (p z : ℕ) → 2 ≤ p → p ≤ z → p - 1 + (z - p) < z
top p z h k = omega arith

-- √n in the normal range: its whole part has all the digits that the format keeps
abbrev pub Normal : Format → ℕ → Type 0
Normal f n = prec f ≤ size (whole_root (size n) n)

pub kept_low : (f : Format) (n : ℕ) → Normal f n → 2 ^ (prec f - 1) ≤ kept f n
kept_low f n h =
    let w = whole_root (size n) n in
    (le-div_iff_mul-le (pow_pos (dropped f n))).1
    (le_trans (le_of_eq (sym (pow-add 2 (prec f - 1) (dropped f n)))) (size_reaches w (prec f - 1 + dropped f n) (top (prec f) (size w) (two f) h)))

pub kept_high : (f : Format) (n : ℕ) → kept f n < 2 ^ prec f
kept_high f n = kept-lt (prec f) (whole_root (size n) n)

-- the law: the same digits, t places higher
pub rooted_scale : (f : Format) (n t : ℕ) → Normal f n → rooted f (n * (2 ^ t * 2 ^ t)) ≡ units f false (nearest (kept f n) (side n (kept f n) (dropped f n))) (dropped f n + t)
rooted_scale f n t h =
    let q = kept f n in
    let k = dropped f n in
    rooted_is f (n * (2 ^ t * 2 ^ t)) q (k + t) (between_scale n q k t (between_own f n)) (kept_low f n h) (kept_high f n)
    ∙ ap (λ (o : Ordering). units f false (nearest q o) (k + t)) (side_scale n q k t)
