-- Where the rounded quotient of two whole numbers below 2 ^ 53 is one too, it is exact: it times the divisor is the dividend. The rounded value is within half a unit of the quotient, and half a unit is less than 1 over the divisor.
use mathlib.Core.Path.{◌≡◌, refl, sym, ap, ◌∙◌}
use mathlib.Core.Logic.{◌≢◌}
use mathlib.Core.Bool.{Bool, true, false, not, cond}
use Prim.Native.Nat.{ℕ, zero, suc, ◌+◌, ◌-◌, ◌*◌, ◌/◌, ◌%◌, ◌^◌, ◌≤◌, ◌<◌, Ordering, compare}
use native.Mathlib.Nat.{le_antisymm, le_of_suc-le-suc, zero-lt-suc, mul-pos, mul-le-mul_right, mul-lt-mul_of_pos_right, lt_of_mul-lt-mul_right, eq_of_mul-eq-mul_right, le-div_iff_mul-le, div-add-mod', mod-lt, pow-suc}
use native.Mathlib.Omega.{arith}
use lib.Dec.{T, eqb, lit≤}
use lib.Pow.{pow-add, pow_pos, pow_mono}
use lib.IntN.{ℤ, pos, ◌*ℤ◌}
use lib.Ieee.{Float, nan, inf, fin, Format, binary32, binary64, prec, low, up, down, unlike, size, nearest, round, div}
use lib.Ieee.Digits.{size_reaches}
use lib.Ieee.Exact.{HasValue}
use lib.Ieee.Fits.{down_pos, up_pos, two}
use lib.Ieee.Nearest.{closest}
use lib.Ieee.Order.{drop, kept}
use lib.Ieee.Positive.{first_pos}
use lib.Ieee.Scale.{grid, finite, round_same, round_val, round_under}
use Rattle.float.proofs.Comparing.{Cmp, cmp}
use Rattle.formula.specs.Whole.{is_whole, signed, int_of}
use Rattle.formula.proofs.Exact.{whole_size, whole_small, whole_some, whole_round, round_int, sign_times, same_size, over_right, over_left}

-- ---- the nearest multiple of u is within half of u
record Near (n u y : ℕ) : Type 0 where
  under : 2 * n ≤ 2 * y + u
  over : 2 * y ≤ 2 * n + u

near_at : (q r u n : ℕ) (o : Ordering) → q * u + r ≡ n → r < u → Cmp o (r * 2) u → Near n u (nearest q o * u)
near_at q r u n Ordering.lt e h c = omega arith
near_at q r u n Ordering.eq e h c = omega (arith, mul-le-mul_right u (le_of_suc-le-suc (mod-lt q (zero-lt-suc 1))))
near_at q r u n Ordering.gt e h c = omega arith

near : (n u : ℕ) → 0 < u → Near n u (closest n u * u)
near n u U = near_at (n / u) (n % u) u n (compare (n % u * 2) u) (div-add-mod' n u) (mod-lt n U) (cmp (n % u * 2) u)

-- so two multiples of L are one where u is below 2 L
settle : (x y L u : ℕ) → Near (x * L) u (y * L) → u < 2 * L → x ≡ y
settle x y L u n h =
    let a : x * L < suc y * L = omega (arith, n.under) in
    let b : y * L < suc x * L = omega (arith, n.over) in
    le_antisymm (le_of_suc-le-suc (lt_of_mul-lt-mul_right L a)) (le_of_suc-le-suc (lt_of_mul-lt-mul_right L b))

-- ---- the unit of the quotient of two numbers that the format holds, times the divisor, is below 2
short : (f : Format) → prec f ≤ low f
short binary32 = lit≤ tt
short binary64 = lit≤ tt

few : (b p l : ℕ) → b < p → p ≤ l → b * 1 < 2 * l
few b p l h g = omega arith

many : (P K b a L : ℕ) → 0 < L → P * K * b ≤ a * L → a < P * 2 → b * K < 2 * L
many P K b a L H h g = let l : b * K * P < 2 * L * P = omega (arith, mul-lt-mul_of_pos_right g H) in lt_of_mul-lt-mul_right P l

unit_small : (f : Format) (a b : ℕ) → 0 < b → a < 2 ^ prec f → b < 2 ^ prec f → b * 2 ^ drop (prec f) (a * 2 ^ low f) b < 2 * 2 ^ low f
unit_small f a b B A C = go (drop (prec f) (a * 2 ^ low f) b) refl
  where
    exponent : (z p k : ℕ) → suc k ≡ z - p → 2 ≤ p → p - 1 + suc k < z
    exponent z p k e h = omega arith

    twice : (p : ℕ) → 2 ≤ p → p ≡ suc (p - 1)
    twice p h = omega arith

    go : (k : ℕ) → k ≡ size (a * 2 ^ low f / b) - prec f → b * 2 ^ k < 2 * 2 ^ low f
    go zero e = few b (2 ^ prec f) (2 ^ low f) C (pow_mono (short f))
    go (suc k) e =
        let r : 2 ^ (prec f - 1 + suc k) * b ≤ a * 2 ^ low f = (le-div_iff_mul-le B).0 (size_reaches (a * 2 ^ low f / b) (prec f - 1 + suc k) (exponent (size (a * 2 ^ low f / b)) (prec f) k e (two f))) in
        let t : 2 ^ prec f ≡ 2 ^ (prec f - 1) * 2 = ap (λ (x : ℕ). 2 ^ x) (twice (prec f) (two f)) ∙ pow-suc 2 (prec f - 1) in
        many (2 ^ (prec f - 1)) (2 ^ suc k) b a (2 ^ low f) (pow_pos (low f)) (rw (pow-add 2 (prec f - 1) (suc k)) at r) (rw t at A)

-- so where the quotient is rounded to a whole number N, it is N
exact_of_grid : (f : Format) (a b N : ℕ) → 0 < b → a < 2 ^ prec f → b < 2 ^ prec f → grid f a b ≡ N * 2 ^ low f → a ≡ N * b
exact_of_grid f a b N B A C g =
    let k = drop (prec f) (a * 2 ^ low f) b in
    let c = kept (prec f) (a * 2 ^ low f) b in
    settle a (N * b) (2 ^ low f) (b * 2 ^ k) (rw (turn c b (2 ^ k) N (2 ^ low f) g) at (near (a * 2 ^ low f) (b * 2 ^ k) (mul-pos B (pow_pos k)))) (unit_small f a b B A C)
  where
    turn : (c b K N L : ℕ) → c * K ≡ N * L → c * (b * K) ≡ N * b * L
    turn c b K N L g = omega (arith, ap (λ (x : ℕ). x * b) g)

-- ---- a whole float's value, in other units
in_other : (z : Float) (g L : ℕ) → HasValue z false g L → T (is_whole z) → (N : ℕ) × (g ≡ N * L)
in_other nan g L v w = absurd v
in_other (inf s) g L v w = absurd v
in_other (fin s m e) g L v w =
    (m * up e / down e, eq_of_mul-eq-mul_right (down e) (down_pos e) g (m * up e / down e * L) (turn (m * up e) (m * up e / down e) (down e) g L v.1 (whole_size s m e w)))
  where
    turn : (x N d g L : ℕ) → x * L ≡ g * d → x ≡ N * d → g * d ≡ N * L * d
    turn x N d g L v h = omega (arith, ap (λ (y : ℕ). y * L) h)

whole_finite : (z : Float) → T (is_whole z) → T (finite z)
unfolding is_whole
whole_finite nan w = w
whole_finite (inf s) w = w
whole_finite (fin s m e) w = tt

quotient : (s : Bool) (a b : ℕ) → 0 < b → a < 2 ^ 53 → b < 2 ^ 53 → T (is_whole (round binary64 s a b)) → (N : ℕ) × (a ≡ N * b)
quotient s a b B A C w =
    let u = rw (whole_round s a b) at w in
    let r = in_other (round binary64 false a b) (grid binary64 a b) (2 ^ low binary64) (round_val binary64 a b (round_under binary64 a b (whole_finite (round binary64 false a b) u))) u in
    (r.0, exact_of_grid binary64 a b r.0 B A C r.1)

-- ---- the law
cancel : (s t : Bool) (N b : ℕ) → signed (unlike s t) N *ℤ signed t b ≡ signed s (N * b)
cancel s t N b = sym (sign_times (unlike s t) t N b) ∙ ap (λ (x : Bool). signed x (N * b)) (again s t)
  where
    again : (s t : Bool) → unlike (unlike s t) t ≡ s
    again true true = refl
    again true false = refl
    again false true = refl
    again false false = refl

pub div_exact : (x y : Float) → T (is_whole x) → T (is_whole y) → T (is_whole (div binary64 x y)) → int_of (div binary64 x y) *ℤ int_of y ≡ int_of x
unfolding div int_of is_whole
div_exact nan y p q w = absurd p
div_exact (inf s) y p q w = absurd p
div_exact (fin s m e) nan p q w = absurd q
div_exact (fin s m e) (inf t) p q w = absurd q
div_exact (fin s m e) (fin t n d) p q w = go (eqb n 0) (eqb m 0) (some n) w
  where
    a : ℕ
    a = m * up e / down e

    b : ℕ
    b = n * up d / down d

    z : Float
    z = round binary64 (unlike s t) (m * up e * down d) (n * up d * down e)

    some : (n : ℕ) → T (not (eqb n 0)) → 0 < n
    some zero h = absurd h
    some (suc n) h = zero-lt-suc n

    turn : (A B D a b N : ℕ) → A ≡ a * D → B ≡ b * D → a ≡ N * b → A ≡ N * B
    turn A B D a b N h g k = omega (arith, ap (λ (x : ℕ). x * D) k, ap (λ (x : ℕ). N * x) g)

    cross : (A B D a b : ℕ) → A ≡ a * D → B ≡ b * D → A * b ≡ a * B
    cross A B D a b h g = omega (arith, ap (λ (x : ℕ). x * b) h, ap (λ (x : ℕ). a * x) g)

    go : (u v : Bool) → (T (not u) → 0 < n) → T (is_whole (cond u (cond v nan (inf (unlike s t))) z)) → int_of (cond u (cond v nan (inf (unlike s t))) z) *ℤ signed t b ≡ signed s a
    go true true h w = absurd w
    go true false h w = absurd w
    go false v h w =
        let A = m * up e * down d in
        let B = n * up d * down e in
        let D = down e * down d in
        let top : A ≡ a * D = over_right (m * up e) a (down e) (down d) (whole_size s m e p) in
        let bot : B ≡ b * D = over_left (n * up d) b (down d) (down e) (whole_size t n d q) in
        let U : 0 < n * up d = mul-pos (h tt) (up_pos d) in
        let P : 0 < b = first_pos b (down d) (rw (whole_size t n d q) at U) in
        let Q : 0 < B = mul-pos U (down_pos e) in
        let r = quotient (unlike s t) a b P (whole_small s m e p) (whole_small t n d q) (rw (round_same binary64 (unlike s t) A B a b Q P (cross A B D a b top bot)) at w) in
        ap (λ (i : ℤ). i *ℤ signed t b) (round_int (unlike s t) r.0 A B Q (turn A B D a b r.0 top bot r.1) w) ∙ cancel s t r.0 b ∙ ap (signed s) (sym r.1)

-- and the divisor is not zero
pub div_some : (x y : Float) → T (is_whole y) → T (is_whole (div binary64 x y)) → int_of y ≢ pos 0
unfolding div int_of is_whole
div_some nan y q w = absurd w
div_some (inf s) nan q w = absurd w
div_some (inf s) (inf t) q w = absurd w
div_some (inf s) (fin t n d) q w = absurd w
div_some (fin s m e) nan q w = absurd q
div_some (fin s m e) (inf t) q w = absurd q
div_some (fin s m e) (fin t zero d) q w = absurd (go (eqb m 0) w)
  where
    go : (b : Bool) → T (is_whole (cond b nan (inf (unlike s t)))) → ⊥
    go true w = w
    go false w = w
div_some (fin s m e) (fin t (suc n) d) q w = λ h. apart (suc n * up d / down d) (whole_some t n d q) (same_size t false (suc n * up d / down d) 0 h)
  where
    apart : (k : ℕ) → 0 < k → k ≡ 0 → ⊥
    apart k h e = omega arith
