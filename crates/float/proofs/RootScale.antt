-- The root of 4 ^ t * x is 2 ^ t times the root of x, to the last digit, for any whole t, wherever the format holds both x and 4 ^ t * x.
-- Subnormal x are among them: the root of a positive value is never subnormal and never overflows. Assumes nothing.
use mathlib.Core.Path.{◌≡◌, refl, sym, ap, ◌∙◌, subst}
use Prim.Native.Nat.{ℕ, zero, suc, ◌+◌, ◌-◌, ◌*◌, ◌/◌, ◌^◌, ◌≤◌, ◌<◌, Ordering}
use native.Mathlib.Nat.{le_trans, le_of_eq, lt_of_lt_of_le, lt_of_le_of_lt, lt_of_not-le, not-le_of_lt, le-add_right, zero-lt-suc, lt_irrefl, zero-mul, one-mul, mul_assoc, mul_right_comm, mul-pos, mul-le-mul_left, mul-le-mul_right, mul-lt-mul_of_pos_right, eq_of_mul-eq-mul_right}
use native.Mathlib.Omega.{arith}
use mathlib.Core.Bool.{true, false}
use lib.Dec.{T, lit≤}
use lib.IntN.{ℤ, pos, negsuc, ◌+ℤ◌, +ℤ_invr}
use lib.Pow.{pow-add, pow_pos, pow_mono}
use lib.Count.{count_trailing_zeros}
use lib.Ieee.{Float, nan, inf, fin, Format, binary32, binary64, prec, emax, low, up, down, minus, size, nearest, odd, fits}
use lib.Ieee.Digits.{size-lt}
use lib.Ieee.Exact.{odd_sign}
use lib.Ieee.Fits.{two, down_pos, nearest-le}
use lib.Ieee.Nearest.{nearest-ge}
use Rattle.float.specs.Root.{root, rooted, whole_root}
use Rattle.float.specs.Scale.{scale}
use Rattle.float.proofs.Floor.{floor_size, square_lt}
use Rattle.float.proofs.Rooted.{side, rooted_def}
use Rattle.float.proofs.RootedScale.{dropped, kept, Normal, between_own, between_scale, kept_low, rooted_scale}
use Rattle.float.proofs.Patterns.{units_in}
use Rattle.float.proofs.RootValue.{root_value}
use Rattle.float.proofs.Exponents.{up_add, minus_add}
use Rattle.float.proofs.Scaling.{scale_pos, scale_scale, scale_none, scale_back}
use Rattle.float.proofs.Units.{in_units, fits_low, fits_high, units_lt}

-- ---- of a format: its smallest value lies deeper than its digits go twice, and it reaches above 2
deep : (f : Format) → prec f - 1 + (prec f - 1) ≤ low f
deep binary32 = lit≤ tt
deep binary64 = lit≤ tt

high : (f : Format) → 2 ≤ suc (emax f)
high binary32 = lit≤ tt
high binary64 = lit≤ tt

mant : (f : Format) (m : ℕ) (e : ℤ) (a : ℕ) → 0 < a → m * up e * 2 ^ low f ≡ a * down e → 0 < m
mant f zero e a h v = absurd (lt_irrefl 0 (subst (λ (x : ℕ). 0 < x) (sym v ∙ ap (λ (x : ℕ). x * 2 ^ low f) (zero-mul (up e)) ∙ zero-mul (2 ^ low f)) (mul-pos h (down_pos e))))
mant f (suc m) e a h v = zero-lt-suc m

odd_move : (f : Format) (d q k t : ℕ) → 0 < q → odd d false q (k + t) (low f) ≡ scale (pos t) (odd d false q k (low f))
unfolding odd
odd_move f d zero k t h = absurd (lt_irrefl 0 h)
odd_move f d (suc q) k t h =
    let z = count_trailing_zeros d (suc q) in
    let l = low f in
    ap (λ (x : ℕ). fin false (suc q / 2 ^ z) (minus x l)) (swap k t z)
    ∙ ap (fin false (suc q / 2 ^ z)) (minus_add (k + z) l t)
    ∙ sym (scale_pos (pos t) false (suc q / 2 ^ z) (minus (k + z) l) (mant f (suc q / 2 ^ z) (minus (k + z) l) (suc q * 2 ^ k) (mul-pos (zero-lt-suc q) (pow_pos k)) (odd_sign d false (suc q) k l).1))
  where
    swap : (k t z : ℕ) → k + t + z ≡ k + z + t
    swap k t z = omega arith

-- ---- the root of a positive value is normal
pub normal : (f : Format) (a : ℕ) → 0 < a → Normal f (a * 2 ^ low f)
normal f a A =
    let n = a * 2 ^ low f in
    let w = whole_root (size n) n in
    let p = prec f in
    let x : 2 ^ (p - 1) * 2 ^ (p - 1) ≤ n = le_trans (le_of_eq (sym (pow-add 2 (p - 1) (p - 1)))) (le_trans (pow_mono (deep f)) (le_trans (le_of_eq (sym (one-mul (2 ^ low f)))) (mul-le-mul_right (2 ^ low f) A))) in
    let y : 2 ^ (p - 1) < w + 1 = square_lt (2 ^ (p - 1)) (w + 1) (lt_of_le_of_lt x (floor_size n).1) in
    all (size w) p (two f) (pow_lt_back (p - 1) (size w) (lt_of_le_of_lt (under (2 ^ (p - 1)) w y) (size-lt w)))
  where
    under : (a w : ℕ) → a < w + 1 → a ≤ w
    under a w h = omega arith

    pow_lt_back : (i p : ℕ) → 2 ^ i < 2 ^ p → i < p
    pow_lt_back i p h = lt_of_not-le (λ (g : p ≤ i). not-le_of_lt h (pow_mono g))

    all : (z p : ℕ) → 2 ≤ p → p - 1 < z → p ≤ z
    all z p h k = omega arith

-- ---- and it does not overflow
twice : (q : ℕ) → 1 ≤ q → suc q ≤ 2 * q
twice q h = omega arith

squared : (c : ℕ) → 2 * c * (2 * c) ≡ 4 * (c * c)
squared c = omega arith

exps : (l g : ℕ) → 2 ≤ g → 2 + (l + g + l) ≤ l + g + (l + g)
exps l g h = omega arith

pub under : (f : Format) (n q k : ℕ) (o : Ordering) → 1 ≤ q → q * 2 ^ k * (q * 2 ^ k) ≤ n → n < 2 ^ (low f + suc (emax f) + low f) → nearest q o * 2 ^ k < 2 ^ (low f + suc (emax f))
under f n q k o Q b h =
    let c = q * 2 ^ k in
    let g = suc (emax f) in
    let l = low f in
    let r : nearest q o * 2 ^ k ≤ 2 * c = le_trans (mul-le-mul_right (2 ^ k) (le_trans (nearest-le q o) (twice q Q))) (le_of_eq (mul_assoc 2 q (2 ^ k))) in
    let s : 2 * c * (2 * c) < 2 ^ (l + g) * 2 ^ (l + g) =
    lt_of_le_of_lt (le_trans (le_of_eq (squared c)) (mul-le-mul_left 4 b))
    (lt_of_lt_of_le (four n (2 ^ (l + g + l)) h) (le_trans (le_of_eq (sym (pow-add 2 2 (l + g + l)))) (le_trans (pow_mono (exps l g (high f))) (le_of_eq (pow-add 2 (l + g) (l + g)))))) in
    lt_of_le_of_lt r (square_lt (2 * c) (2 ^ (l + g)) s)
  where
    four : (n p : ℕ) → n < p → 4 * n < 4 * p
    four n p h = omega arith

-- ---- the law, for a t that is not negative
pub pos_of : (p : ℕ) (q : ℕ) → 2 ^ (p - 1) ≤ q → 1 ≤ q
pos_of p q h = le_trans (pow_pos (p - 1)) h

moved : (f : Format) (a t : ℕ) → 0 < a → a * (2 ^ t * 2 ^ t) < 2 ^ (low f + suc (emax f)) → rooted f (a * (2 ^ t * 2 ^ t) * 2 ^ low f) ≡ scale (pos t) (rooted f (a * 2 ^ low f))
moved f a t A B =
    let l = low f in
    let n = a * 2 ^ l in
    let c = 2 ^ t * 2 ^ t in
    let N = normal f a A in
    let q = kept f n in
    let k = dropped f n in
    let o = side n q k in
    let r = nearest q o in
    let Q : 1 ≤ q = pos_of (prec f) q (kept_low f n N) in
    let hi : n * c < 2 ^ (l + suc (emax f) + l) = subst (λ (x : ℕ). x < 2 ^ (l + suc (emax f) + l)) (mul_right_comm a c (2 ^ l)) (lt_of_lt_of_le (mul-lt-mul_of_pos_right B (pow_pos l)) (le_of_eq (sym (pow-add 2 (l + suc (emax f)) l)))) in
    let big : r * 2 ^ (k + t) < 2 ^ (l + suc (emax f)) = under f (n * c) q (k + t) o Q (between_scale n q k t (between_own f n)).0 hi in
    let less : r * 2 ^ k < 2 ^ (l + suc (emax f)) = lt_of_le_of_lt (mul-le-mul_left r (pow_mono (le-add_right k t))) big in
    ap (rooted f) (mul_right_comm a c (2 ^ l))
    ∙ rooted_scale f n t N
    ∙ units_in f false r (k + t) big
    ∙ odd_move f (suc (prec f)) r k t (le_trans Q (nearest-ge q o))
    ∙ ap (scale (pos t)) (sym (rooted_def f n ∙ units_in f false r k less))

-- the units of 2 ^ s * x
moved_units : (f : Format) (m : ℕ) (e : ℤ) (a s : ℕ) → m * up e * 2 ^ low f ≡ a * down e → m * up (e +ℤ pos s) * 2 ^ low f ≡ a * 2 ^ s * down (e +ℤ pos s)
moved_units f m e a s v =
    let d = e +ℤ pos s in
    eq_of_mul-eq-mul_right (down e) (down_pos e) (m * up d * 2 ^ low f) (a * 2 ^ s * down d)
    (one m (up d) (2 ^ low f) (down e)
    ∙ ap (λ (x : ℕ). m * 2 ^ low f * x) (up_add e s)
    ∙ three m (2 ^ low f) (up e) (2 ^ s) (down d)
    ∙ ap (λ (x : ℕ). x * (2 ^ s * down d)) v
    ∙ four a (down e) (2 ^ s) (down d))
  where
    one : (m u l d : ℕ) → m * u * l * d ≡ m * l * (u * d)
    one m u l d = omega arith

    three : (m l u s d : ℕ) → m * l * (u * s * d) ≡ m * u * l * (s * d)
    three m l u s d = omega arith

    four : (a d s v : ℕ) → a * d * (s * v) ≡ a * s * v * d
    four a d s v = omega arith

pub root_scale_pos : (f : Format) (x : Float) (t : ℕ) → T (fits f x) → T (fits f (scale (pos (t + t)) x)) → root f (scale (pos (t + t)) x) ≡ scale (pos t) (root f x)
unfolding root
root_scale_pos f nan t h g = refl
root_scale_pos f (inf true) t h g = refl
root_scale_pos f (inf false) t h g = refl
root_scale_pos f (fin s zero e) t h g = refl
root_scale_pos f (fin true (suc m) e) t h g = refl
root_scale_pos f (fin false (suc m) e) t h g = go f m e t h g
  where
    go : (f : Format) (m : ℕ) (e : ℤ) (t : ℕ) → T (fits f (fin false (suc m) e)) → T (fits f (fin false (suc m) (e +ℤ pos (t + t)))) → root f (fin false (suc m) (e +ℤ pos (t + t))) ≡ scale (pos t) (root f (fin false (suc m) e))
    go f m e t h g =
        let u = in_units f (suc m) e (zero-lt-suc m) (fits_low f false m e h) in
        let a = u.a in
        let c = 2 ^ t * 2 ^ t in
        let v : suc m * up (e +ℤ pos (t + t)) * 2 ^ low f ≡ a * c * down (e +ℤ pos (t + t)) = moved_units f (suc m) e a (t + t) u.is ∙ ap (λ (x : ℕ). a * x * down (e +ℤ pos (t + t))) (pow-add 2 t t) in
        root_value f (fin false (suc m) (e +ℤ pos (t + t))) (a * c) (mul-pos u.some (mul-pos (pow_pos t) (pow_pos t))) (refl, v)
        ∙ moved f a t u.some (units_lt f (suc m) (e +ℤ pos (t + t)) (a * c) v (fits_high f false m (e +ℤ pos (t + t)) g))
        ∙ ap (scale (pos t)) (sym (root_value f (fin false (suc m) e) a u.some (refl, u.is)))

-- ---- and for any t

pub root_scale : (f : Format) (x : Float) (t : ℤ) → T (fits f x) → T (fits f (scale (t +ℤ t) x)) → root f (scale (t +ℤ t) x) ≡ scale t (root f x)
root_scale f x (pos t) h g = root_scale_pos f x t h g
root_scale f x (negsuc t) h g =
    let T' = negsuc t in
    let y = scale (T' +ℤ T') x in
    let e : scale (pos (suc t + suc t)) y ≡ x = ap (λ (u : ℕ). scale (pos u) y) (both t) ∙ scale_back (T' +ℤ T') x in
    sym
    (ap (λ (z : Float). scale T' (root f z)) (sym e)
    ∙ ap (scale T') (root_scale_pos f y (suc t) g (subst (λ (z : Float). T (fits f z)) (sym e) h))
    ∙ scale_scale (pos (suc t)) T' (root f y)
    ∙ ap (λ (u : ℤ). scale u (root f y)) (+ℤ_invr (pos (suc t)))
    ∙ scale_none (root f y))
  where
    both : (t : ℕ) → suc t + suc t ≡ suc (suc (t + t))
    both t = omega arith
