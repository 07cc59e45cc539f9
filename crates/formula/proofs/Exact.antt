-- Where the operands and the rounded result are whole and below 2 ^ 53, sum, difference and product are exact over the integers. A fraction that is a whole number N, and whose rounded value is below 2 ^ 53, is below it itself, since rounding keeps order; so nothing is rounded off.
use mathlib.Core.Path.{◌≡◌, refl, sym, ap, ◌∙◌}
use mathlib.Core.Bool.{Bool, true, false, not, ◌||◌, beq, cond}
use Prim.Native.Nat.{ℕ, zero, suc, ◌+◌, ◌-◌, ◌*◌, ◌/◌, ◌%◌, ◌^◌, ◌≤◌, ◌<◌}
use native.Mathlib.Nat.{le_of_lt, lt_of_not-le, mul-one, zero-mul, mul_comm, mul-pos, mul-le-mul_right, mul-div_cancel, div-lt_iff_lt-mul, div-add-mod', add-mul, le_of_mul-le-mul_right, mul-sub, mul-mul-mul_comm, zero-lt-suc}
use native.Mathlib.Omega.{arith}
use lib.Dec.{T, ltb, eqb, ltb→lt, nltb→le, eqb→eq}
use lib.Pow.{pow_pos}
use lib.IntN.{ℤ, pos, neg_ℤ, nat_abs, pos-ne-negsuc, ◌+ℤ◌, ◌-ℤ◌, ◌*ℤ◌, neg_ℤ-+ℤ, neg_ℤ-neg_ℤ, +ℤ_comm}
use lib.Ieee.{Float, nan, inf, fin, Format, binary64, prec, emax, low, up, down, unlike, odd, units, round, sum, neg, add, sub, mul, le, eq}
use lib.Ieee.Back.{round_whole}
use lib.Ieee.Exact.{HasValue}
use lib.Ieee.Fits.{round_is, down_pos, up_pos, and_l, and_r, and_i, eq→eqb}
use lib.Ieee.Order.{round_mono}
use lib.Ieee.Positive.{above_of_le, first_pos, le→cross}
use lib.Ieee.Scale.{round_same}
use Rattle.formula.specs.Whole.{is_whole, signed, int_of}
use Rattle.formula.proofs.Integers.{neg_times, times_neg, less_whole, less_negative}

-- ---- a whole float is its size, a natural number, and its sign
pub whole_size : (s : Bool) (m : ℕ) (e : ℤ) → T (is_whole (fin s m e)) → m * up e ≡ m * up e / down e * down e
unfolding is_whole
whole_size s m e w =
    let r : m * up e % down e ≡ 0 = eqb→eq (m * up e % down e) 0 (and_l (eqb (m * up e % down e) 0) (ltb (m * up e / down e) (2 ^ 53)) w) in
    whole (m * up e) (m * up e / down e * down e) (m * up e % down e) r (div-add-mod' (m * up e) (down e))
  where
    whole : (a q r : ℕ) → r ≡ 0 → q + r ≡ a → a ≡ q
    whole a q r h e = omega arith

pub whole_small : (s : Bool) (m : ℕ) (e : ℤ) → T (is_whole (fin s m e)) → m * up e / down e < 2 ^ 53
unfolding is_whole
whole_small s m e w = ltb→lt (m * up e / down e) (2 ^ 53) (and_r (eqb (m * up e % down e) 0) (ltb (m * up e / down e) (2 ^ 53)) w)

-- its size is 0 where its digits are
pub whole_some : (s : Bool) (m : ℕ) (e : ℤ) → T (is_whole (fin s (suc m) e)) → 0 < suc m * up e / down e
whole_some s m e w = first_pos (suc m * up e / down e) (down e) (rw (whole_size s (suc m) e w) at (mul-pos (zero-lt-suc m) (up_pos e)))

pub whole_none : (s : Bool) (e : ℤ) → int_of (fin s zero e) ≡ pos 0
unfolding int_of
whole_none s e = go s (ap (λ (x : ℕ). x / down e) (zero-mul (up e) ∙ sym (zero-mul (down e))) ∙ mul-div_cancel 0 (down_pos e))
  where
    go : (s : Bool) → 0 * up e / down e ≡ 0 → signed s (0 * up e / down e) ≡ pos 0
    go false z = ap pos z
    go true z = ap (signed true) z

pub value_int : (x : Float) (s : Bool) (N : ℕ) → HasValue x s N 1 → int_of x ≡ signed s N
unfolding int_of
value_int nan s N v = absurd v
value_int (inf t) s N v = absurd v
value_int (fin t m e) s N v = cc (v.0, v.1, mul-one (m * up e), mul-div_cancel N (down_pos e))

-- ---- what is rounded to a whole float is below 2 ^ 53
top_is : round binary64 false (2 ^ 53) 1 ≡ fin false 1 (pos 53)
unfolding round
top_is = refl

beyond : (z : Float) → T (le (fin false 1 (pos 53)) z) → T (is_whole z) → ⊥
unfolding is_whole
beyond nan h w = w
beyond (inf s) h w = w
beyond (fin true m e) h w = above_of_le (fin false 1 (pos 53)) (fin true m e) tt h
beyond (fin false m e) h w =
    let a = le→cross (fin false 1 (pos 53)) (fin false m e) tt (above_of_le (fin false 1 (pos 53)) (fin false m e) tt h) h in
    omega (arith, a, (div-lt_iff_lt-mul (down_pos e)).0 (whole_small false m e w))

-- rounding keeps the sign out of the size
whole_odd : (d : ℕ) (s : Bool) (q k l : ℕ) → is_whole (odd d s q k l) ≡ is_whole (odd d false q k l)
unfolding odd is_whole
whole_odd d s zero k l = refl
whole_odd d s (suc q) k l = refl

whole_units : (f : Format) (s : Bool) (q k : ℕ) → is_whole (units f s q k) ≡ is_whole (units f false q k)
unfolding units is_whole
whole_units f s q k = go (ltb (q * 2 ^ k) (2 ^ (low f + suc (emax f))))
  where
    go : (b : Bool) → is_whole (cond b (odd (suc (prec f)) s q k (low f)) (inf s)) ≡ is_whole (cond b (odd (suc (prec f)) false q k (low f)) (inf false))
    go true = whole_odd (suc (prec f)) s q k (low f)
    go false = refl

pub whole_round : (s : Bool) (a c : ℕ) → is_whole (round binary64 s a c) ≡ is_whole (round binary64 false a c)
whole_round s a c = ap is_whole (round_is binary64 s a c) ∙ whole_units binary64 s _ _ ∙ sym (ap is_whole (round_is binary64 false a c))

under : (s : Bool) (N : ℕ) → T (is_whole (round binary64 s N 1)) → N < 2 ^ 53
under s N w = lt_of_not-le (λ (h : 2 ^ 53 ≤ N).
    beyond (round binary64 false N 1) (rw top_is at (round_mono binary64 (2 ^ 53) 1 N 1 (pow_pos 0) (pow_pos 0) (mul-le-mul_right 1 h))) (rw (whole_round s N 1) at w))

-- and so is exact
pub round_int : (s : Bool) (N num C : ℕ) → 0 < C → num ≡ N * C → T (is_whole (round binary64 s num C)) → int_of (round binary64 s num C) ≡ signed s N
round_int s N num C P e w =
    let r : round binary64 s num C ≡ round binary64 s N 1 = round_same binary64 s num C N 1 P (pow_pos 0) (mul-one num ∙ e) in
    ap int_of r ∙ value_int (round binary64 s N 1) s N (round_whole binary64 s N (le_of_lt (under s N (rw r at w))))

-- ---- two whole floats over one denominator
pub over_right : (x a d c : ℕ) → x ≡ a * d → x * c ≡ a * (d * c)
over_right x a d c h = omega (arith, ap (λ (y : ℕ). y * c) h)

pub over_left : (x a d c : ℕ) → x ≡ a * d → x * c ≡ a * (c * d)
over_left x a d c h = omega (arith, ap (λ (y : ℕ). y * c) h)

less_at : (A B a b C : ℕ) → A ≡ a * C → B ≡ b * C → A - B ≡ (a - b) * C
less_at A B a b C e f = cc (mul_comm a C, mul_comm b C, mul-sub C a b, mul_comm C (a - b))

order_at : (A B a b C : ℕ) → 0 < C → A ≡ a * C → B ≡ b * C → A ≤ B → a ≤ b
order_at A B a b C P e f h = let l : a * C ≤ b * C = omega arith in le_of_mul-le-mul_right l P

both_nought : (a b : ℕ) → a ≤ b → b ≤ a → a - b ≡ b - a
both_nought a b h g = omega arith

-- ---- the sum
module _ (A B C a b : ℕ) (P : 0 < C) (e : A ≡ a * C) (f : B ≡ b * C) where
  sum_exact : (s t : Bool) → T (is_whole (sum binary64 s A t B C)) → int_of (sum binary64 s A t B C) ≡ signed s a +ℤ signed t b
  unfolding sum
  sum_exact false false w = round_int false (a + b) (A + B) C P (cc (add-mul a b C)) w
  sum_exact true true w = round_int true (a + b) (A + B) C P (cc (add-mul a b C)) w ∙ neg_ℤ-+ℤ (pos a) (pos b)
  sum_exact false true w = go (ltb A B) (ltb→lt A B) (nltb→le A B) w
    where
      go : (l : Bool) → (T l → A < B) → (T (not l) → B ≤ A) → T (is_whole (cond l (round binary64 true (B - A) C) (round binary64 false (A - B) C)))
          → int_of (cond l (round binary64 true (B - A) C) (round binary64 false (A - B) C)) ≡ pos a +ℤ neg_ℤ (pos b)
      go true h g w = round_int true (b - a) (B - A) C P (less_at B A b a C f e) w ∙ sym (less_negative a b (order_at A B a b C P e f (le_of_lt (h tt))))
      go false h g w = round_int false (a - b) (A - B) C P (less_at A B a b C e f) w ∙ sym (less_whole a b (order_at B A b a C P f e (g tt)))
  sum_exact true false w = go (ltb A B) (ltb B A) (ltb→lt A B) (nltb→le A B) (nltb→le B A) w ∙ +ℤ_comm (pos b) (neg_ℤ (pos a))
    where
      go : (l r : Bool) → (T l → A < B) → (T (not l) → B ≤ A) → (T (not r) → A ≤ B) → T (is_whole (cond l (round binary64 false (B - A) C) (round binary64 r (A - B) C)))
          → int_of (cond l (round binary64 false (B - A) C) (round binary64 r (A - B) C)) ≡ pos b +ℤ neg_ℤ (pos a)
      go true r h g k w = round_int false (b - a) (B - A) C P (less_at B A b a C f e) w ∙ sym (less_whole b a (order_at A B a b C P e f (le_of_lt (h tt))))
      go false true h g k w = round_int true (a - b) (A - B) C P (less_at A B a b C e f) w ∙ sym (less_negative b a (order_at B A b a C P f e (g tt)))
      go false false h g k w =
          let x : a ≤ b = order_at A B a b C P e f (k tt) in
          round_int false (a - b) (A - B) C P (less_at A B a b C e f) w ∙ ap pos (both_nought a b x (order_at B A b a C P f e (g tt))) ∙ sym (less_whole b a x)

pub add_exact : (x y : Float) → T (is_whole x) → T (is_whole y) → T (is_whole (add binary64 x y)) → int_of (add binary64 x y) ≡ int_of x +ℤ int_of y
unfolding add int_of is_whole
add_exact nan y p q w = absurd p
add_exact (inf s) y p q w = absurd p
add_exact (fin s m e) nan p q w = absurd q
add_exact (fin s m e) (inf t) p q w = absurd q
add_exact (fin s m e) (fin t n d) p q w =
    sum_exact (m * up e * down d) (n * up d * down e) (down e * down d) (m * up e / down e) (n * up d / down d) (mul-pos (down_pos e) (down_pos d))
    (over_right (m * up e) (m * up e / down e) (down e) (down d) (whole_size s m e p))
    (over_left (n * up d) (n * up d / down d) (down d) (down e) (whole_size t n d q))
    s t w

-- ---- the difference
neg_whole : (y : Float) → T (is_whole y) → T (is_whole (neg y))
unfolding neg is_whole
neg_whole nan h = h
neg_whole (inf s) h = h
neg_whole (fin s m e) h = h

neg_int : (y : Float) → int_of (neg y) ≡ neg_ℤ (int_of y)
unfolding neg int_of
neg_int nan = refl
neg_int (inf s) = refl
neg_int (fin false m e) = refl
neg_int (fin true m e) = sym (neg_ℤ-neg_ℤ (pos (m * up e / down e)))

pub sub_exact : (x y : Float) → T (is_whole x) → T (is_whole y) → T (is_whole (sub binary64 x y)) → int_of (sub binary64 x y) ≡ int_of x -ℤ int_of y
unfolding sub
sub_exact x y p q w = add_exact x (neg y) p (neg_whole y q) w ∙ ap (λ i. int_of x +ℤ i) (neg_int y)

-- ---- the product
pub sign_times : (s t : Bool) (a b : ℕ) → signed (unlike s t) (a * b) ≡ signed s a *ℤ signed t b
sign_times false false a b = refl
sign_times true false a b = sym (neg_times (pos a) (pos b))
sign_times false true a b = sym (times_neg (pos a) (pos b))
sign_times true true a b = cc (neg_times (pos a) (neg_ℤ (pos b)), times_neg (pos a) (pos b), neg_ℤ-neg_ℤ (pos (a * b)))

pub mul_exact : (x y : Float) → T (is_whole x) → T (is_whole y) → T (is_whole (mul binary64 x y)) → int_of (mul binary64 x y) ≡ int_of x *ℤ int_of y
unfolding mul int_of is_whole
mul_exact nan y p q w = absurd p
mul_exact (inf s) y p q w = absurd p
mul_exact (fin s m e) nan p q w = absurd q
mul_exact (fin s m e) (inf t) p q w = absurd q
mul_exact (fin s m e) (fin t n d) p q w =
    let a = m * up e / down e in
    let b = n * up d / down d in
    round_int (unlike s t) (a * b) (m * up e * (n * up d)) (down e * down d) (mul-pos (down_pos e) (down_pos d))
    (cc (whole_size s m e p, whole_size t n d q, mul-mul-mul_comm a (down e) b (down d))) w
    ∙ sign_times s t a b

-- ---- two whole floats of one integer are equal as numbers
size_signed : (s : Bool) (a : ℕ) → nat_abs (signed s a) ≡ a
size_signed false a = refl
size_signed true zero = refl
size_signed true (suc a) = refl

pub same_size : (s t : Bool) (a b : ℕ) → signed s a ≡ signed t b → a ≡ b
same_size s t a b e = cc (size_signed s a, size_signed t b)

pub same_sign : (s t : Bool) (a b : ℕ) → signed s a ≡ signed t b → T (beq s t || eqb a 0)
same_sign false false a b e = tt
same_sign true true a b e = tt
same_sign false true a zero e = eq→eqb (same_size false true a zero e)
same_sign false true a (suc b) e = absurd (pos-ne-negsuc a b e)
same_sign true false zero b e = tt
same_sign true false (suc a) b e = absurd (pos-ne-negsuc b a (sym e))

sign_at : (u : Bool) (a X C : ℕ) → X ≡ a * C → T (u || eqb a 0) → T (u || eqb X 0)
sign_at true a X C e h = tt
sign_at false a X C e h = let z : X ≡ 0 = cc (eqb→eq a 0 h, zero-mul C) in eq→eqb z

pub same_number : (x y : Float) → T (is_whole x) → T (is_whole y) → int_of x ≡ int_of y → T (eq x y)
unfolding eq int_of is_whole
same_number nan y p q h = absurd p
same_number (inf s) y p q h = absurd p
same_number (fin s m e) nan p q h = absurd q
same_number (fin s m e) (inf t) p q h = absurd q
same_number (fin s m e) (fin t n d) p q h =
    let a = m * up e / down e in
    let b = n * up d / down d in
    let X = over_right (m * up e) a (down e) (down d) (whole_size s m e p) in
    let Y = over_left (n * up d) b (down d) (down e) (whole_size t n d q) in
    let Z : m * up e * down d ≡ n * up d * down e = cc (X, Y, same_size s t a b h) in
    and_i (eqb (m * up e * down d) (n * up d * down e)) (beq s t || eqb (m * up e * down d) 0) (eq→eqb Z)
    (sign_at (beq s t) a (m * up e * down d) (down e * down d) X (same_sign s t a b h))
