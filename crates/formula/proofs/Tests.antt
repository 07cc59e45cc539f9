-- A test on a whole float is the test on its integer: comparisons are exact, so both sides of one are multiplied by what the float's exponent divides by.
use mathlib.Core.Path.{◌≡◌, refl, sym, ap, ◌∙◌}
use mathlib.Core.List.{List}
use mathlib.Core.Bool.{Bool, true, false, not, ◌&&◌, ◌||◌, beq}
use Prim.Native.Nat.{ℕ, zero, suc, ◌+◌, ◌*◌, ◌/◌, ◌≤◌, ◌<◌, zero-le}
use native.Mathlib.Nat.{mul-one, zero-mul, zero-add, mul-pos, mul-le-mul_right, mul-lt-mul_of_pos_right, zero-lt-suc}
use native.Mathlib.Omega.{arith}
use borrow.Author.Tests.{lt-ltb, le-ltb, eq-eqb, ne_eqb}
use lib.Dec.{T, ltb, ltb→lt, nltb→le}
use lib.IntN.{ℤ, pos, negsuc}
use lib.Ieee.{Float, nan, inf, fin, up, down, below, lt, eq, le}
use lib.Ieee.Fits.{down_pos, up_pos}
use Rattle.std.specs.Float.{float_is_finite}
use Rattle.float.specs.Constants.{nought, one}
use Rattle.float.proofs.Zero.{zero_lt, zero_eq, plus_lt, plus_gt, minus_lt, some_eq}
use Rattle.formula.specs.Exact.{exactly, stops_at}
use Rattle.formula.specs.Formula.{Expr, eval, Test, is_zero, is_negative, not_finite, outside_unit, is_below, stops}
use Rattle.formula.specs.Met.{tested}
use Rattle.formula.specs.Whole.{is_whole, signed, int_of}
use Rattle.formula.proofs.Exact.{whole_size, whole_some, whole_none}

-- ---- a whole float and its integer
data Number : Float → ℤ → Type 0 where
  nil : {s : Bool} {e : ℤ} → Number (fin s zero e) (pos 0)
  plus : {m j : ℕ} {e : ℤ} → suc m * up e ≡ suc j * down e → Number (fin false (suc m) e) (pos (suc j))
  minus : {m j : ℕ} {e : ℤ} → suc m * up e ≡ suc j * down e → Number (fin true (suc m) e) (negsuc j)

number : (x : Float) → T (is_whole x) → Number x (int_of x)
unfolding is_whole int_of
number nan w = absurd w
number (inf s) w = absurd w
number (fin s zero e) w = rw (whole_none s e) nil
number (fin s (suc m) e) w = go s (suc m * up e / down e) (whole_some s m e w) (whole_size s (suc m) e w)
  where
    go : (s : Bool) (k : ℕ) → 0 < k → suc m * up e ≡ k * down e → Number (fin s (suc m) e) (signed s k)
    go s zero h z = absurd (omega arith)
    go false (suc j) h z = plus z
    go true (suc j) h z = minus z

-- ---- below a constant
ltb_same : (X Y x y : ℕ) → (x < y → X < Y) → (y ≤ x → Y ≤ X) → ltb X Y ≡ ltb x y
ltb_same X Y x y f g = go (ltb x y) (ltb→lt x y) (nltb→le x y)
  where
    go : (b : Bool) → (T b → x < y) → (T (not b) → y ≤ x) → ltb X Y ≡ b
    go true p q = lt-ltb X Y (f (p tt))
    go false p q = le-ltb X Y (g (q tt))

ltb_scale : (X Y x y D : ℕ) → 0 < D → X ≡ x * D → Y ≡ y * D → ltb X Y ≡ ltb x y
ltb_scale X Y x y D P p q = ltb_same X Y x y (λ h. rw (p, q) (mul-lt-mul_of_pos_right h P)) (λ h. rw (p, q) (mul-le-mul_right D h))

below_scale : (s t : Bool) (A B a b D : ℕ) → 0 < D → A ≡ a * D → B ≡ b * D → below s A t B ≡ below s a t b
below_scale false false A B a b D P p q = ltb_scale A B a b D P p q
below_scale false true A B a b D P p q = refl
below_scale true false A B a b D P p q = ltb_scale 0 (A + B) 0 (a + b) D P (sym (zero-mul D)) (sum A B a b D p q)
  where
    sum : (A B a b D : ℕ) → A ≡ a * D → B ≡ b * D → A + B ≡ (a + b) * D
    sum A B a b D p q = omega arith
below_scale true true A B a b D P p q = ltb_scale B A b a D P q p

below_zero : (s t : Bool) (b : ℕ) → below s 0 t b ≡ below false 0 t b
below_zero false t b = refl
below_zero true false b = ap (ltb 0) (zero-add b)
below_zero true true b = le-ltb b 0 zero-le

turn : (x k d c : ℕ) → x ≡ k * d → x * c ≡ k * 1 * c * d
turn x k d c h = omega (arith, ap (λ (y : ℕ). y * c) h)

below_test : {x : Float} {i : ℤ} → Number x i → (c : Float) → lt x c ≡ lt (exactly i) c
unfolding lt
below_test nil nan = refl
below_test nil (inf t) = refl
below_test (nil {s} {e}) (fin t n d) =
    below_scale s t (0 * up e * down d) (n * up d * down e) 0 (n * up d * 1) (down e) (down_pos e) (none (up e) (down d) (down e)) (one_more (n * up d) (down e))
    ∙ below_zero s t (n * up d * 1)
    ∙ ap (λ (y : ℕ). below false y t (n * up d * 1)) (sym (zero-mul (down d)))
  where
    none : (u v w : ℕ) → 0 * u * v ≡ 0 * w
    none u v w = omega arith

    one_more : (x d : ℕ) → x * d ≡ x * 1 * d
    one_more x d = omega arith
below_test (plus z) nan = refl
below_test (plus z) (inf t) = refl
below_test (plus {m} {j} {e} z) (fin t n d) =
    below_scale false t (suc m * up e * down d) (n * up d * down e) (suc j * 1 * down d) (n * up d * 1) (down e) (down_pos e) (turn (suc m * up e) (suc j) (down e) (down d) z) (ap (λ (y : ℕ). y * down e) (sym (mul-one (n * up d))))
below_test (minus z) nan = refl
below_test (minus z) (inf t) = refl
below_test (minus {m} {j} {e} z) (fin t n d) =
    below_scale true t (suc m * up e * down d) (n * up d * down e) (suc j * 1 * down d) (n * up d * 1) (down e) (down_pos e) (turn (suc m * up e) (suc j) (down e) (down d) z) (ap (λ (y : ℕ). y * down e) (sym (mul-one (n * up d))))

-- ---- with zero
module _ (a : Expr) where
  zero_test : {x : Float} {i : ℤ} → Number x i → eq x nought ≡ stops_at (is_zero a) i
  zero_test (nil {s} {e}) = zero_eq s e
  zero_test (plus {m} {j} {e} z) = some_eq false m e
  zero_test (minus {m} {j} {e} z) = some_eq true m e

  negative_test : {x : Float} {i : ℤ} → Number x i → lt x nought ≡ stops_at (is_negative a) i
  negative_test (nil {s} {e}) = zero_lt s e
  negative_test (plus {m} {j} {e} z) = plus_lt m e
  negative_test (minus {m} {j} {e} z) = minus_lt m e

  finite_test : {x : Float} {i : ℤ} → Number x i → not (float_is_finite x) ≡ stops_at (not_finite a) i
  unfolding float_is_finite
  finite_test nil = refl
  finite_test (plus z) = refl
  finite_test (minus z) = refl

-- ---- from 0 to 1
or_true : (b : Bool) → (b || true) ≡ true
or_true true = refl
or_true false = refl

-- zero is
zero_above : (s : Bool) (e : ℤ) → le nought (fin s zero e) ≡ true
unfolding le
zero_above s e = rw (zero-mul (up e), zero-mul (down e)) (at s)
  where
    at : (s : Bool) → (below false 0 s 0 || (beq false s || true)) ≡ true
    at true = refl
    at false = refl

zero_under : (s : Bool) (e : ℤ) → le (fin s zero e) one ≡ true
unfolding le
zero_under true e = rw (lt-ltb 0 (0 * up e * 1 + 1 * down e) (omega (arith, down_pos e)))
zero_under false e = rw (lt-ltb (0 * up e * 1) (1 * down e) (omega (arith, down_pos e)))

-- a number above zero is where it is 1
above : (m : ℕ) (e : ℤ) → le nought (fin false (suc m) e) ≡ true
unfolding le
above m e = rw (plus_gt m e)

one_under : (m : ℕ) (e : ℤ) → suc m * up e ≡ 1 * down e → le (fin false (suc m) e) one ≡ true
unfolding le
one_under m e z = rw (eq-eqb (suc m * up e * 1) (1 * down e) (mul-one (suc m * up e) ∙ z)) (or_true (ltb (suc m * up e * 1) (1 * down e)))

more_over : (m : ℕ) (e : ℤ) (j : ℕ) → suc m * up e ≡ suc (suc j) * down e → le (fin false (suc m) e) one ≡ false
unfolding le
more_over m e j z =
    let h : 1 * down e < suc m * up e * 1 = omega (arith, down_pos e, z) in
    rw (le-ltb (suc m * up e * 1) (1 * down e) (omega arith), ne_eqb (suc m * up e * 1) (1 * down e) (λ q. omega arith))

-- a number below zero is not
below_none : (m : ℕ) (e : ℤ) → le nought (fin true (suc m) e) ≡ false
unfolding le
below_none m e = let h : 0 < suc m * up e * 1 = mul-pos (mul-pos (zero-lt-suc m) (up_pos e)) (zero-lt-suc 0) in rw (ne_eqb (0 * down e) (suc m * up e * 1) (λ q. omega (arith, zero-mul (down e))))

unit_test : (a : Expr) {x : Float} {i : ℤ} → Number x i → not (le nought x && le x one) ≡ stops_at (outside_unit a) i
unit_test a (nil {s} {e}) = rw (zero_above s e, zero_under s e)
unit_test a (plus {m} {j = zero} {e} z) = rw (above m e, one_under m e z)
unit_test a (plus {m} {j = suc j} {e} z) = rw (above m e, more_over m e j z)
unit_test a (minus {m} {j} {e} z) = rw (below_none m e)

-- ---- any test
pub test_exact : (g v : List Float) (t : Test) → T (is_whole (eval g v (tested t))) → stops g v t ≡ stops_at t (int_of (eval g v (tested t)))
unfolding stops
test_exact g v (is_zero a) w = zero_test a (number (eval g v a) w)
test_exact g v (is_negative a) w = negative_test a (number (eval g v a) w)
test_exact g v (not_finite a) w = finite_test a (number (eval g v a) w)
test_exact g v (outside_unit a) w = unit_test a (number (eval g v a) w)
test_exact g v (is_below a c) w = below_test (number (eval g v a) w) c
