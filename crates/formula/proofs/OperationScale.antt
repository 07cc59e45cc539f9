-- The operations, each rounded once, and a multiplication of their operands by powers of two: the result is multiplied by one too, as a float, where it is in the range or exactly zero, before and after. The exact results are two fractions, the second 2 ^ t times the first, and `round_scale` does the rest. Assumes nothing.
use mathlib.Core.Path.{◌≡◌, refl, sym, ap, ◌∙◌, subst}
use mathlib.Core.Logic.{inl, inr}
use Prim.Native.Nat.{ℕ, zero, suc, ◌+◌, ◌-◌, ◌*◌, ◌^◌, ◌<◌}
use native.Mathlib.Nat.{le_of_eq, lt_of_lt_of_le, lt_of_le_of_lt, eq-zero-or-pos, zero-mul, mul-zero, mul_comm, mul_assoc, mul_left_comm, add-mul, mul-sub, mul-lt-mul_of_pos_right, lt_of_mul-lt-mul_right, mul-pos, eq_of_mul-eq-mul_right, mul-mul-mul_comm, zero-lt-suc}
use native.Mathlib.Omega.{arith}
use mathlib.Core.Bool.{Bool, true, false, not, ◌&&◌, ◌||◌, beq, not-not, cond}
use lib.IntN.{ℤ, pos}
use lib.Dec.{T, ltb, eqb, ltb→lt, lt→ltb, eqb→eq, eqb-suc-zero}
use lib.Pow.{pow-add, pow_pos}
use lib.Ieee.{Float, nan, inf, fin, binary64, up, down, unlike, round, sum, add, sub, mul, div, neg, eq, fits}
use lib.Ieee.Fits.{up_pos, down_pos, and_l, and_r}
use lib.Ieee.Positive.{first_pos}
use Rattle.std.specs.Float.{float_is_finite}
use Rattle.float.specs.Root.{root}
use Rattle.float.specs.Scale.{moved, scale}
use Rattle.float.proofs.RootScale.{root_scale_pos}
use Rattle.float.proofs.Zero.{round_zero}
use Rattle.formula.specs.Range.{sized, is_nought, sum_is_zero, difference_is_zero, product_is_zero, quotient_is_zero}
use Rattle.formula.proofs.RoundScale.{scale_cross, sized_finite, round_scale}

-- ---- a fraction, and 2 ^ t times it, rounded: each either zero or rounded to a value of the range
or_right : (z b : Bool) → (T z → ⊥) → T (z || b) → T b
or_right true b n h = absurd (n tt)
or_right false b n h = h

not_pos : {a : ℕ} → 0 < a → a ≡ 0 → ⊥
not_pos h e = omega arith

zero_left : (b c : ℕ) → 0 < c → b * c ≡ 0 → b ≡ 0
zero_left zero c C e = refl
zero_left (suc b) c C e = absurd (not_pos (mul-pos (zero-lt-suc b) C) e)

fraction : (s : Bool) (a c b d t : ℕ) → 0 < c → 0 < d → b * c ≡ a * 2 ^ t * d → (z w : Bool) → (T z → a ≡ 0) → (T w → b ≡ 0)
    → T (z || sized (round binary64 s a c)) → T (w || sized (round binary64 s b d)) → round binary64 s b d ≡ scale (pos t) (round binary64 s a c)
fraction s a c b d t C D e z w za wb g h = elim (eq-zero-or-pos a) [
  | inl n ↦
      let m : b ≡ 0 = zero_left b c C (e ∙ rw n (simp zero-mul)) in
      rw (m, n, round_zero binary64 s d D, round_zero binary64 s c C)
  | inr p ↦
      let q : 0 < b = first_pos b c (subst (λ (x : ℕ). 0 < x) (sym e) (mul-pos (mul-pos p (pow_pos t)) D)) in
      round_scale s a c b d t C D e (or_right z _ (λ u. not_pos p (za u)) g) (or_right w _ (λ u. not_pos q (wb u)) h)
]

-- ---- a result that is zero before it is rounded, or in the range, is finite
none_finite : (s : Bool) (a c : ℕ) → 0 < c → a ≡ 0 → T (float_is_finite (round binary64 s a c))
unfolding float_is_finite
none_finite s a c C e = rw (e, round_zero binary64 s c C) tt

fair_finite : (z : Bool) (r : Float) → (T z → T (float_is_finite r)) → T (z || sized r) → T (float_is_finite r)
fair_finite true r f g = f tt
fair_finite false r f g = sized_finite r g

-- ---- the product
mul_flag : (s : Bool) (m : ℕ) (e : ℤ) (t : Bool) (n : ℕ) (d : ℤ) → T (product_is_zero (fin s m e) (fin t n d)) → m * up e * (n * up d) ≡ 0
unfolding product_is_zero float_is_finite
mul_flag s m e t n d h = go (eqb m 0) (eqb n 0) (eqb→eq m 0) (eqb→eq n 0) h
  where
    go : (b c : Bool) → (T b → m ≡ 0) → (T c → n ≡ 0) → T (b || c) → m * up e * (n * up d) ≡ 0
    go true c f g h = rw (f tt) (simp zero-mul)
    go false c f g h = rw (g h) (simp (zero-mul, mul-zero))

-- the fractions' products: for any fractions p / u and q / v, and p' / u' and q' / v', which are 2 ^ a and 2 ^ b times those
products : (p q u v p' q' u' v' a b : ℕ) → p' * u ≡ p * 2 ^ a * u' → q' * v ≡ q * 2 ^ b * v' → p' * q' * (u * v) ≡ p * q * 2 ^ (a + b) * (u' * v')
products p q u v p' q' u' v' a b e f =
    rw (mul-mul-mul_comm p' q' u v, e, f) (simp (mul_assoc, mul_comm, mul_left_comm, pow-add))

pub mul_scale : (x y : Float) (a b : ℕ) → T (float_is_finite x) → T (float_is_finite y) → T (product_is_zero x y || sized (mul binary64 x y))
    → T (product_is_zero (scale (pos a) x) (scale (pos b) y) || sized (mul binary64 (scale (pos a) x) (scale (pos b) y)))
    → mul binary64 (scale (pos a) x) (scale (pos b) y) ≡ scale (pos (a + b)) (mul binary64 x y)
unfolding mul float_is_finite
mul_scale nan y a b p q g h = absurd p
mul_scale (inf s) y a b p q g h = absurd p
mul_scale (fin s m e) nan a b p q g h = absurd q
mul_scale (fin s m e) (inf t) a b p q g h = absurd q
mul_scale (fin s m e) (fin t n d) a b p q g h =
    fraction (unlike s t) (m * up e * (n * up d)) (down e * down d) (m * up (moved m e (pos a)) * (n * up (moved n d (pos b)))) (down (moved m e (pos a)) * down (moved n d (pos b))) (a + b)
    (mul-pos (down_pos e) (down_pos d)) (mul-pos (down_pos (moved m e (pos a))) (down_pos (moved n d (pos b))))
    (products _ _ _ _ _ _ _ _ a b (scale_cross (fin s m e) a) (scale_cross (fin t n d) b))
    (product_is_zero (fin s m e) (fin t n d)) (product_is_zero (fin s m (moved m e (pos a))) (fin t n (moved n d (pos b))))
    (mul_flag s m e t n d) (mul_flag s m (moved m e (pos a)) t n (moved n d (pos b))) g h

mul_none : (x y : Float) → T (product_is_zero x y) → T (float_is_finite (mul binary64 x y))
unfolding mul product_is_zero float_is_finite
mul_none nan y h = h
mul_none (inf s) y h = absurd h
mul_none (fin s m e) nan h = h
mul_none (fin s m e) (inf t) h = absurd h
mul_none (fin s m e) (fin t n d) h = none_finite (unlike s t) (m * up e * (n * up d)) (down e * down d) (mul-pos (down_pos e) (down_pos d)) (mul_flag s m e t n d h)

pub mul_finite : (x y : Float) → T (product_is_zero x y || sized (mul binary64 x y)) → T (float_is_finite (mul binary64 x y))
mul_finite x y = fair_finite (product_is_zero x y) (mul binary64 x y) (mul_none x y)

-- ---- the quotient
quotients : (p q u v p' q' u' v' t b : ℕ) → p' * u ≡ p * 2 ^ (t + b) * u' → q' * v ≡ q * 2 ^ b * v' → p' * v' * (q * u) ≡ p * v * 2 ^ t * (q' * u')
quotients p q u v p' q' u' v' t b e f =
    let left : p' * v' * (q * u) * 2 ^ b ≡ p' * u * (q * 2 ^ b * v') = simp (mul_assoc, mul_comm, mul_left_comm) in
    let right : p * 2 ^ (t + b) * u' * (q' * v) ≡ p * v * 2 ^ t * (q' * u') * 2 ^ b = simp (mul_assoc, mul_comm, mul_left_comm, pow-add) in
    eq_of_mul-eq-mul_right (2 ^ b) (pow_pos b) (p' * v' * (q * u)) (p * v * 2 ^ t * (q' * u'))
    (rw (left, e, ← f) right)

some_pos : (n : ℕ) → T (not (eqb n 0)) → 0 < n
some_pos zero h = absurd h
some_pos (suc n) h = zero-lt-suc n

gone : {m : ℕ} (u v : ℕ) → m ≡ 0 → m * u * v ≡ 0
gone u v e = rw e (simp zero-mul)

pub div_scale : (x y : Float) (t b : ℕ) → T (float_is_finite x) → T (float_is_finite y) → T (quotient_is_zero x y || sized (div binary64 x y))
    → T (quotient_is_zero (scale (pos (t + b)) x) (scale (pos b) y) || sized (div binary64 (scale (pos (t + b)) x) (scale (pos b) y)))
    → div binary64 (scale (pos (t + b)) x) (scale (pos b) y) ≡ scale (pos t) (div binary64 x y)
unfolding div quotient_is_zero sized float_is_finite
div_scale nan y t b p q g h = absurd p
div_scale (inf s) y t b p q g h = absurd p
div_scale (fin s m e) nan t b p q g h = absurd q
div_scale (fin s m e) (inf r) t b p q g h = absurd q
div_scale (fin s m e) (fin r n d) t b p q g h = go (eqb n 0) (eqb m 0) (some_pos n) (eqb→eq m 0) g h
  where
    e' : ℤ
    e' = moved m e (pos (t + b))

    d' : ℤ
    d' = moved n d (pos b)

    R : Float
    R = round binary64 (unlike s r) (m * up e * down d) (n * up d * down e)

    R' : Float
    R' = round binary64 (unlike s r) (m * up e' * down d') (n * up d' * down e')

    go : (z w : Bool) → (T (not z) → 0 < n) → (T w → m ≡ 0) → T ((w && true && not z) || sized (cond z (cond w nan (inf (unlike s r))) R))
        → T ((w && true && not z) || sized (cond z (cond w nan (inf (unlike s r))) R'))
        → cond z (cond w nan (inf (unlike s r))) R' ≡ scale (pos t) (cond z (cond w nan (inf (unlike s r))) R)
    go true true P M g h = absurd g
    go true false P M g h = absurd g
    go false w P M g h =
        fraction (unlike s r) (m * up e * down d) (n * up d * down e) (m * up e' * down d') (n * up d' * down e') t
        (mul-pos (mul-pos (P tt) (up_pos d)) (down_pos e)) (mul-pos (mul-pos (P tt) (up_pos d')) (down_pos e'))
        (quotients (m * up e) (n * up d) (down e) (down d) (m * up e') (n * up d') (down e') (down d') t b (scale_cross (fin s m e) (t + b)) (scale_cross (fin r n d) b))
        (w && true && true) (w && true && true) (λ u. gone (up e) (down d) (M (and_l w true (and_l (w && true) true u)))) (λ u. gone (up e') (down d') (M (and_l w true (and_l (w && true) true u)))) g h

div_none : (x y : Float) → T (quotient_is_zero x y) → T (float_is_finite (div binary64 x y))
unfolding div quotient_is_zero float_is_finite
div_none nan y h = h
div_none (inf s) y h = absurd h
div_none (fin s m e) nan h = absurd (and_r (eqb m 0) false (and_l (eqb m 0 && false) true h))
div_none (fin s m e) (inf r) h = absurd (and_r (eqb m 0) false (and_l (eqb m 0 && false) true h))
div_none (fin s m e) (fin r n d) h = go (eqb n 0) (eqb m 0) (some_pos n) (eqb→eq m 0) h
  where
    go : (z w : Bool) → (T (not z) → 0 < n) → (T w → m ≡ 0) → T (w && true && not z) → T (float_is_finite (cond z (cond w nan (inf (unlike s r))) (round binary64 (unlike s r) (m * up e * down d) (n * up d * down e))))
    go true w P M h = absurd (and_r (w && true) false h)
    go false w P M h = none_finite (unlike s r) (m * up e * down d) (n * up d * down e) (mul-pos (mul-pos (P tt) (up_pos d)) (down_pos e)) (gone (up e) (down d) (M (and_l w true (and_l (w && true) true h))))

pub div_finite : (x y : Float) → T (quotient_is_zero x y || sized (div binary64 x y)) → T (float_is_finite (div binary64 x y))
div_finite x y = fair_finite (quotient_is_zero x y) (div binary64 x y) (div_none x y)

-- ---- the sum
iff_same : (a b : Bool) → (T a → T b) → (T b → T a) → a ≡ b
iff_same true true f g = refl
iff_same true false f g = absurd (f tt)
iff_same false true f g = absurd (g tt)
iff_same false false f g = refl

order_same : (a b a' b' c k : ℕ) → 0 < c → 0 < k → a' * c ≡ a * k → b' * c ≡ b * k → ltb a' b' ≡ ltb a b
order_same a b a' b' c k C K e f =
    iff_same (ltb a' b') (ltb a b)
    (λ h. lt→ltb a b (lt_of_mul-lt-mul_right k (lt_of_le_of_lt (le_of_eq (sym e)) (lt_of_lt_of_le (mul-lt-mul_of_pos_right (ltb→lt a' b' h) C) (le_of_eq f)))))
    (λ h. lt→ltb a' b' (lt_of_mul-lt-mul_right c (lt_of_le_of_lt (le_of_eq e) (lt_of_lt_of_le (mul-lt-mul_of_pos_right (ltb→lt a b h) K) (le_of_eq (sym f))))))

add_cross : (a b a' b' c k : ℕ) → a' * c ≡ a * k → b' * c ≡ b * k → (a' + b') * c ≡ (a + b) * k
add_cross a b a' b' c k e f = rw (add-mul a' b' c, add-mul a b k, e, f)

sub_mul : (a b c : ℕ) → (a - b) * c ≡ a * c - b * c
sub_mul a b c = rw (mul_comm (a - b) c, mul_comm a c, mul_comm b c) (mul-sub c a b)

sub_cross : (a b a' b' c k : ℕ) → a' * c ≡ a * k → b' * c ≡ b * k → (a' - b') * c ≡ (a - b) * k
sub_cross a b a' b' c k e f = rw (sub_mul a' b' c, sub_mul a b k, e, f)

none_left : (a b : ℕ) → a ≡ b → a - b ≡ 0
none_left a b e = omega arith

none_both : (a b : ℕ) → a ≡ b → a ≡ 0 → a + b ≡ 0
none_both a b e f = omega arith

-- what `sum` rounds, by its three tests
abbrev summed : (s t q l r : Bool) (a b c : ℕ) → Float
summed s t q l r a b c = cond q (round binary64 s (a + b) c) (cond l (round binary64 t (b - a) c) (round binary64 (s && r) (a - b) c))

sum_scale : (s t : Bool) (a b c a' b' c' k : ℕ) → 0 < c → 0 < c' → a' * c ≡ a * (2 ^ k * c') → b' * c ≡ b * (2 ^ k * c') → (z w : Bool)
    → (T z → (a ≡ b) × (T (beq s t) → a ≡ 0)) → (T w → (a' ≡ b') × (T (beq s t) → a' ≡ 0))
    → T (z || sized (sum binary64 s a t b c)) → T (w || sized (sum binary64 s a' t b' c')) → sum binary64 s a' t b' c' ≡ scale (pos k) (sum binary64 s a t b c)
unfolding sum
sum_scale s t a b c a' b' c' k C C' e f z w hz hw g h =
    let l : ltb a' b' ≡ ltb a b = order_same a b a' b' c (2 ^ k * c') C (mul-pos (pow_pos k) C') e f in
    let r : ltb b' a' ≡ ltb b a = order_same b a b' a' c (2 ^ k * c') C (mul-pos (pow_pos k) C') f e in
    rw (l, r) (go (beq s t) (ltb a b) (ltb b a) hz hw g (rw (l, r) at h))
  where
    go : (q l r : Bool) → (T z → (a ≡ b) × (T q → a ≡ 0)) → (T w → (a' ≡ b') × (T q → a' ≡ 0)) → T (z || sized (summed s t q l r a b c)) → T (w || sized (summed s t q l r a' b' c'))
        → summed s t q l r a' b' c' ≡ scale (pos k) (summed s t q l r a b c)
    go true l r hz hw g h = fraction s (a + b) c (a' + b') c' k C C' (add_cross a b a' b' c (2 ^ k * c') e f ∙ sym (mul_assoc (a + b) (2 ^ k) c')) z w (λ u. none_both a b (hz u).0 ((hz u).1 tt)) (λ u. none_both a' b' (hw u).0 ((hw u).1 tt)) g h
    go false true r hz hw g h = fraction t (b - a) c (b' - a') c' k C C' (sub_cross b a b' a' c (2 ^ k * c') f e ∙ sym (mul_assoc (b - a) (2 ^ k) c')) z w (λ u. none_left b a (sym (hz u).0)) (λ u. none_left b' a' (sym (hw u).0)) g h
    go false false r hz hw g h = fraction (s && r) (a - b) c (a' - b') c' k C C' (sub_cross a b a' b' c (2 ^ k * c') e f ∙ sym (mul_assoc (a - b) (2 ^ k) c')) z w (λ u. none_left a b (hz u).0) (λ u. none_left a' b' (hw u).0) g h

sums : (p u v p' u' v' a : ℕ) → p' * u ≡ p * 2 ^ a * u' → p' * v' * (u * v) ≡ p * v * (2 ^ a * (u' * v'))
sums p u v p' u' v' a e = rw (mul-mul-mul_comm p' v' u v, e) (simp (mul_assoc, mul_comm, mul_left_comm))

beside : (s t : Bool) (c : Bool) → T (beq s (not t) || c) → T (beq s t) → T c
beside true true c h g = h
beside true false c h g = absurd g
beside false true c h g = absurd g
beside false false c h g = h

sum_flag : (s t : Bool) (a b : ℕ) → T (eqb a b && (beq s (not t) || eqb a 0)) → (a ≡ b) × (T (beq s t) → a ≡ 0)
sum_flag s t a b h =
    (eqb→eq a b (and_l (eqb a b) (beq s (not t) || eqb a 0) h), λ g. eqb→eq a 0 (beside s t (eqb a 0) (and_r (eqb a b) (beq s (not t) || eqb a 0) h) g))

pub add_scale : (x y : Float) (a : ℕ) → T (float_is_finite x) → T (float_is_finite y) → T (sum_is_zero x y || sized (add binary64 x y))
    → T (sum_is_zero (scale (pos a) x) (scale (pos a) y) || sized (add binary64 (scale (pos a) x) (scale (pos a) y)))
    → add binary64 (scale (pos a) x) (scale (pos a) y) ≡ scale (pos a) (add binary64 x y)
unfolding add sum_is_zero eq neg float_is_finite
add_scale nan y a p q g h = absurd p
add_scale (inf s) y a p q g h = absurd p
add_scale (fin s m e) nan a p q g h = absurd q
add_scale (fin s m e) (inf t) a p q g h = absurd q
add_scale (fin s m e) (fin t n d) a p q g h =
    let e' = moved m e (pos a) in
    let d' = moved n d (pos a) in
    sum_scale s t (m * up e * down d) (n * up d * down e) (down e * down d) (m * up e' * down d') (n * up d' * down e') (down e' * down d') a
    (mul-pos (down_pos e) (down_pos d)) (mul-pos (down_pos e') (down_pos d'))
    (sums (m * up e) (down e) (down d) (m * up e') (down e') (down d') a (scale_cross (fin s m e) a))
    (ap (λ (x : ℕ). n * up d' * down e' * x) (mul_comm (down e) (down d))
    ∙ sums (n * up d) (down d) (down e) (n * up d') (down d') (down e') a (scale_cross (fin t n d) a)
    ∙ ap (λ (x : ℕ). n * up d * down e * (2 ^ a * x)) (mul_comm (down d') (down e')))
    (sum_is_zero (fin s m e) (fin t n d)) (sum_is_zero (fin s m e') (fin t n d'))
    (sum_flag s t (m * up e * down d) (n * up d * down e)) (sum_flag s t (m * up e' * down d') (n * up d' * down e')) g h

sum_none : (s t : Bool) (a b c : ℕ) → 0 < c → (a ≡ b) × (T (beq s t) → a ≡ 0) → T (float_is_finite (sum binary64 s a t b c))
unfolding sum
sum_none s t a b c C h = go (beq s t) (ltb a b) (ltb b a) h.1
  where
    go : (q l r : Bool) → (T q → a ≡ 0) → T (float_is_finite (summed s t q l r a b c))
    go true l r z = none_finite s (a + b) c C (none_both a b h.0 (z tt))
    go false true r z = none_finite t (b - a) c C (none_left b a (sym h.0))
    go false false r z = none_finite (s && r) (a - b) c C (none_left a b h.0)

add_none : (x y : Float) → T (sum_is_zero x y) → T (float_is_finite (add binary64 x y))
unfolding add sum_is_zero eq neg float_is_finite
add_none nan y h = h
add_none (inf s) y h = absurd h
add_none (fin s m e) nan h = h
add_none (fin s m e) (inf t) h = h
add_none (fin s m e) (fin t n d) h = sum_none s t (m * up e * down d) (n * up d * down e) (down e * down d) (mul-pos (down_pos e) (down_pos d)) (sum_flag s t (m * up e * down d) (n * up d * down e) h)

pub add_finite : (x y : Float) → T (sum_is_zero x y || sized (add binary64 x y)) → T (float_is_finite (add binary64 x y))
add_finite x y = fair_finite (sum_is_zero x y) (add binary64 x y) (add_none x y)

-- ---- the difference
neg_scale : (y : Float) (a : ℕ) → neg (scale (pos a) y) ≡ scale (pos a) (neg y)
unfolding neg
neg_scale nan a = refl
neg_scale (inf s) a = refl
neg_scale (fin s m e) a = refl

neg_finite : (y : Float) → T (float_is_finite y) → T (float_is_finite (neg y))
unfolding neg float_is_finite
neg_finite nan p = p
neg_finite (inf s) p = p
neg_finite (fin s m e) p = p

neg_neg : (y : Float) → neg (neg y) ≡ y
unfolding neg
neg_neg nan = refl
neg_neg (inf s) = rw (not-not s)
neg_neg (fin s m e) = rw (not-not s)

as_sum : (x y : Float) → difference_is_zero x y ≡ sum_is_zero x (neg y)
unfolding difference_is_zero sum_is_zero
as_sum x y = rw (neg_neg y)

sub_is : (x y : Float) → sub binary64 x y ≡ add binary64 x (neg y)
unfolding sub
sub_is x y = refl

fair_sub : (x y : Float) → T (difference_is_zero x y || sized (sub binary64 x y)) → T (sum_is_zero x (neg y) || sized (add binary64 x (neg y)))
fair_sub x y h = rw (← as_sum x y, ← sub_is x y) h

pub sub_scale : (x y : Float) (a : ℕ) → T (float_is_finite x) → T (float_is_finite y) → T (difference_is_zero x y || sized (sub binary64 x y))
    → T (difference_is_zero (scale (pos a) x) (scale (pos a) y) || sized (sub binary64 (scale (pos a) x) (scale (pos a) y)))
    → sub binary64 (scale (pos a) x) (scale (pos a) y) ≡ scale (pos a) (sub binary64 x y)
sub_scale x y a p q g h =
    sub_is (scale (pos a) x) (scale (pos a) y) ∙ ap (λ (z : Float). add binary64 (scale (pos a) x) z) (neg_scale y a)
    ∙ add_scale x (neg y) a p (neg_finite y q) (fair_sub x y g)
    (subst (λ (z : Float). T (sum_is_zero (scale (pos a) x) z || sized (add binary64 (scale (pos a) x) z))) (neg_scale y a) (fair_sub (scale (pos a) x) (scale (pos a) y) h))
    ∙ ap (scale (pos a)) (sym (sub_is x y))

pub sub_finite : (x y : Float) → T (difference_is_zero x y || sized (sub binary64 x y)) → T (float_is_finite (sub binary64 x y))
sub_finite x y g = rw (sub_is x y) (add_finite x (neg y) (fair_sub x y g))

-- ---- the root
pub root_scale : (x : Float) (t : ℕ) → T (fits binary64 x) → T (fits binary64 (scale (pos (t + t)) x)) → root binary64 (scale (pos (t + t)) x) ≡ scale (pos t) (root binary64 x)
root_scale x t h g = root_scale_pos binary64 x t h g

root_none : (x : Float) → T (is_nought x) → T (float_is_finite (root binary64 x))
unfolding root float_is_finite
root_none nan h = h
root_none (inf s) h = absurd h
root_none (fin s zero e) h = tt
root_none (fin s (suc m) e) h = absurd (rw (eqb-suc-zero m) at h)

pub root_finite : (x : Float) → T (is_nought x || sized (root binary64 x)) → T (float_is_finite (root binary64 x))
root_finite x = fair_finite (is_nought x) (root binary64 x) (root_none x)
