-- Sums, differences and products, rounded, keep the order: so where x - c * y is the same number above zero at two values of y, it is that at each y between. By cases of sign, from `round_mono`. Assumes nothing.
use mathlib.Core.Path.{◌≡◌, refl, sym, ap, ◌∙◌, subst}
use Prim.Native.Nat.{ℕ, zero, suc, ◌+◌, ◌-◌, ◌*◌, ◌^◌, ◌≤◌, ◌<◌}
use native.Mathlib.Nat.{le_antisymm, mul-le-mul_right, mul-pos, zero-lt-suc, zero-mul, le_of_mul-le-mul_right}
use native.Mathlib.Omega.{arith}
use mathlib.Core.Bool.{Bool, true, false, not, ◌&&◌, cond}
use lib.Dec.{T, ltb, eqb, ltb→lt, nltb→le, eqb→eq}
use lib.IntN.{ℤ, pos}
use lib.Ieee.{Float, nan, inf, fin, Format, prec, emax, low, up, down, unlike, odd, units, fits, round, neg, add, sub, mul, lt, le, eq}
use borrow.Author.Tests.{ne_eqb}
use lib.Ieee.Fits.{up_pos, down_pos, sub-fits}
use lib.Ieee.Order.{round_mono}
use lib.Ieee.Positive.{positive, above}
use Rattle.float.specs.Constants.{nought}
use Rattle.float.proofs.RootOrder.{at_most}
use Rattle.float.proofs.Units.{unique}
use Rattle.float.proofs.Zero.{clash, zero_gt, round_zero}

-- ---- the sign of what is rounded
abbrev pub Signed : Bool → Float → Type 0
Signed s nan = ⊥
Signed s (inf t) = t ≡ s
Signed s (fin t m e) = t ≡ s

odd_signed : (d : ℕ) (s : Bool) (q k l : ℕ) → Signed s (odd d s q k l)
unfolding odd
odd_signed d s zero k l = refl
odd_signed d s (suc q) k l = refl

units_signed : (f : Format) (s : Bool) (q k : ℕ) → Signed s (units f s q k)
unfolding units
units_signed f s q k = go (ltb (q * 2 ^ k) (2 ^ (low f + suc (emax f))))
  where
    go : (b : Bool) → Signed s (cond b (odd (suc (prec f)) s q k (low f)) (inf s))
    go true = odd_signed (suc (prec f)) s q k (low f)
    go false = refl

pub round_signed : (f : Format) (s : Bool) (a c : ℕ) → Signed s (round f s a c)
unfolding round
round_signed f s a c = units_signed f s _ _

odd_neg : (d q k l : ℕ) → odd d true q k l ≡ neg (odd d false q k l)
unfolding odd neg
odd_neg d zero k l = refl
odd_neg d (suc q) k l = refl

units_neg : (f : Format) (q k : ℕ) → units f true q k ≡ neg (units f false q k)
unfolding units neg
units_neg f q k = go (ltb (q * 2 ^ k) (2 ^ (low f + suc (emax f))))
  where
    go : (b : Bool) → cond b (odd (suc (prec f)) true q k (low f)) (inf true) ≡ neg (cond b (odd (suc (prec f)) false q k (low f)) (inf false))
    go true = odd_neg (suc (prec f)) q k (low f)
    go false = refl

pub round_neg : (f : Format) (a c : ℕ) → round f true a c ≡ neg (round f false a c)
unfolding round
round_neg f a c = units_neg f _ _

-- ---- the order of values that are not below zero
pub le_inf : (x : Float) → Signed false x → T (le x (inf false))
unfolding le
le_inf nan h = absurd h
le_inf (inf true) h = absurd (subst T h tt)
le_inf (inf false) h = tt
le_inf (fin s m e) h = tt

pub cross : (m : ℕ) (e : ℤ) (n : ℕ) (d : ℤ) → T (le (fin false m e) (fin false n d)) → m * up e * down d ≤ n * up d * down e
unfolding le
cross m e n d h = at_most (m * up e * down d) (n * up d * down e) h

pub not_above : (x : Float) → Signed true x → lt nought x ≡ true → ⊥
unfolding lt
not_above nan h k = h
not_above (inf true) h k = clash k refl
not_above (inf false) h k = subst T (sym h) tt
not_above (fin true m e) h k = clash k refl
not_above (fin false m e) h k = subst T (sym h) tt

-- ---- x + u rises with u, for an x above zero
grow : (M E D N D' N' : ℕ) → N * D' ≤ N' * D → (M * D + N * E) * (E * D') ≤ (M * D' + N' * E) * (E * D)
grow M E D N D' N' h = omega (arith, mul-le-mul_right (E * E) h)

plus_is : (f : Format) (m : ℕ) (e : ℤ) (n : ℕ) (d : ℤ) → add f (fin false m e) (fin false n d) ≡ round f false (m * up e * down d + n * up d * down e) (down e * down d)
unfolding add
plus_is f m e n d = refl

plus_inf : (f : Format) (m : ℕ) (e : ℤ) → add f (fin false m e) (inf false) ≡ inf false
unfolding add
plus_inf f m e = refl

pub add_rises : (f : Format) (m : ℕ) (e : ℤ) (u v : Float) → Signed false u → Signed false v → T (le u v) → T (le (add f (fin false m e) u) (add f (fin false m e) v))
unfolding le
add_rises f m e nan v p q h = absurd p
add_rises f m e (inf true) v p q h = absurd (subst T p tt)
add_rises f m e (fin true n d) v p q h = absurd (subst T p tt)
add_rises f m e (inf false) nan p q h = absurd q
add_rises f m e (inf false) (inf true) p q h = absurd (subst T q tt)
add_rises f m e (inf false) (fin true n d) p q h = absurd (subst T q tt)
add_rises f m e (fin false n d) nan p q h = absurd q
add_rises f m e (fin false n d) (inf true) p q h = absurd (subst T q tt)
add_rises f m e (fin false n d) (fin true n' d') p q h = absurd (subst T q tt)
add_rises f m e (inf false) (inf false) p q h = unfold add in tt
add_rises f m e (inf false) (fin false n' d') p q h = absurd h
add_rises f m e (fin false n d) (inf false) p q h =
    subst (λ (z : Float). T (le z (add f (fin false m e) (inf false)))) (sym (plus_is f m e n d))
    (subst (λ (z : Float). T (le (round f false (m * up e * down d + n * up d * down e) (down e * down d)) z)) (sym (plus_inf f m e))
    (le_inf (round f false (m * up e * down d + n * up d * down e) (down e * down d)) (round_signed f false (m * up e * down d + n * up d * down e) (down e * down d))))
add_rises f m e (fin false n d) (fin false n' d') p q h =
    subst (λ (z : Float). T (le z (add f (fin false m e) (fin false n' d')))) (sym (plus_is f m e n d))
    (subst (λ (z : Float). T (le (round f false (m * up e * down d + n * up d * down e) (down e * down d)) z)) (sym (plus_is f m e n' d'))
    (round_mono f (m * up e * down d + n * up d * down e) (down e * down d) (m * up e * down d' + n' * up d' * down e) (down e * down d') (mul-pos (down_pos e) (down_pos d)) (mul-pos (down_pos e) (down_pos d'))
    (grow (m * up e) (down e) (down d) (n * up d) (down d') (n' * up d') (cross n d n' d' h))))

-- ---- x - u falls as u rises, up to x
shrink : (p r M E D N D' N' : ℕ) → p + N' * E ≡ M * D' → r + N * E ≡ M * D → N * D' ≤ N' * D → p * (E * D) ≤ r * (E * D')
shrink p r M E D N D' N' a b h = omega (arith, ap (λ (z : ℕ). z * (E * D)) a, ap (λ (z : ℕ). z * (E * D')) b, mul-le-mul_right (E * E) h)

minus_is : (f : Format) (m : ℕ) (e : ℤ) (n : ℕ) (d : ℤ)
    → sub f (fin false m e) (fin false n d) ≡ cond (ltb (m * up e * down d) (n * up d * down e)) (round f true (n * up d * down e - m * up e * down d) (down e * down d)) (round f false (m * up e * down d - n * up d * down e) (down e * down d))
unfolding sub
minus_is f m e n d = refl

-- u is not below zero, and at most x = m * 2 ^ e
abbrev Under : ℕ → ℤ → Float → Type 0
Under m e nan = ⊥
Under m e (inf s) = ⊥
Under m e (fin true n d) = ⊥
Under m e (fin false n d) = n * up d * down e ≤ m * up e * down d

minus_under : (f : Format) (m : ℕ) (e : ℤ) (n : ℕ) (d : ℤ) → n * up d * down e ≤ m * up e * down d → sub f (fin false m e) (fin false n d) ≡ round f false (m * up e * down d - n * up d * down e) (down e * down d)
minus_under f m e n d h = minus_is f m e n d ∙ go (ltb (m * up e * down d) (n * up d * down e)) (ltb→lt (m * up e * down d) (n * up d * down e))
  where
    go : (t : Bool) → (T t → m * up e * down d < n * up d * down e) → cond t (round f true (n * up d * down e - m * up e * down d) (down e * down d)) (round f false (m * up e * down d - n * up d * down e) (down e * down d)) ≡ round f false (m * up e * down d - n * up d * down e) (down e * down d)
    go true k = absurd (omega (arith, k tt))
    go false k = refl

-- where the difference is above zero
under_of : (f : Format) (m : ℕ) (e : ℤ) (u : Float) → Signed false u → lt nought (sub f (fin false m e) u) ≡ true → Under m e u
unfolding sub
under_of f m e nan p h = p
under_of f m e (inf true) p h = subst T p tt
under_of f m e (inf false) p h = clash h (unfold lt in refl)
under_of f m e (fin true n d) p h = subst T p tt
under_of f m e (fin false n d) p h = go (ltb (m * up e * down d) (n * up d * down e)) (nltb→le (m * up e * down d) (n * up d * down e)) (subst (λ (z : Float). lt nought z ≡ true) (minus_is f m e n d) h)
  where
    go : (t : Bool) → (T (not t) → n * up d * down e ≤ m * up e * down d) → lt nought (cond t (round f true (n * up d * down e - m * up e * down d) (down e * down d)) (round f false (m * up e * down d - n * up d * down e) (down e * down d))) ≡ true → n * up d * down e ≤ m * up e * down d
    go true k l = absurd (not_above (round f true (n * up d * down e - m * up e * down d) (down e * down d)) (round_signed f true (n * up d * down e - m * up e * down d) (down e * down d)) l)
    go false k l = k tt

thence : (M E D N D' N' : ℕ) → 0 < D' → N * D' ≤ N' * D → N' * E ≤ M * D' → N * E ≤ M * D
thence M E D N D' N' P h k = le_of_mul-le-mul_right (omega (arith, mul-le-mul_right E h, mul-le-mul_right D k)) P

under_less : (m : ℕ) (e : ℤ) (u v : Float) → Signed false u → T (le u v) → Under m e v → Under m e u
unfolding le
under_less m e nan v p h k = p
under_less m e (inf true) v p h k = subst T p tt
under_less m e (inf false) nan p h k = h
under_less m e (inf false) (inf t) p h k = k
under_less m e (inf false) (fin t n' d') p h k = h
under_less m e (fin true n d) v p h k = subst T p tt
under_less m e (fin false n d) nan p h k = absurd k
under_less m e (fin false n d) (inf t) p h k = absurd k
under_less m e (fin false n d) (fin true n' d') p h k = absurd k
under_less m e (fin false n d) (fin false n' d') p h k = thence (m * up e) (down e) (down d) (n * up d) (down d') (n' * up d') (down_pos d') (cross n d n' d' h) k

rejoin : (a b : ℕ) → b ≤ a → a - b + b ≡ a
rejoin a b h = omega arith

sub_falls : (f : Format) (m : ℕ) (e : ℤ) (u v : Float) → Under m e u → Under m e v → T (le u v) → T (le (sub f (fin false m e) v) (sub f (fin false m e) u))
sub_falls f m e nan v p q h = absurd p
sub_falls f m e (inf s) v p q h = absurd p
sub_falls f m e (fin true n d) v p q h = absurd p
sub_falls f m e (fin false n d) nan p q h = absurd q
sub_falls f m e (fin false n d) (inf s) p q h = absurd q
sub_falls f m e (fin false n d) (fin true n' d') p q h = absurd q
sub_falls f m e (fin false n d) (fin false n' d') p q h =
    subst (λ (z : Float). T (le z (sub f (fin false m e) (fin false n d)))) (sym (minus_under f m e n' d' q))
    (subst (λ (z : Float). T (le (round f false (m * up e * down d' - n' * up d' * down e) (down e * down d')) z)) (sym (minus_under f m e n d p))
    (round_mono f (m * up e * down d' - n' * up d' * down e) (down e * down d') (m * up e * down d - n * up d * down e) (down e * down d) (mul-pos (down_pos e) (down_pos d')) (mul-pos (down_pos e) (down_pos d))
    (shrink (m * up e * down d' - n' * up d' * down e) (m * up e * down d - n * up d * down e) (m * up e) (down e) (down d) (n * up d) (down d') (n' * up d') (rejoin (m * up e * down d') (n' * up d' * down e) q) (rejoin (m * up e * down d) (n * up d * down e) p) (cross n d n' d' h))))

-- ---- c * y rises with y, for a c above zero
widen : (K G M D N E : ℕ) → M * D ≤ N * E → K * M * (G * D) ≤ K * N * (G * E)
widen K G M D N E h = omega (arith, mul-le-mul_right (K * G) h)

times_is : (f : Format) (k : ℕ) (g : ℤ) (n : ℕ) (d : ℤ) → mul f (fin false k g) (fin false n d) ≡ round f false (k * up g * (n * up d)) (down g * down d)
unfolding mul
times_is f k g n d = refl

some : (k : ℕ) → eqb (suc k) 0 ≡ false
some k = ne_eqb (suc k) 0 (λ (e : suc k ≡ 0). differ k e)
  where
    differ : (k : ℕ) → suc k ≡ 0 → ⊥
    differ k e = omega arith

times_end : (f : Format) (s : Bool) (k : ℕ) (g : ℤ) (t : Bool) → mul f (fin s (suc k) g) (inf t) ≡ inf (unlike s t)
unfolding mul
times_end f s k g t = ap (λ (b : Bool). cond b nan (inf (unlike s t))) (some k)

pub times_inf : (f : Format) (k : ℕ) (g : ℤ) (t : Bool) → mul f (fin false (suc k) g) (inf t) ≡ inf t
times_inf f k g true = times_end f false k g true
times_inf f k g false = times_end f false k g false

mul_signed : (f : Format) (k : ℕ) (g : ℤ) (y : Float) → T (above y) → Signed false (mul f (fin false (suc k) g) y)
mul_signed f k g nan h = absurd h
mul_signed f k g (inf true) h = absurd h
mul_signed f k g (inf false) h = subst (Signed false) (sym (times_inf f k g false)) refl
mul_signed f k g (fin true n d) h = absurd h
mul_signed f k g (fin false n d) h = subst (Signed false) (sym (times_is f (suc k) g n d)) (round_signed f false (suc k * up g * (n * up d)) (down g * down d))

mul_rises : (f : Format) (k : ℕ) (g : ℤ) (x y : Float) → T (positive x) → T (above y) → T (le x y) → T (le (mul f (fin false (suc k) g) x) (mul f (fin false (suc k) g) y))
mul_rises f k g nan y p q h = absurd p
mul_rises f k g (inf s) y p q h = absurd p
mul_rises f k g (fin true m e) y p q h = absurd p
mul_rises f k g (fin false m e) nan p q h = absurd q
mul_rises f k g (fin false m e) (inf true) p q h = absurd q
mul_rises f k g (fin false m e) (inf false) p q h = subst (λ (z : Float). T (le (mul f (fin false (suc k) g) (fin false m e)) z)) (sym (times_inf f k g false)) (le_inf (mul f (fin false (suc k) g) (fin false m e)) (mul_signed f k g (fin false m e) p))
mul_rises f k g (fin false m e) (fin true n d) p q h = absurd q
mul_rises f k g (fin false m e) (fin false n d) p q h =
    subst (λ (z : Float). T (le z (mul f (fin false (suc k) g) (fin false n d)))) (sym (times_is f (suc k) g m e))
    (subst (λ (z : Float). T (le (round f false (suc k * up g * (m * up e)) (down g * down e)) z)) (sym (times_is f (suc k) g n d))
    (round_mono f (suc k * up g * (m * up e)) (down g * down e) (suc k * up g * (n * up d)) (down g * down d) (mul-pos (down_pos g) (down_pos e)) (mul-pos (down_pos g) (down_pos d))
    (widen (suc k * up g) (down g) (m * up e) (down d) (n * up d) (down e) (cross m e n d h))))

-- by a c below zero
mul_neg : (f : Format) (k : ℕ) (g : ℤ) (y : Float) → T (above y) → mul f (fin true (suc k) g) y ≡ neg (mul f (fin false (suc k) g) y)
unfolding mul neg
mul_neg f k g nan h = refl
mul_neg f k g (inf true) h = absurd h
mul_neg f k g (inf false) h = times_end f true k g false ∙ sym (ap neg (times_inf f k g false))
mul_neg f k g (fin true n d) h = absurd h
mul_neg f k g (fin false n d) h = round_neg f (suc k * up g * (n * up d)) (down g * down d)

neg_neg : (x : Float) → neg (neg x) ≡ x
unfolding neg
neg_neg nan = refl
neg_neg (inf true) = refl
neg_neg (inf false) = refl
neg_neg (fin true m e) = refl
neg_neg (fin false m e) = refl

sub_neg : (f : Format) (x u : Float) → sub f x (neg u) ≡ add f x u
unfolding sub
sub_neg f x u = ap (add f x) (neg_neg u)

-- ---- one number above zero
not_none : (m : ℕ) (e d : ℤ) (b : Bool) → T (b && eqb (suc m * up e * down d) 0) → ⊥
not_none m e d true h = differ (suc m * up e * down d) (mul-pos (mul-pos (zero-lt-suc m) (up_pos e)) (down_pos d)) (eqb→eq (suc m * up e * down d) 0 h)
  where
    differ : (a : ℕ) → 0 < a → a ≡ 0 → ⊥
    differ a h e = omega arith
not_none m e d false h = h

only : (f : Format) (m : ℕ) (e : ℤ) (n : ℕ) (d : ℤ) → T (fits f (fin false m e)) → T (fits f (fin false n d)) → m * up e * down d ≡ n * up d * down e → fin false n d ≡ fin false m e
only f m e n d p q h = unique f (fin false n d) (fin false m e) false (m * up e) (down e) (down_pos e) q p (refl, sym h) (refl, refl)

and_true : (b : Bool) → T (b && true) → T b
and_true true t = tt
and_true false t = t

pub eq_same : (f : Format) (x y : Float) → T (fits f x) → T (fits f y) → lt nought x ≡ true → T (eq x y) → y ≡ x
unfolding lt eq
eq_same f nan y p q h k = clash h refl
eq_same f (inf true) y p q h k = clash h refl
eq_same f (inf false) nan p q h k = absurd k
eq_same f (inf false) (inf true) p q h k = absurd k
eq_same f (inf false) (inf false) p q h k = refl
eq_same f (inf false) (fin t n d) p q h k = absurd k
eq_same f (fin s zero e) y p q h k = clash h (zero_gt s e)
eq_same f (fin true (suc m) e) y p q h k = clash h refl
eq_same f (fin false (suc m) e) nan p q h k = absurd k
eq_same f (fin false (suc m) e) (inf t) p q h k = absurd k
eq_same f (fin false (suc m) e) (fin true n d) p q h k = absurd (not_none m e d (eqb (suc m * up e * down d) (n * up d * down e)) k)
eq_same f (fin false (suc m) e) (fin false n d) p q h k = only f (suc m) e n d p q (eqb→eq (suc m * up e * down d) (n * up d * down e) (and_true (eqb (suc m * up e * down d) (n * up d * down e)) k))

pub le_same : (f : Format) (x y : Float) → T (fits f x) → T (fits f y) → lt nought x ≡ true → T (le x y) → T (le y x) → y ≡ x
unfolding lt le
le_same f nan y p q h k l = clash h refl
le_same f (inf true) y p q h k l = clash h refl
le_same f (inf false) nan p q h k l = absurd k
le_same f (inf false) (inf true) p q h k l = absurd k
le_same f (inf false) (inf false) p q h k l = refl
le_same f (inf false) (fin t n d) p q h k l = absurd k
le_same f (fin s zero e) y p q h k l = clash h (zero_gt s e)
le_same f (fin true (suc m) e) y p q h k l = clash h refl
le_same f (fin false (suc m) e) nan p q h k l = absurd k
le_same f (fin false (suc m) e) (inf true) p q h k l = absurd k
le_same f (fin false (suc m) e) (inf false) p q h k l = absurd l
le_same f (fin false (suc m) e) (fin true n d) p q h k l = absurd (not_none m e d (eqb (suc m * up e * down d) (n * up d * down e)) k)
le_same f (fin false (suc m) e) (fin false n d) p q h k l = only f (suc m) e n d p q (le_antisymm (cross (suc m) e n d k) (cross n d (suc m) e l))

-- ---- x - c * y between two values of y where it is one number above zero
module _ (f : Format) (m : ℕ) (e : ℤ) (lo r hi : Float) (L : T (positive lo)) (R : T (positive r)) (H : T (above hi)) (a : T (le lo r)) (b : T (le r hi)) where
  abbrev at : Float → Float → Float
  at c y = sub f (fin false m e) (mul f c y)

  up_of : (y : Float) → T (positive y) → T (above y)
  up_of nan h = absurd h
  up_of (inf s) h = absurd h
  up_of (fin true n d) h = absurd h
  up_of (fin false n d) h = h

  -- a c that is no number, infinite or zero gives one product
  endless : (s : Bool) (y : Float) → T (positive y) → mul f (inf s) y ≡ inf (unlike s false)
  unfolding mul
  endless s nan h = absurd h
  endless s (inf t) h = absurd h
  endless s (fin true n d) h = absurd h
  endless s (fin false zero d) h = absurd h
  endless s (fin false (suc n) d) h = ap (λ (z : Bool). cond z nan (inf (unlike s false))) (some n)

  empty : (s : Bool) (g : ℤ) (y : Float) → T (positive y) → mul f (fin s zero g) y ≡ fin (unlike s false) 0 (pos 0)
  unfolding mul
  empty s g nan h = absurd h
  empty s g (inf t) h = absurd h
  empty s g (fin true n d) h = absurd h
  empty s g (fin false n d) h =
      ap (λ (z : ℕ). round f (unlike s false) z (down g * down d)) (ap (λ (z : ℕ). z * (n * up d)) (zero-mul (up g)) ∙ zero-mul (n * up d))
      ∙ round_zero f (unlike s false) (down g * down d) (mul-pos (down_pos g) (down_pos d))

  pub same_between : (c : Float) → lt nought (at c lo) ≡ true → T (eq (at c lo) (at c hi)) → at c r ≡ at c lo
  same_between nan h k = unfold mul in refl
  same_between (inf s) h k = ap (sub f (fin false m e)) (endless s r R ∙ sym (endless s lo L))
  same_between (fin s zero g) h k = ap (sub f (fin false m e)) (empty s g r R ∙ sym (empty s g lo L))
  same_between (fin false (suc n) g) h k =
      let c = fin false (suc n) g in
      let same = eq_same f (at c lo) (at c hi) (sub-fits f (fin false m e) (mul f c lo)) (sub-fits f (fin false m e) (mul f c hi)) h k in
      let u = under_of f m e (mul f c hi) (mul_signed f n g hi H) (ap (lt nought) same ∙ h) in
      let v = under_less m e (mul f c r) (mul f c hi) (mul_signed f n g r (up_of r R)) (mul_rises f n g r hi R H b) u in
      let w = under_of f m e (mul f c lo) (mul_signed f n g lo (up_of lo L)) h in
      le_same f (at c lo) (at c r) (sub-fits f (fin false m e) (mul f c lo)) (sub-fits f (fin false m e) (mul f c r)) h
      (subst (λ (z : Float). T (le z (at c r))) same (sub_falls f m e (mul f c r) (mul f c hi) v u (mul_rises f n g r hi R H b)))
      (sub_falls f m e (mul f c lo) (mul f c r) w v (mul_rises f n g lo r L (up_of r R) a))
  same_between (fin true (suc n) g) h k =
      let c = fin true (suc n) g in
      let d = fin false (suc n) g in
      let x = fin false m e in
      let added : (y : Float) → T (above y) → at c y ≡ add f x (mul f d y) = λ (y : Float) (p : T (above y)). ap (sub f x) (mul_neg f n g y p) ∙ sub_neg f x (mul f d y) in
      let same = eq_same f (at c lo) (at c hi) (sub-fits f x (mul f c lo)) (sub-fits f x (mul f c hi)) h k in
      let first = add_rises f m e (mul f d lo) (mul f d r) (mul_signed f n g lo (up_of lo L)) (mul_signed f n g r (up_of r R)) (mul_rises f n g lo r L (up_of r R) a) in
      let last = add_rises f m e (mul f d r) (mul f d hi) (mul_signed f n g r (up_of r R)) (mul_signed f n g hi H) (mul_rises f n g r hi R H b) in
      le_same f (at c lo) (at c r) (sub-fits f x (mul f c lo)) (sub-fits f x (mul f c r)) h
      (rw (added lo (up_of lo L), added r (up_of r R)) first)
      (subst (λ (z : Float). T (le (at c r) z)) same (rw (added r (up_of r R), added hi H) last))
