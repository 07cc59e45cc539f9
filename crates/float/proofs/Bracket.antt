-- x - c * √q without the root: where rounded squares show √q between two numbers, and x - c * y is one number above zero at both, it is that at √q too. From `RootOrder.antt` and `Monotone.antt`. Assumes nothing.
use mathlib.Core.Path.{◌≡◌, refl, sym, ap, ◌∙◌, subst}
use Prim.Native.Nat.{ℕ, zero, suc, ◌*◌}
use native.Mathlib.Nat.{zero-lt-suc, zero-mul, mul-zero, mul-pos, le_refl}
use native.Mathlib.Omega.{arith}
use mathlib.Core.Bool.{true, false}
use lib.Dec.{T, lt→ltb}
use lib.IntN.{ℤ, pos}
use lib.Ieee.{Float, nan, inf, fin, Format, up, down, fits, round, sub, mul, lt, le, eq}
use lib.Ieee.Exact.{HasValue}
use lib.Ieee.Fits.{down_pos}
use lib.Ieee.Positive.{num, den, positive, above, above_of_le, first_pos, cross→le, mul_mono}
use borrow.Author.Tests.{ltb-true}
use Rattle.std.specs.Float.{float_is_finite}
use Rattle.float.specs.Constants.{nought}
use Rattle.float.specs.Root.{root}
use Rattle.float.proofs.Monotone.{Signed, round_signed, le_inf, not_above, times_inf, same_between}
use Rattle.float.proofs.Product.{mul_one_is}
use Rattle.float.proofs.RootOrder.{root_above, root_below, root_digits}
use Rattle.float.proofs.Units.{in_units, fits_low}
use Rattle.float.proofs.Zero.{clash, zero_gt, round_zero}

pub above_zero : (x : Float) → lt nought x ≡ true → T (above x)
unfolding lt
above_zero nan h = clash h refl
above_zero (inf true) h = clash h refl
above_zero (inf false) h = tt
above_zero (fin true m e) h = clash h refl
above_zero (fin false zero e) h = clash h (zero_gt false e)
above_zero (fin false (suc m) e) h = lt→ltb 0 (suc m) (zero-lt-suc m)

signed_above : (x : Float) → T (above x) → Signed false x
signed_above nan h = h
signed_above (inf true) h = absurd h
signed_above (inf false) h = refl
signed_above (fin true m e) h = absurd h
signed_above (fin false m e) h = refl

finite_above : (x : Float) (a c : ℕ) → HasValue x false a c → T (above x) → T (positive x)
finite_above nan a c v h = absurd h
finite_above (inf s) a c v h = absurd v
finite_above (fin true m e) a c v h = absurd h
finite_above (fin false m e) a c v h = h

square_signed : (f : Format) (m : ℕ) (e : ℤ) → Signed false (mul f (fin false m e) (fin false m e))
unfolding mul
square_signed f m e = round_signed f false (m * up e * (m * up e)) (down e * down e)

-- above what is not below zero
more : (x y : Float) → Signed false x → lt x y ≡ true → T (above y)
unfolding lt
more nan y s h = absurd s
more (inf true) y s h = absurd (subst T s tt)
more (inf false) nan s h = clash h refl
more (inf false) (inf t) s h = clash h refl
more (inf false) (fin t n d) s h = clash h refl
more (fin true m e) y s h = absurd (subst T s tt)
more (fin false m e) nan s h = clash h refl
more (fin false m e) (inf true) s h = clash h refl
more (fin false m e) (inf false) s h = tt
more (fin false m e) (fin true n d) s h = clash h refl
more (fin false m e) (fin false n d) s h = lt→ltb 0 n (first_pos n (up d) (first_pos (n * up d) (down e) (omega (arith, ltb-true (m * up e * down d) (n * up d * down e) h))))

-- what has a square below something is not infinite, and nothing is above the infinity
endless : (f : Format) (q : Float) → lt (mul f (inf false) (inf false)) q ≡ true → ⊥
unfolding mul lt
endless f nan h = clash h refl
endless f (inf t) h = clash h refl
endless f (fin t n d) h = clash h refl

highest : (y : Float) → lt (inf false) y ≡ true → ⊥
unfolding lt
highest nan h = clash h refl
highest (inf t) h = clash h refl
highest (fin t n d) h = clash h refl

below_end : (f : Format) (n : ℕ) (d : ℤ) (hi : Float) → T (fits f (fin false (suc n) d)) → T (fits f hi) → T (above hi) → T (above (root f (fin false (suc n) d))) → lt (fin false (suc n) d) (mul f hi hi) ≡ true → T (le (root f (fin false (suc n) d)) hi)
below_end f n d nan q g h a l = absurd h
below_end f n d (inf true) q g h a l = absurd h
below_end f n d (inf false) q g h a l = le_inf (root f (fin false (suc n) d)) (signed_above (root f (fin false (suc n) d)) a)
below_end f n d (fin true k e) q g h a l = absurd h
below_end f n d (fin false zero e) q g h a l = absurd h
below_end f n d (fin false (suc k) e) q g h a l = root_below f k e n d g q l

module _ (f : Format) (m : ℕ) (e : ℤ) (c hi : Float) (g : T (fits f hi)) (H : T (above hi)) where
  abbrev at : Float → Float
  at y = sub f (fin false m e) (mul f c y)

  bracketed : (k : ℕ) (d : ℤ) (q : Float) → T (above q) → T (fits f (fin false (suc k) d)) → T (fits f q) → lt (mul f (fin false (suc k) d) (fin false (suc k) d)) q ≡ true → lt q (mul f hi hi) ≡ true
      → lt nought (at (fin false (suc k) d)) ≡ true → T (eq (at (fin false (suc k) d)) (at hi)) → (float_is_finite q ≡ true) × (at (root f q) ≡ at (fin false (suc k) d))
  unfolding float_is_finite
  bracketed k d nan a p q h i j l = absurd a
  bracketed k d (inf true) a p q h i j l = absurd a
  bracketed k d (inf false) a p q h i j l = absurd (highest (mul f hi hi) i)
  bracketed k d (fin true n b) a p q h i j l = absurd a
  bracketed k d (fin false zero b) a p q h i j l = absurd a
  bracketed k d (fin false (suc n) b) a p q h i j l =
      let r = root f (fin false (suc n) b) in
      let lo = fin false (suc k) d in
      let L = lt→ltb 0 (suc k) (zero-lt-suc k) in
      let under = root_above f k d n b p q h in
      let A = above_of_le lo r L under in
      let u = in_units f (suc n) b (zero-lt-suc n) (fits_low f false n b q) in
      let R = finite_above r _ _ (root_digits f n b u.a u.some u.is q) A in
      (refl, same_between f m e lo r hi L R H under (below_end f n b hi q g H A i) c j l)

  pub bracket : (q lo : Float) → T (fits f lo) → T (fits f q) → lt nought lo ≡ true → lt (mul f lo lo) q ≡ true → lt q (mul f hi hi) ≡ true
      → lt nought (at lo) ≡ true → T (eq (at lo) (at hi)) → (float_is_finite q ≡ true) × (at (root f q) ≡ at lo)
  bracket q lo p g' z h i j l = go lo p (above_zero lo z) h j l
    where
      go : (lo : Float) → T (fits f lo) → T (above lo) → lt (mul f lo lo) q ≡ true → lt nought (at lo) ≡ true → T (eq (at lo) (at hi)) → (float_is_finite q ≡ true) × (at (root f q) ≡ at lo)
      go nan p z h j l = absurd z
      go (inf true) p z h j l = absurd z
      go (inf false) p z h j l = absurd (endless f q h)
      go (fin true k d) p z h j l = absurd z
      go (fin false zero d) p z h j l = absurd z
      go (fin false (suc k) d) p z h j l = bracketed k d q (more (mul f (fin false (suc k) d) (fin false (suc k) d)) q (square_signed f (suc k) d) h) p g' h i j l

-- ---- two factors make both ends of a bracket from one number: where the lower end is above zero, so is the higher
not_below : (f : Format) (a : ℕ) (b : ℤ) (m : ℕ) (e : ℤ) → lt nought (mul f (fin false a b) (fin true m e)) ≡ true → ⊥
unfolding mul
not_below f a b m e h = not_above (round f true (a * up b * (m * up e)) (down b * down e)) (round_signed f true (a * up b * (m * up e)) (down b * down e)) h

not_empty : (f : Format) (a : ℕ) (b e : ℤ) → lt nought (mul f (fin false a b) (fin false zero e)) ≡ true → ⊥
unfolding mul
not_empty f a b e h =
    clash h
    (ap (λ (z : ℕ). lt nought (round f false z (down b * down e))) (ap (λ (z : ℕ). a * up b * z) (zero-mul (up e)) ∙ mul-zero (a * up b))
    ∙ ap (lt nought) (round_zero f false (down b * down e) (mul-pos (down_pos b) (down_pos e)))
    ∙ zero_gt false (pos 0))

no_number : (f : Format) (a : ℕ) (b : ℤ) → lt nought (mul f (fin false a b) nan) ≡ true → ⊥
unfolding mul lt
no_number f a b h = clash h refl

pub high_above : (f : Format) (a : ℕ) (b : ℤ) (c : ℕ) (d : ℤ) (g : Float) → T (le (fin false 1 (pos 0)) (fin false (suc c) d)) → T (fits f g) → lt nought (mul f (fin false (suc a) b) g) ≡ true → T (above (mul f (fin false (suc c) d) g))
high_above f a b c d nan k p h = absurd (no_number f (suc a) b h)
high_above f a b c d (inf true) k p h = absurd (not_above (inf true) refl (ap (lt nought) (sym (times_inf f a b true)) ∙ h))
high_above f a b c d (inf false) k p h = subst (λ (z : Float). T (above z)) (sym (times_inf f c d false)) tt
high_above f a b c d (fin true m e) k p h = absurd (not_below f (suc a) b m e h)
high_above f a b c d (fin false zero e) k p h = absurd (not_empty f (suc a) b e h)
high_above f a b c d (fin false (suc m) e) k p h =
    let g = fin false (suc m) e in
    let G = lt→ltb 0 (suc m) (zero-lt-suc m) in
    above_of_le g (mul f (fin false (suc c) d) g) G
    (subst (λ (z : Float). T (le z (mul f (fin false (suc c) d) g))) (mul_one_is f g p)
    (mul_mono f (fin false 1 (pos 0)) (fin false (suc c) d) g g (lt→ltb 0 1 (zero-lt-suc 0)) (lt→ltb 0 (suc c) (zero-lt-suc c)) G G k (cross→le g g G G (le_refl (num g * den g)))))
