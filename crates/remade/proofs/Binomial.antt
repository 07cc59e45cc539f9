-- Binomial numbers, and the binomial inversion in any commutative ring: by Pascal's rule a binomial sum with powers of w is n differences M (k + 1) + w M k, and differences by w and by -w undo each other.
use mathlib.Core.Path.{◌≡◌, refl, sym, ap, ◌∙◌}
use Prim.Native.Nat.{ℕ, zero, suc, ◌+◌, ◌-◌, ◌≤◌, ◌<◌}
use native.Mathlib.Omega.{arith}
use Rattle.formula.proofs.Ring.{Ring, sum, pw, plus_assoc, plus_comm, plus_left, nought_plus, times_plus, plus_times, nought_times, unit_times, sorts, sum_same, sum_plus, sum_first}

-- Pascal's triangle
unfoldable pub binomial : ℕ → ℕ → ℕ
binomial zero zero = 1
binomial zero (suc k) = 0
binomial (suc n) zero = 1
binomial (suc n) (suc k) = binomial n k + binomial n (suc k)

binomial_first : (n : ℕ) → binomial n 0 ≡ 1
unfolding binomial
binomial_first zero = refl
binomial_first (suc n) = refl

binomial_over : (n k : ℕ) → n < k → binomial n k ≡ 0
unfolding binomial
binomial_over n zero h = absurd (omega arith)
binomial_over zero (suc k) h = refl
binomial_over (suc n) (suc k) h = omega (arith, binomial_over n k (omega arith), binomial_over n (suc k) (omega arith))

-- the sum over k up to n of C(n, k) G (n - k) k
unfoldable pub bsum : {Z : Type 0} → Ring Z → ℕ → (ℕ → ℕ → Z) → Z
bsum R n G = sum R (λ k. R.times (R.nat (binomial n k)) (G (n - k) k)) (suc n)

-- n differences, each M (k + 1) + w M k
abbrev shift : {Z : Type 0} → Ring Z → Z → (ℕ → Z) → ℕ → Z
shift R w M k = R.plus (M (suc k)) (R.times w (M k))

unfoldable pub diff : {Z : Type 0} → Ring Z → Z → ℕ → (ℕ → Z) → Z
diff R w zero M = M 0
diff R w (suc n) M = diff R w n (shift R w M)

module _ {Z : Type 0} (R : Ring Z) where
  infixl 70 ◌⊕◌
  infixl 80 ◌⊗◌
  open R use {plus as ◌⊕◌, times as ◌⊗◌, nought, unit, nat, plus_nought}

  pub bsum_same : (n : ℕ) (G H : ℕ → ℕ → Z) → ((k : ℕ) → k ≤ n → G (n - k) k ≡ H (n - k) k) → bsum R n G ≡ bsum R n H
  unfolding bsum
  bsum_same n G H e = sum_same R (λ k. nat (binomial n k) ⊗ G (n - k) k) (λ k. nat (binomial n k) ⊗ H (n - k) k) (suc n) (λ k l. ap (λ x. nat (binomial n k) ⊗ x) (e k (omega arith)))

  -- ---- Pascal's rule for the sums
  later : (n k : ℕ) → k < suc n → suc n - k ≡ suc (n - k)
  later n k h = omega arith

  both : (n k : ℕ) → suc n - suc k ≡ n - k
  both n k = omega arith

  pascal : (n : ℕ) (G : ℕ → ℕ → Z) → bsum R (suc n) G ≡ bsum R n (λ i k. G (suc i) k ⊕ G i (suc k))
  unfolding bsum binomial sum
  pascal n G =
      let C : ℕ → Z = λ k. nat (binomial n k) in
      let S : ℕ → Z = λ k. nat (binomial (suc n) k) ⊗ G (suc n - k) k in
      let T : ℕ → Z = λ k. C k ⊗ G (suc n - k) k in
      let P : ℕ → Z = λ k. C k ⊗ G (suc (n - k)) k in
      let Q : ℕ → Z = λ k. C k ⊗ G (n - k) (suc k) in
      let first : S 0 ≡ T 0 = cc (binomial_first n) in
      let rest = sum_same R (λ k. S (suc k)) (λ k. Q k ⊕ T (suc k)) (suc n) (λ k l. cc (R.nat_plus (binomial n k) (binomial n (suc k)), both n k, plus_times R (C k) (C (suc k)) (G (n - k) (suc k)))) in
      let last : T (suc n) ≡ nought = cc (binomial_over n (suc n) (omega arith), R.nat_nought, nought_times R (G (suc n - suc n) (suc n))) in
      let shifted = sum_same R T P (suc n) (λ k l. ap (λ i. C k ⊗ G i k) (later n k l)) in
      let joined = sum_same R (λ k. P k ⊕ Q k) (λ k. C k ⊗ (G (suc (n - k)) k ⊕ G (n - k) (suc k))) (suc n) (λ k l. sym (times_plus R (C k) (G (suc (n - k)) k) (G (n - k) (suc k)))) in
      cc (sum_first R S (suc n), sum_plus R Q (λ k. T (suc k)) (suc n), sum_first R T (suc n), plus_nought (sum R T (suc n)), plus_left R (T 0) (sum R Q (suc n)) (sum R (λ k. T (suc k)) (suc n)), plus_comm R (sum R P (suc n)) (sum R Q (suc n)), sum_plus R P Q (suc n))

  none : (G : ℕ → ℕ → Z) (x : Z) → G 0 0 ≡ unit ⊗ x → bsum R 0 G ≡ x
  unfolding bsum binomial sum
  none G x e = cc (nought_plus R (nat 1 ⊗ G 0 0), R.nat_unit, unit_times R (G 0 0), unit_times R x)

  -- ---- the two sums of moments are repeated differences
  power_right : (p w x y : Z) → p ⊗ x ⊕ p ⊗ w ⊗ y ≡ p ⊗ (x ⊕ w ⊗ y)
  power_right p w x y = simp sorts

  power_left : (p w x y : Z) → p ⊗ w ⊗ y ⊕ p ⊗ x ≡ p ⊗ (x ⊕ w ⊗ y)
  power_left p w x y = simp sorts

  pub centred_is : (w : Z) (n : ℕ) (M : ℕ → Z) → bsum R n (λ i j. pw R w j ⊗ M i) ≡ diff R w n M
  unfolding diff pw
  centred_is w zero M = none (λ i j. pw R w j ⊗ M i) (M 0) refl
  centred_is w (suc n) M =
      pascal n (λ i j. pw R w j ⊗ M i)
      ∙ bsum_same n (λ i j. pw R w j ⊗ M (suc i) ⊕ pw R w (suc j) ⊗ M i) (λ i j. pw R w j ⊗ shift R w M i) (λ j h. power_right (pw R w j) w (M (suc (n - j))) (M (n - j)))
      ∙ centred_is w n (shift R w M)

  pub raw_is : (w : Z) (n : ℕ) (c : ℕ → Z) → bsum R n (λ i k. pw R w i ⊗ c k) ≡ diff R w n c
  unfolding diff pw
  raw_is w zero c = none (λ i k. pw R w i ⊗ c k) (c 0) refl
  raw_is w (suc n) c =
      pascal n (λ i k. pw R w i ⊗ c k)
      ∙ bsum_same n (λ i k. pw R w (suc i) ⊗ c k ⊕ pw R w i ⊗ c (suc k)) (λ i k. pw R w i ⊗ shift R w c k) (λ k h. power_left (pw R w (n - k)) w (c (suc k)) (c k))
      ∙ raw_is w n (shift R w c)

  -- ---- and undo each other
  diff_same : (w : Z) (n : ℕ) (A B : ℕ → Z) → ((k : ℕ) → A k ≡ B k) → diff R w n A ≡ diff R w n B
  unfolding diff
  diff_same w zero A B h = h 0
  diff_same w (suc n) A B h = diff_same w n (shift R w A) (shift R w B) (λ k. cc (h (suc k), h k))

  point : (w x p q r s : Z) → (p ⊕ x ⊗ q) ⊕ w ⊗ (r ⊕ x ⊗ s) ≡ (p ⊕ w ⊗ r) ⊕ x ⊗ (q ⊕ w ⊗ s)
  point w x p q r s = simp sorts

  diff_linear : (w x : Z) (n : ℕ) (A B : ℕ → Z) → diff R w n (λ k. A k ⊕ x ⊗ B k) ≡ diff R w n A ⊕ x ⊗ diff R w n B
  unfolding diff
  diff_linear w x zero A B = refl
  diff_linear w x (suc n) A B =
      diff_same w n (shift R w (λ k. A k ⊕ x ⊗ B k)) (λ k. shift R w A k ⊕ x ⊗ shift R w B k) (λ k. point w x (A (suc k)) (B (suc k)) (A k) (B k))
      ∙ diff_linear w x n (shift R w A) (shift R w B)

  cancelled : (m w e d : Z) → w ⊕ m ≡ nought → (e ⊕ w ⊗ d) ⊕ m ⊗ d ≡ e
  cancelled m w e d h = cc (plus_assoc R e (w ⊗ d) (m ⊗ d), plus_times R w m d, nought_times R d, plus_nought e)

  pub undone : (m w : Z) → w ⊕ m ≡ nought → (n : ℕ) (M : ℕ → Z) → diff R m n (λ k. diff R w k M) ≡ M n
  unfolding diff
  undone m w h zero M = refl
  undone m w h (suc n) M =
      diff_same m n (shift R m (λ k. diff R w k M)) (λ k. diff R w k (λ i. M (suc i)))
      (λ k. ap (λ x. x ⊕ m ⊗ diff R w k M) (diff_linear w w k (λ i. M (suc i)) M) ∙ cancelled m w (diff R w k (λ i. M (suc i))) (diff R w k M) h)
      ∙ undone m w h n (λ i. M (suc i))
