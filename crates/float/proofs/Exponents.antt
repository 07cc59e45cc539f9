-- Powers of two as fractions: 2 ^ (e + t) is 2 ^ e * 2 ^ t. Assumes nothing.
use mathlib.Core.Path.{◌≡◌, refl, sym, ap, ◌∙◌, subst}
use Prim.Native.Nat.{ℕ, zero, suc, ◌+◌, ◌-◌, ◌*◌, ◌^◌, ◌≤◌, ◌<◌}
use native.Mathlib.Nat.{mul-one, one-mul, mul_assoc, mul_comm, mul_right_comm, eq_of_mul-eq-mul_right, pow-suc, add-suc, add-zero}
use native.Mathlib.Omega.{arith}
use mathlib.Core.Bool.{Bool, true, false, not, cond}
use lib.Dec.{T, leb, leb→le, nleb→lt}
use lib.IntN.{ℤ, pos, negsuc, suc_ℤ, ◌+ℤ◌, +ℤ-suc_ℤ, +ℤ_idr, +ℤ_assoc, +ℤ_invl}
use lib.Ieee.{up, down, minus}
use lib.Ieee.Fits.{down_pos}

up_suc : (e : ℤ) → up (suc_ℤ e) * down e ≡ up e * 2 * down (suc_ℤ e)
up_suc (pos k) = ap (λ (x : ℕ). x * 1) (pow-suc 2 k)
up_suc (negsuc zero) = refl
up_suc (negsuc (suc k)) = one-mul (2 ^ suc (suc k)) ∙ pow-suc 2 (suc k) ∙ mul_comm (2 ^ suc k) 2

chain : (a b c d u v p : ℕ) → a * b ≡ c * p * d → u * d ≡ a * 2 * v → 0 < d → u * b ≡ c * (p * 2) * v
chain a b c d u v p g h D =
    eq_of_mul-eq-mul_right d D (u * b) (c * (p * 2) * v)
    (mul_right_comm u b d
    ∙ ap (λ (x : ℕ). x * b) h
    ∙ swap a v b
    ∙ ap (λ (x : ℕ). x * (2 * v)) g
    ∙ last c p d v)
  where
    swap : (a v b : ℕ) → a * 2 * v * b ≡ a * b * (2 * v)
    swap a v b = omega arith

    last : (c p d v : ℕ) → c * p * d * (2 * v) ≡ c * (p * 2) * v * d
    last c p d v = omega arith

-- 2 ^ (e + s) is 2 ^ e * 2 ^ s
pub up_add : (e : ℤ) (s : ℕ) → up (e +ℤ pos s) * down e ≡ up e * 2 ^ s * down (e +ℤ pos s)
up_add e zero =
    subst (λ (x : ℤ). up x * down e ≡ up e * 1 * down x) (sym (+ℤ_idr e)) (ap (λ (x : ℕ). x * down e) (sym (mul-one (up e))))
up_add e (suc s) =
    subst (λ (x : ℤ). up x * down e ≡ up e * 2 ^ suc s * down x) (sym (+ℤ-suc_ℤ e (pos s)))
    (subst (λ (p : ℕ). up (suc_ℤ (e +ℤ pos s)) * down e ≡ up e * p * down (suc_ℤ (e +ℤ pos s))) (sym (pow-suc 2 s))
    (chain (up (e +ℤ pos s)) (down e) (up e) (down (e +ℤ pos s)) (up (suc_ℤ (e +ℤ pos s))) (down (suc_ℤ (e +ℤ pos s))) (2 ^ s) (up_add e s) (up_suc (e +ℤ pos s)) (down_pos (e +ℤ pos s))))

minus_suc : (a l : ℕ) → minus (suc a) l ≡ suc_ℤ (minus a l)
minus_suc a l = go (leb l a) (leb l (suc a)) (leb→le l a) (nleb→lt l a) (leb→le l (suc a)) (nleb→lt l (suc a))
  where
    up_one : (a l : ℕ) → l ≤ a → suc a - l ≡ suc (a - l)
    up_one a l h = omega arith

    clash : (a l : ℕ) → l ≤ a → suc a < l → ⊥
    clash a l h k = omega arith

    none : (a l : ℕ) → l ≤ suc a → suc a - l ≡ 0 → l - suc a ≡ 0
    none a l h k = omega arith

    at : (a l : ℕ) → a < l → l ≤ suc a → l - suc a ≡ 0
    at a l h k = omega arith

    at' : (a l : ℕ) → a < l → l ≤ suc a → suc a - l ≡ 0
    at' a l h k = omega arith

    under : (a l : ℕ) → suc a < l → l - suc a ≡ suc (l - suc (suc a))
    under a l h = omega arith

    go : (b c : Bool) → (T b → l ≤ a) → (T (not b) → a < l) → (T c → l ≤ suc a) → (T (not c) → suc a < l) → cond c (pos (suc a - l)) (negsuc (l - suc (suc a))) ≡ suc_ℤ (cond b (pos (a - l)) (negsuc (l - suc a)))
    go true true p q r s = ap pos (up_one a l (p tt))
    go true false p q r s = absurd (clash a l (p tt) (s tt))
    go false true p q r s = ap pos (at' a l (q tt) (r tt)) ∙ sym (ap (λ (x : ℕ). suc_ℤ (negsuc x)) (at a l (q tt) (r tt)))
    go false false p q r s = sym (ap (λ (x : ℕ). suc_ℤ (negsuc x)) (under a l (s tt)))

pub minus_add : (a l t : ℕ) → minus (a + t) l ≡ minus a l +ℤ pos t
minus_add a l zero = ap (λ (x : ℕ). minus x l) (add-zero a) ∙ sym (+ℤ_idr (minus a l))
minus_add a l (suc t) = ap (λ (x : ℕ). minus x l) (add-suc a t) ∙ minus_suc (a + t) l ∙ ap suc_ℤ (minus_add a l t) ∙ sym (+ℤ-suc_ℤ (minus a l) (pos t))

-- ---- 2 ^ (e + t) is 2 ^ e * 2 ^ t, for any t
pub up_both : (e t : ℤ) → up (e +ℤ t) * (down t * down e) ≡ up t * up e * down (e +ℤ t)
up_both e (pos s) = ap (λ (x : ℕ). up (e +ℤ pos s) * x) (one-mul (down e)) ∙ up_add e s ∙ ap (λ (x : ℕ). x * down (e +ℤ pos s)) (mul_comm (up e) (2 ^ s))
up_both e (negsuc s) =
    let d = e +ℤ negsuc s in
    let b : d +ℤ pos (suc s) ≡ e = +ℤ_assoc e (negsuc s) (pos (suc s)) ∙ ap (λ (x : ℤ). e +ℤ x) (+ℤ_invl (pos (suc s))) ∙ +ℤ_idr e in
    let h : up e * down d ≡ up d * 2 ^ suc s * down e = subst (λ (x : ℤ). up x * down d ≡ up d * 2 ^ suc s * down x) b (up_add d (suc s)) in
    sym (mul_assoc (up d) (2 ^ suc s) (down e)) ∙ sym h ∙ ap (λ (x : ℕ). x * down d) (sym (one-mul (up e)))
