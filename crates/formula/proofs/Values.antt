-- A formula has at most one value over the integers, a program at most one run; and the values of sums and powers. By induction over its value, a factor that is not zero and a square being cancelled.
use mathlib.Core.Path.{◌≡◌, refl, sym, ap, ◌∙◌, subst}
use mathlib.Core.Logic.{◌≢◌}
use mathlib.Core.List.{List, [], ◌∷◌, ◌++◌}
use mathlib.Core.Bool.{Bool, true, false, true≢false}
use Prim.Native.Nat.{ℕ, zero, suc, ◌*◌, ◌<◌}
use native.Mathlib.Nat.{eq_of_mul-eq-mul_right, zero-lt-suc, zero-mul}
use native.Mathlib.Omega.{arith}
use lib.Dec.{eqb→eq}
use lib.IntN.{ℤ, pos, negsuc, ◌*ℤ◌}
use lib.Ieee.{unlike}
use Rattle.float.specs.Constants.{one}
use Rattle.float.proofs.Floor.{square_lt}
use Rattle.float.proofs.Powers.{power_both}
use Rattle.formula.specs.Formula.{Expr, const, ◌⊗◌, ◌↑◌, Stmt}
use Rattle.formula.specs.Exact.{Value, input, variable, number, sum, difference, product, quotient, root, Ending, Run, end, assign, stop, pass}
use Rattle.formula.specs.Whole.{is_whole, signed, int_of, sum_of}
use Rattle.formula.proofs.Ring as ring
use Rattle.formula.proofs.Integers.{integers}
use Rattle.formula.proofs.Exact.{sign_times, same_size, same_sign}

-- ---- a factor that is not zero
opposite : (u : Bool) (a b c : ℕ) → 0 < c → signed (unlike false u) (a * c) ≡ signed (unlike true u) (b * c) → a ≡ 0
opposite false a b c C e = eq_of_mul-eq-mul_right c C a 0 (eqb→eq (a * c) 0 (same_sign false true (a * c) (b * c) e) ∙ sym (zero-mul c))
opposite true a b c C e = eq_of_mul-eq-mul_right c C a 0 (eqb→eq (a * c) 0 (same_sign true false (a * c) (b * c) e) ∙ sym (zero-mul c))

cancel_signed : (s t u : Bool) (a b c : ℕ) → 0 < c → signed s a *ℤ signed u c ≡ signed t b *ℤ signed u c → signed s a ≡ signed t b
cancel_signed s t u a b c C h = go s t level
  where
    level : signed (unlike s u) (a * c) ≡ signed (unlike t u) (b * c)
    level = sign_times s u a c ∙ h ∙ sym (sign_times t u b c)

    same : a ≡ b
    same = eq_of_mul-eq-mul_right c C a b (same_size (unlike s u) (unlike t u) (a * c) (b * c) level)

    go : (s t : Bool) → signed (unlike s u) (a * c) ≡ signed (unlike t u) (b * c) → signed s a ≡ signed t b
    go false false e = ap pos same
    go true true e = ap (signed true) same
    go false true e = let z : a ≡ 0 = opposite u a b c C e in cc same
    go true false e = let z : b ≡ 0 = opposite u b a c C (sym e) in cc same

record Signed (i : ℤ) : Type 0 where
  sign : Bool
  size : ℕ
  is : i ≡ signed sign size

as_signed : (i : ℤ) → Signed i
as_signed (pos n) = record { sign = false; size = n; is = refl }
as_signed (negsuc n) = record { sign = true; size = suc n; is = refl }

-- ---- the same value
cancel : (q r y : ℤ) → y ≢ pos 0 → q *ℤ y ≡ r *ℤ y → q ≡ r
cancel q r y n h = let x = as_signed q in let z = as_signed r in x.is ∙ go y n (rw (x.is, z.is) at h) ∙ sym z.is
  where
    go : (y : ℤ) → y ≢ pos 0 → signed (as_signed q).sign (as_signed q).size *ℤ y ≡ signed (as_signed r).sign (as_signed r).size *ℤ y
        → signed (as_signed q).sign (as_signed q).size ≡ signed (as_signed r).sign (as_signed r).size
    go (pos zero) n h = absurd (n refl)
    go (pos (suc c)) n h = cancel_signed (as_signed q).sign (as_signed r).sign false (as_signed q).size (as_signed r).size (suc c) (zero-lt-suc c) h
    go (negsuc c) n h = cancel_signed (as_signed q).sign (as_signed r).sign true (as_signed q).size (as_signed r).size (suc c) (zero-lt-suc c) h

square : (q r : ℕ) → q * q ≡ r * r → q ≡ r
square q r e = under q r (square_lt q (suc r) (omega arith)) (square_lt r (suc q) (omega arith))
  where
    under : (q r : ℕ) → q < suc r → r < suc q → q ≡ r
    under q r h k = omega arith

module _ {g v : List ℤ} where
  pub one_value : {e : Expr} {i j : ℤ} → Value g v e i → Value g v e j → i ≡ j
  one_value (input h) (input k) = refl
  one_value (variable h) (variable k) = refl
  one_value (number h) (number k) = refl
  one_value (sum a b) (sum c d) = cc (one_value a c, one_value b d)
  one_value (difference a b) (difference c d) = cc (one_value a c, one_value b d)
  one_value (product a b) (product c d) = cc (one_value a c, one_value b d)
  one_value {i = q} {j = r} (quotient {y = y} a b n) (quotient {y = z} c d m) = let e : y ≡ z = one_value b d in cancel q r y n (one_value a c ∙ ap (λ x. r *ℤ x) (sym e))
  one_value (root {r = q} a) (root {r = r} b) = let e : pos (q * q) ≡ pos (r * r) = one_value a b in ap pos (square q r (cc))

-- ---- and a program at most one run
module _ {g : List ℤ} where
  pub one_run : {p : List Stmt} {v : List ℤ} {o o' : Ending} → Run g p v o → Run g p v o' → o ≡ o'
  one_run end end = refl
  one_run {v = v} {o' = o'} (assign {p = p} {i = i} a r) (assign {i = j} b s) = one_run r (subst (λ (k : ℤ). Run g p (v ++ (k ∷ [])) o') (one_value b a) s)
  one_run (stop a e) (stop b d) = refl
  one_run (stop {t = t} {i = i} a e) (pass {i = j} b d s) = let z : i ≡ j = one_value a b in let y : true ≡ false = cc in absurd (true≢false y)
  one_run (pass {t = t} {i = i} a e r) (stop {i = j} b d) = let z : i ≡ j = one_value a b in let y : true ≡ false = cc in absurd (true≢false y)
  one_run (pass a e r) (pass b d s) = one_run r s

-- ---- sums and powers
module _ {g v : List ℤ} where
  pub sum_value : (t : ℕ → Expr) (f : ℕ → ℤ) (n : ℕ) → ((k : ℕ) → k < n → Value g v (t k) (f k)) → Value g v (sum_of t n) (ring.sum integers f n)
  unfolding sum_of ring.sum is_whole int_of
  sum_value t f zero h = number tt
  sum_value t f (suc n) h = sum (sum_value t f n (λ k l. h k (omega arith))) (h n (omega arith))

  pub power_value : {a : Expr} {x : ℤ} (n : ℕ) → Value g v a x → Value g v (a ↑ n) (ring.pw integers x n)
  unfolding is_whole int_of
  power_value {a} {x} n h = rw (← ring.power_is integers x n) (power_both (λ e i. Value g v e i) ◌⊗◌ ◌*ℤ◌ (λ a b x y p q. product p q) (const one) (pos 1) a x n (number tt) h)
