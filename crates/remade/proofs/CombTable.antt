-- Up to order 16, comb and the powers of -1 are whole and exact, and the constants of the two sums are whole: one test over the whole table, computed.
use mathlib.Core.Path.{◌≡◌, ap}
use mathlib.Core.List.{List, []}
use mathlib.Core.Logic.{inl, inr}
use mathlib.Core.Bool.{Bool, false, ◌&&◌}
use Prim.Native.Nat.{ℕ, zero, suc, ◌-◌, ◌≤◌, ◌<◌, min}
use native.Mathlib.Nat.{eq-or-lt_of_le, le_of_suc-le-suc}
use native.Mathlib.Omega.{arith}
use lib.Dec.{T, eqb, eqb→eq}
use lib.IntN.{ℤ, pos, negsuc}
use lib.Ieee.{Float, round, mul, div, of_int}
use lib.Ieee.Fits.{and_l, and_r}
use Rattle.float.specs.Power.{power_of, power}
use Rattle.formula.specs.Exact.{rootables}
use Rattle.formula.specs.Whole.{is_whole, int_of, whole_constants}
use Rattle.formula.proofs.Ring.{pw}
use Rattle.formula.proofs.Integers.{integers}
use Rattle.moments.specs.Comb.{falling, rising, choose}
use Rattle.moments.specs.Constants.{minus_one}
use Rattle.moments.specs.Orders.{centred, raw}
use Rattle.remade.specs.Remade.{every}
use Rattle.remade.proofs.Binomial.{binomial}

pub every_at : (p : ℕ → Bool) (n k : ℕ) → k < n → T (every p n) → T (p k)
unfolding every
every_at p zero k h t = absurd (omega arith)
every_at p (suc n) k h t = elim (eq-or-lt_of_le (le_of_suc-le-suc h)) [ inl e ↦ rw e (and_l (p n) (every p n) t) | inr l ↦ every_at p n k l (and_r (p n) (every p n) t) ]

same : ℤ → ℤ → Bool
same (pos a) (pos b) = eqb a b
same (pos a) (negsuc b) = false
same (negsuc a) (pos b) = false
same (negsuc a) (negsuc b) = eqb a b

same_is : (x y : ℤ) → T (same x y) → x ≡ y
unfolding same
same_is (pos a) (pos b) h = ap pos (eqb→eq a b h)
same_is (pos a) (negsuc b) h = absurd h
same_is (negsuc a) (pos b) h = absurd h
same_is (negsuc a) (negsuc b) h = ap negsuc (eqb→eq a b h)

-- ---- the table; what comb meets on its way is its two products
abbrev pub whole_comb : ℕ → ℕ → Bool
whole_comb n k = is_whole (choose n k) && is_whole (falling n (min k (n - k))) && is_whole (rising (min k (n - k)))

abbrev of_comb : ℕ → ℕ → Bool
of_comb n k = same (int_of (choose n k)) (pos (binomial n k)) && whole_comb n k

abbrev of_sign : ℕ → Bool
of_sign j = same (int_of (power minus_one j)) (pw integers (negsuc 0) j) && is_whole (power minus_one j)

abbrev of_sums : ℕ → Bool
of_sums n = whole_constants 0 (centred n) && whole_constants 0 (raw n)

-- the sums have no root
abbrev of_roots : List Float → ℕ → Bool
of_roots g n = rootables g [] (centred n) && rootables g [] (raw n)

combs : T (every (λ n. every (of_comb n) (suc n)) 17)
unfolding every same is_whole int_of choose binomial round mul div of_int
combs = tt

signs : T (every of_sign 17)
unfolding every same is_whole int_of power_of pw round mul
signs = tt

sums : T (every of_sums 17)
unfolding every whole_constants centred raw choose power_of round mul div of_int
sums = tt

roots : (g : List Float) → T (every (of_roots g) 17)
unfolding every rootables centred raw power_of
roots g = tt

module _ (n : ℕ) (h : n ≤ 16) where
  at_comb : (k : ℕ) → k ≤ n → T (of_comb n k)
  at_comb k l = every_at (of_comb n) (suc n) k (omega arith) (every_at (λ n. every (of_comb n) (suc n)) 17 n (omega arith) combs)

  pub choose_exact : (k : ℕ) → k ≤ n → int_of (choose n k) ≡ pos (binomial n k)
  choose_exact k l = same_is (int_of (choose n k)) (pos (binomial n k)) (and_l (same (int_of (choose n k)) (pos (binomial n k))) (whole_comb n k) (at_comb k l))

  pub choose_whole : (k : ℕ) → k ≤ n → T (whole_comb n k)
  choose_whole k l = and_r (same (int_of (choose n k)) (pos (binomial n k))) (whole_comb n k) (at_comb k l)

  pub comb_whole : (k : ℕ) → k ≤ n → T (is_whole (choose n k))
  comb_whole k l =
      let i = min k (n - k) in
      and_l (is_whole (choose n k)) (is_whole (falling n i)) (and_l (is_whole (choose n k) && is_whole (falling n i)) (is_whole (rising i)) (choose_whole k l))

  pub sign_exact : int_of (power minus_one n) ≡ pw integers (negsuc 0) n
  sign_exact = same_is (int_of (power minus_one n)) (pw integers (negsuc 0) n) (and_l (same (int_of (power minus_one n)) (pw integers (negsuc 0) n)) (is_whole (power minus_one n)) (every_at of_sign 17 n (omega arith) signs))

  pub sign_whole : T (is_whole (power minus_one n))
  sign_whole = and_r (same (int_of (power minus_one n)) (pw integers (negsuc 0) n)) (is_whole (power minus_one n)) (every_at of_sign 17 n (omega arith) signs)

  pub centred_constants : T (whole_constants 0 (centred n))
  centred_constants = and_l (whole_constants 0 (centred n)) (whole_constants 0 (raw n)) (every_at of_sums 17 n (omega arith) sums)

  pub raw_constants : T (whole_constants 0 (raw n))
  raw_constants = and_r (whole_constants 0 (centred n)) (whole_constants 0 (raw n)) (every_at of_sums 17 n (omega arith) sums)

  pub centred_roots : (g : List Float) → T (rootables g [] (centred n))
  centred_roots g = and_l (rootables g [] (centred n)) (rootables g [] (raw n)) (every_at (of_roots g) 17 n (omega arith) (roots g))

  pub raw_roots : (g : List Float) → T (rootables g [] (raw n))
  raw_roots g = and_r (rootables g [] (centred n)) (rootables g [] (raw n)) (every_at (of_roots g) 17 n (omega arith) (roots g))
