-- The turns of `powi`'s loop: what is left to do always gives the same power. Multiplying by the first 1 changes nothing. Assumes nothing.
use Rattle.std.proofs.Common.{◌≡◌, ℕ, zero, suc, ◌/◌, ◌%◌, ◌<◌, ◌≤◌, Bool, true, false, cond, T, eqb, sym, refl, ap, ◌∙◌, le_refl, lt_of_lt_of_le, lt_irrefl, arith, eq-eqb, ne_eqb}
use lib.Arith.{half_le}
use lib.Ieee.{Float, binary64, mul, fits}
use lib.Ieee.Fits.{mul-fits}
use Rattle.float.specs.Constants.{one}
use Rattle.float.specs.Power.{Product, none, some, also, total, pow_by, power_of, power}
use Rattle.float.proofs.Product.{mul_one_is}

-- what is left to do: with r, a and b the rest of the powers gives the n-th power of x
pub record Left (x : Float) (n : ℕ) (r a : Float) (b : ℕ) : Type 0 where
  pub product : Product Float
  pub is : r ≡ total one product
  pub held : T (fits binary64 a)
  pub fuel : ℕ
  pub enough : b ≤ fuel
  pub same : total one (pow_by (mul binary64) fuel (eqb b 0) product a b) ≡ power x n

pub begins : (x : Float) (n : ℕ) → T (fits binary64 x) → Left x n one x n
unfolding power_of
begins x n h = record { product = none; is = refl; held = h; fuel = n; enough = le_refl n; same = refl }

pub ends : (x : Float) (n : ℕ) (r a : Float) (b : ℕ) → Left x n r a b → b ≤ 0 → r ≡ power x n
unfolding pow_by
ends x n r a b l h = l.is ∙ go l.fuel (eq-eqb b 0 (omega arith)) l.same
  where
    go : (d : ℕ) → eqb b 0 ≡ true → total one (pow_by (mul binary64) d (eqb b 0) l.product a b) ≡ power x n → total one l.product ≡ power x n
    go zero e s = s
    go (suc d) e s = sym (ap (λ (t : Bool). total one (pow_by (mul binary64) (suc d) t l.product a b)) e) ∙ s

-- a factor more: the first 1 is no factor
factor : (t : Bool) (p : Product Float) (a : Float) → T (fits binary64 a) → cond t (mul binary64 (total one p) a) (total one p) ≡ total one (cond t (also (mul binary64) p a) p)
factor true none a h = mul_one_is binary64 a h
factor true (some r) a h = refl
factor false p a h = refl

pub turn : (x : Float) (n : ℕ) (r a r' : Float) (b : ℕ) → Left x n r a b → 0 < b → r' ≡ cond (eqb (b % 2) 1) (mul binary64 r a) r → Left x n r' (mul binary64 a a) (b / 2)
unfolding pow_by
turn x n r a r' b l h e = go l.fuel l.enough (ne_eqb b 0 (λ z. omega arith)) l.same
  where
    go : (d : ℕ) → b ≤ d → eqb b 0 ≡ false → total one (pow_by (mul binary64) d (eqb b 0) l.product a b) ≡ power x n → Left x n r' (mul binary64 a a) (b / 2)
    go zero m f s = absurd (lt_irrefl 0 (lt_of_lt_of_le h m))
    go (suc d) m f s = record {
      product = cond (eqb (b % 2) 1) (also (mul binary64) l.product a) l.product;
      is = e ∙ ap (λ (y : Float). cond (eqb (b % 2) 1) (mul binary64 y a) y) l.is ∙ factor (eqb (b % 2) 1) l.product a l.held;
      held = mul-fits binary64 a a;
      fuel = d;
      enough = half_le m;
      same = sym (ap (λ (t : Bool). total one (pow_by (mul binary64) (suc d) t l.product a b)) f) ∙ s;
    }
