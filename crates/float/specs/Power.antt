-- Powers by squaring and multiplying, from the lowest binary digit of the order up. Definitions only.
use Rattle.std.specs.Prelude.{Bool, true, false, cond, ℕ, zero, suc, ◌/◌, ◌%◌, eqb, Float}
use Rattle.std.specs.Float.{binary64}
use Rattle.std.specs.Float.Ieee.{mul}
use Rattle.float.specs.Constants.{one}

-- a product of factors, of which there may be none yet
pub data Product (A : Type 0) : Type 0 where
  none : Product A
  some : A → Product A

module _ {A : Type 0} where
  -- one factor more
  abbrev pub also : (A → A → A) → Product A → A → Product A
  also times none a = some a
  also times (some r) a = some (times r a)

  -- the product, which is `unit` where there is no factor
  abbrev pub total : A → Product A → A
  total unit none = unit
  total unit (some r) = r

  -- r times the b-th power of a; `done` says whether b is 0, and d is at least b
  unfoldable pub pow_by : (A → A → A) → ℕ → Bool → Product A → A → ℕ → Product A
  pow_by times zero done r a b = r
  pow_by times (suc d) true r a b = r
  pow_by times (suc d) false r a b = pow_by times d (eqb (b / 2) 0) (cond (eqb (b % 2) 1) (also times r a) r) (times a a) (b / 2)

  -- The n-th power of a. It is stated over any product, so that powers of floats, of formulas and of whole numbers are one.
  unfoldable pub power_of : (A → A → A) → A → A → ℕ → A
  unfolding pow_by
  power_of times unit a n = total unit (pow_by times n (eqb n 0) none a n)

-- Rust's x.powi(n), as document 01 has it: power 2 is a·a, 3 is a·a², 4 is a²·a², 5 is a·a⁴, power 0 is 1
abbrev pub power : Float → ℕ → Float
power x n = power_of (mul binary64) one x n
