-- The powers that the formulas name, as plain products; and a relation or a map that keeps products keeps powers. Assumes nothing.
use mathlib.Core.Path.{◌≡◌, refl}
use mathlib.Core.Bool.{Bool, true, false, cond}
use Prim.Native.Nat.{ℕ, zero, suc, ◌/◌, ◌%◌}
use lib.Dec.{eqb}
use lib.Ieee.{Float, binary64, mul}
use Rattle.float.specs.Power.{Product, none, some, also, total, pow_by, power_of, power}

-- the float product
infixl 80 ◌·◌
abbrev ◌·◌ : Float → Float → Float
x · y = mul binary64 x y

pub power_2 : (a : Float) → power a 2 ≡ a · a
unfolding power_of
power_2 a = refl

pub power_3 : (a : Float) → power a 3 ≡ a · (a · a)
unfolding power_of
power_3 a = refl

pub power_4 : (a : Float) → power a 4 ≡ (a · a) · (a · a)
unfolding power_of
power_4 a = refl

pub power_5 : (a : Float) → power a 5 ≡ a · ((a · a) · (a · a))
unfolding power_of
power_5 a = refl

-- ---- a relation that keeps products
module _ {A B : Type 0} (R : A → B → Type 0) (times : A → A → A) (times' : B → B → B) (keeps : (x y : A) (x' y' : B) → R x x' → R y y' → R (times x y) (times' x' y')) where
  abbrev Both : Product A → Product B → Type 0
  Both none none = Unit {0}
  Both none (some b) = ⊥
  Both (some a) none = ⊥
  Both (some a) (some b) = R a b

  also_both : (r : Product A) (r' : Product B) (a : A) (a' : B) → Both r r' → R a a' → Both (also times r a) (also times' r' a')
  also_both none none a a' h g = g
  also_both none (some r') a a' h g = absurd h
  also_both (some r) none a a' h g = absurd h
  also_both (some r) (some r') a a' h g = keeps r a r' a' h g

  cond_both : (t : Bool) (r : Product A) (r' : Product B) (a : A) (a' : B) → Both r r' → R a a' → Both (cond t (also times r a) r) (cond t (also times' r' a') r')
  cond_both true r r' a a' h g = also_both r r' a a' h g
  cond_both false r r' a a' h g = h

  pow_by_both : (d : ℕ) (done : Bool) (r : Product A) (r' : Product B) (a : A) (a' : B) (b : ℕ) → Both r r' → R a a' → Both (pow_by times d done r a b) (pow_by times' d done r' a' b)
  unfolding pow_by
  pow_by_both zero done r r' a a' b h g = h
  pow_by_both (suc d) true r r' a a' b h g = h
  pow_by_both (suc d) false r r' a a' b h g =
      pow_by_both d (eqb (b / 2) 0) (cond (eqb (b % 2) 1) (also times r a) r) (cond (eqb (b % 2) 1) (also times' r' a') r') (times a a) (times' a' a') (b / 2) (cond_both (eqb (b % 2) 1) r r' a a' h g) (keeps a a a' a' g g)

  total_both : (unit : A) (unit' : B) (r : Product A) (r' : Product B) → R unit unit' → Both r r' → R (total unit r) (total unit' r')
  total_both unit unit' none none u h = u
  total_both unit unit' none (some r') u h = absurd h
  total_both unit unit' (some r) none u h = absurd h
  total_both unit unit' (some r) (some r') u h = h

  pub power_both : (unit : A) (unit' : B) (a : A) (a' : B) (n : ℕ) → R unit unit' → R a a' → R (power_of times unit a n) (power_of times' unit' a' n)
  unfolding power_of
  power_both unit unit' a a' n u h = total_both unit unit' (pow_by times n (eqb n 0) none a n) (pow_by times' n (eqb n 0) none a' n) u (pow_by_both n (eqb n 0) none none a a' n tt h)

-- a map that keeps products is one
pub power_map : {A B : Type 0} (f : A → B) (times : A → A → A) (times' : B → B → B) → ((x y : A) → f (times x y) ≡ times' (f x) (f y)) → (unit a : A) (n : ℕ) → f (power_of times unit a n) ≡ power_of times' (f unit) (f a) n
power_map f times times' keeps unit a n = power_both (λ x y. f x ≡ y) times times' (λ x y x' y' p q. cc (keeps x y, p, q)) unit (f unit) a (f a) n refl refl
