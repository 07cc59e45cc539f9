-- Results fit the format. Assumes nothing.
use mathlib.Core.Path.{refl, sym, ◌∙◌, subst}
use Prim.Native.Nat.{ℕ, zero, suc, ◌+◌, ◌*◌, ◌^◌, ◌≤◌, ◌<◌, ◌/◌, ◌%◌}
use native.Mathlib.Nat.{le_trans, le_of_eq, lt_of_lt_of_le, lt_of_le_of_lt, zero-lt-suc, mul-lt-mul_of_pos_right, lt-suc_self}
use mathlib.Core.Bool.{true, false, Bool, cond}
use lib.Dec.{T, eqb}
use lib.Pow.{pow-add, pow_pos, pow-lt}
use lib.Ieee.{Float, nan, inf, fin, Format, prec, emax, low, nearest, fits, binary64, mul, lt}
use lib.Ieee.Fits.{nearest-le, odd-fits, nan-fits, inf-fits, mul-fits, cond-fits}
use Rattle.float.specs.Constants.{one}
use Rattle.float.specs.Leaves.{abs_of, larger_of}
use Rattle.float.specs.Power.{Product, none, some, also, total, pow_by, power_of, power}
use Rattle.float.specs.Root.{root, rooted}
use Rattle.float.proofs.Rooted.{side, rooted_def}
use Rattle.float.proofs.RootedScale.{dropped, kept, between_own, kept_low, kept_high}
use Rattle.float.proofs.Patterns.{units_in}
use Rattle.float.proofs.RootValue.{root_value}
use Rattle.float.proofs.Units.{in_units, fits_low, fits_high, units_lt}
use Rattle.float.proofs.RootScale.{normal, under, pos_of}

-- the root of a units is normal and does not overflow
rooted_fits : (f : Format) (a : ℕ) → 0 < a → a < 2 ^ (low f + suc (emax f)) → T (fits f (rooted f (a * 2 ^ low f)))
rooted_fits f a A B =
    let l = low f in
    let n = a * 2 ^ l in
    let q = kept f n in
    let k = dropped f n in
    let o = side n q k in
    let r = nearest q o in
    let Q : 1 ≤ q = pos_of (prec f) q (kept_low f n (normal f a A)) in
    let hi : n < 2 ^ (l + suc (emax f) + l) = lt_of_lt_of_le (mul-lt-mul_of_pos_right B (pow_pos l)) (le_of_eq (sym (pow-add 2 (l + suc (emax f)) l))) in
    let less : r * 2 ^ k < 2 ^ (l + suc (emax f)) = under f n q k o Q (between_own f n).0 hi in
    let few : r ≤ 2 ^ prec f = le_trans (nearest-le q o) (kept_high f n) in
    subst (λ (x : Float). T (fits f x)) (sym (rooted_def f n ∙ units_in f false r k less)) (odd-fits f (suc (prec f)) false r k (lt_of_le_of_lt few (pow-lt (lt-suc_self (prec f)))) few less)

pub root_fits : (f : Format) (x : Float) → T (fits f x) → T (fits f (root f x))
unfolding root
root_fits f nan h = nan-fits f
root_fits f (inf true) h = nan-fits f
root_fits f (inf false) h = inf-fits f false
root_fits f (fin s zero e) h = h
root_fits f (fin true (suc m) e) h = nan-fits f
root_fits f (fin false (suc m) e) h =
    let u = in_units f (suc m) e (zero-lt-suc m) (fits_low f false m e h) in
    subst (λ (x : Float). T (fits f x)) (sym (root_value f (fin false (suc m) e) u.a u.some (refl, u.is)))
    (rooted_fits f u.a u.some (units_lt f (suc m) e u.a u.is (fits_high f false m e h)))

pub abs_fits : (f : Format) (x : Float) → T (fits f x) → T (fits f (abs_of x))
unfolding abs_of fits
abs_fits f nan h = tt
abs_fits f (inf s) h = tt
abs_fits f (fin s zero e) h = h
abs_fits f (fin s (suc m) e) h = h

pub larger_fits : (f : Format) (x y : Float) → T (fits f x) → T (fits f y) → T (fits f (larger_of x y))
unfolding larger_of
larger_fits f nan y h g = g
larger_fits f (inf s) y h g = cond-fits f (lt (inf s) y) y (inf s) g h
larger_fits f (fin s m e) y h g = cond-fits f (lt (fin s m e) y) y (fin s m e) g h

-- a power is 1, the number itself or a product
holds : Product Float → Type 0
holds none = Unit {0}
holds (some r) = T (fits binary64 r)

also_holds : (t : Bool) (r : Product Float) (a : Float) → holds r → T (fits binary64 a) → holds (cond t (also (mul binary64) r a) r)
unfolding holds
also_holds true none a h g = g
also_holds true (some r) a h g = mul-fits binary64 r a
also_holds false r a h g = h

pow_by_holds : (d : ℕ) (done : Bool) (r : Product Float) (a : Float) (b : ℕ) → holds r → T (fits binary64 a) → holds (pow_by (mul binary64) d done r a b)
unfolding pow_by
pow_by_holds zero done r a b h g = h
pow_by_holds (suc d) true r a b h g = h
pow_by_holds (suc d) false r a b h g =
    pow_by_holds d (eqb (b / 2) 0) (cond (eqb (b % 2) 1) (also (mul binary64) r a) r) (mul binary64 a a) (b / 2)
    (also_holds (eqb (b % 2) 1) r a h g)
    (mul-fits binary64 a a)

total_fits : (p : Product Float) → holds p → T (fits binary64 (total one p))
unfolding holds fits
total_fits none h = tt
total_fits (some r) h = h

pub power_fits : (x : Float) (n : ℕ) → T (fits binary64 x) → T (fits binary64 (power x n))
unfolding power_of holds
power_fits x n h = total_fits (pow_by (mul binary64) n (eqb n 0) none x n) (pow_by_holds n (eqb n 0) none x n tt h)
