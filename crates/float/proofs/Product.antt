-- A product by a power of two, as the machine rounds it, is exact wherever the format holds it. Assumes nothing.
use mathlib.Core.Path.{◌≡◌, refl, sym, ap, ◌∙◌, subst}
use Prim.Native.Nat.{ℕ, zero, suc, ◌+◌, ◌*◌, ◌^◌, ◌<◌}
use native.Mathlib.Nat.{zero-lt-suc, mul_assoc, mul-pos, eq_of_mul-eq-mul_right, zero-mul, mul-zero}
use native.Mathlib.Omega.{arith}
use mathlib.Core.Bool.{Bool, true, false}
use lib.Dec.{T}
use lib.IntN.{ℤ, ◌+ℤ◌, pos}
use lib.Ieee.{Float, nan, inf, fin, Format, emax, low, up, down, fits, round, mul}
use lib.Ieee.Exact.{round_exact}
use lib.Ieee.Fits.{down_pos, round-fits}
use Rattle.float.specs.Root.{root}
use Rattle.float.specs.Scale.{scale}
use Rattle.float.proofs.Zero.{zero_exponent, round_zero}
use Rattle.float.proofs.Scaling.{scale_none}
use Rattle.float.proofs.Exponents.{up_both}
use Rattle.float.proofs.Units.{in_units, fits_few, fits_low, fits_high, units_lt, unique}
use Rattle.float.proofs.Fits.{root_fits}
use Rattle.float.proofs.RootScale.{root_scale}

product_is : (f : Format) (t : ℤ) (s : Bool) (m : ℕ) (e : ℤ) → mul f (fin false 1 t) (fin s m e) ≡ round f s (1 * up t * (m * up e)) (down t * down e)
unfolding mul
product_is f t true m e = refl
product_is f t false m e = refl

-- a number other than zero times 2 ^ t, where the format holds that
times : (f : Format) (t : ℤ) (s : Bool) (m : ℕ) (e : ℤ) → T (fits f (fin s (suc m) (e +ℤ t))) → mul f (fin false 1 t) (fin s (suc m) e) ≡ fin s (suc m) (e +ℤ t)
times f t s m e h =
    let d = e +ℤ t in
    let num = 1 * up t * (suc m * up e) in
    let den = down t * down e in
    let D : 0 < den = mul-pos (down_pos t) (down_pos e) in
    let u = in_units f (suc m) d (zero-lt-suc m) (fits_low f s m d h) in
    let w : suc m * up d * den ≡ num * down d = mul_assoc (suc m) (up d) den ∙ ap (λ (x : ℕ). suc m * x) (up_both e t) ∙ three (suc m) (up t) (up e) (down d) in
    let v : num * 2 ^ low f ≡ suc m * 2 ^ u.j * den =
    eq_of_mul-eq-mul_right (down d) (down_pos d) (num * 2 ^ low f) (suc m * 2 ^ u.j * den)
    (swap num (2 ^ low f) (down d) ∙ ap (λ (x : ℕ). x * 2 ^ low f) (sym w) ∙ swap (suc m * up d) den (2 ^ low f) ∙ ap (λ (x : ℕ). x * den) u.is ∙ swap u.a (down d) den ∙ ap (λ (x : ℕ). x * den * down d) u.odd) in
    product_is f t s (suc m) e
    ∙ unique f (round f s num den) (fin s (suc m) d) s num den D (round-fits f s num den) h
    (round_exact f s num den (suc m) u.j D (fits_few f s m d h) (subst (λ (x : ℕ). x < 2 ^ (low f + suc (emax f))) u.odd (units_lt f (suc m) d u.a u.is (fits_high f s m d h))) v)
    (refl, w)
  where
    three : (m a b d : ℕ) → m * (a * b * d) ≡ 1 * a * (m * b) * d
    three m a b d = omega arith

    swap : (a b c : ℕ) → a * b * c ≡ a * c * b
    swap a b c = omega arith

none : (t e : ℤ) → 1 * up t * (0 * up e) ≡ 0
none t e = ap (λ (x : ℕ). 1 * up t * x) (zero-mul (up e)) ∙ mul-zero (1 * up t)

pub mul_scale : (f : Format) (t : ℤ) (x : Float) → T (fits f x) → T (fits f (scale t x)) → mul f (fin false 1 t) x ≡ scale t x
unfolding mul
mul_scale f t nan h g = refl
mul_scale f t (inf true) h g = refl
mul_scale f t (inf false) h g = refl
mul_scale f t (fin s zero e) h g =
    product_is f t s 0 e
    ∙ ap (λ (x : ℕ). round f s x (down t * down e)) (none t e)
    ∙ round_zero f s (down t * down e) (mul-pos (down_pos t) (down_pos e))
    ∙ ap (fin s 0) (zero_exponent f s e h)
mul_scale f t (fin s (suc m) e) h g = times f t s m e g

-- 1 * x is x
pub mul_one_is : (f : Format) (x : Float) → T (fits f x) → mul f (fin false 1 (pos 0)) x ≡ x
mul_one_is f x h = mul_scale f (pos 0) x h (subst (λ (y : Float). T (fits f y)) (sym (scale_none x)) h) ∙ scale_none x

-- the root of 4 ^ t * x, as the machine multiplies
pub root_mul : (f : Format) (t : ℤ) (x : Float) → T (fits f x) → T (fits f (scale (t +ℤ t) x)) → root f (mul f (fin false 1 (t +ℤ t)) x) ≡ mul f (fin false 1 t) (root f x)
root_mul f t x h g =
    let e = root_scale f x t h g in
    ap (root f) (mul_scale f (t +ℤ t) x h g)
    ∙ e
    ∙ sym (mul_scale f t (root f x) (root_fits f x h) (subst (λ (y : Float). T (fits f y)) e (root_fits f (scale (t +ℤ t) x) g)))
