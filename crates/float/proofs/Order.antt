-- The order of floats: nothing is below itself, and what is below the lesser of two is below the greater. By cases of sign, over fractions. Assumes nothing.
use mathlib.Core.Path.{◌≡◌, sym, subst}
use mathlib.Core.Bool.{Bool, true, false}
use Prim.Native.Nat.{ℕ, zero, suc, ◌+◌, ◌*◌, ◌<◌}
use native.Mathlib.Nat.{mul_right_comm, mul-lt-mul_of_pos_right, lt_of_mul-lt-mul_right, lt_trans, mul-pos, zero-mul}
use native.Mathlib.Omega.{arith}
use lib.Dec.{T}
use lib.Ieee.{Float, nan, inf, fin, up, down, below, lt}
use lib.Ieee.Fits.{down_pos}
use borrow.Author.Tests.{ltb-true, lt-ltb}

no : {A : Type 0} → false ≡ true → A
no h = absurd (subst T (sym h) tt)

-- a / x below b / y below c / z
fraction_trans : (a b c x y z : ℕ) → 0 < x → 0 < z → a * y < b * x → b * z < c * y → a * z < c * x
fraction_trans a b c x y z hx hz h k =
    lt_of_mul-lt-mul_right y
    (rw (mul_right_comm a z y, mul_right_comm c x y)
    (lt_trans (mul-lt-mul_of_pos_right h hz) (subst (λ n. n < c * y * x) (mul_right_comm b z x) (mul-lt-mul_of_pos_right k hx))))

-- a factor of what is above something
pos_of : (n x b : ℕ) → b < n * x → 0 < n
pos_of zero x b h = absurd (omega (arith, h, zero-mul x))
pos_of (suc n) x b h = omega arith

left_pos : (n m x y : ℕ) → 0 < n → 0 < x → 0 < n * x + m * y
left_pos n m x y h k = omega (arith, mul-pos h k)

right_pos : (n m x y : ℕ) → 0 < m → 0 < y → 0 < n * x + m * y
right_pos n m x y h k = omega (arith, mul-pos h k)

below_irrefl : (s : Bool) (a : ℕ) → below s a s a ≡ true → ⊥
below_irrefl false a h = omega (arith, ltb-true a a h)
below_irrefl true a h = omega (arith, ltb-true a a h)

-- the fractions a / x, b / y, c / z with signs
below_trans : (s t u : Bool) (a b c x y z : ℕ) → 0 < x → 0 < y → 0 < z → below s (a * y) t (b * x) ≡ true → below t (b * z) u (c * y) ≡ true → below s (a * z) u (c * x) ≡ true
below_trans false false false a b c x y z hx hy hz h k = lt-ltb (a * z) (c * x) (fraction_trans a b c x y z hx hz (ltb-true (a * y) (b * x) h) (ltb-true (b * z) (c * y) k))
below_trans false false true a b c x y z hx hy hz h k = no k
below_trans false true u a b c x y z hx hy hz h k = no h
below_trans true false false a b c x y z hx hy hz h k = lt-ltb 0 (a * z + c * x) (right_pos a c z x (pos_of c y (b * z) (ltb-true (b * z) (c * y) k)) hx)
below_trans true false true a b c x y z hx hy hz h k = no k
below_trans true true false a b c x y z hx hy hz h k = lt-ltb 0 (a * z + c * x) (left_pos a c z x (pos_of a y (b * x) (ltb-true (b * x) (a * y) h)) hz)
below_trans true true true a b c x y z hx hy hz h k = lt-ltb (c * x) (a * z) (fraction_trans c b a z y x hz hx (ltb-true (c * y) (b * z) k) (ltb-true (b * x) (a * y) h))

pub lt_irrefl : (x : Float) → lt x x ≡ true → ⊥
unfolding lt
lt_irrefl nan h = no h
lt_irrefl (inf true) h = no h
lt_irrefl (inf false) h = no h
lt_irrefl (fin s m e) h = below_irrefl s (m * up e * down e) h

pub lt_chain : (x y z : Float) → lt x y ≡ true → lt y z ≡ true → lt x z ≡ true
unfolding lt
lt_chain nan y z h k = no h
lt_chain (inf s) nan z h k = no k
lt_chain (inf true) (inf true) z h k = no h
lt_chain (inf true) (inf false) nan h k = no k
lt_chain (inf true) (inf false) (inf u) h k = no k
lt_chain (inf true) (inf false) (fin u l g) h k = no k
lt_chain (inf false) (inf t) z h k = no h
lt_chain (inf s) (fin t n d) nan h k = no k
lt_chain (inf true) (fin t n d) (inf u) h k = k
lt_chain (inf false) (fin t n d) (inf u) h k = no h
lt_chain (inf s) (fin t n d) (fin u l g) h k = h
lt_chain (fin s m e) nan z h k = no k
lt_chain (fin s m e) (inf true) z h k = no h
lt_chain (fin s m e) (inf false) nan h k = no k
lt_chain (fin s m e) (inf false) (inf u) h k = no k
lt_chain (fin s m e) (inf false) (fin u l g) h k = no k
lt_chain (fin s m e) (fin t n d) nan h k = no k
lt_chain (fin s m e) (fin t n d) (inf u) h k = k
lt_chain (fin s m e) (fin t n d) (fin u l g) h k = below_trans s t u (m * up e) (n * up d) (l * up g) (down e) (down d) (down g) (down_pos e) (down_pos d) (down_pos g) h k
