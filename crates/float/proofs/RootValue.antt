-- The root of a value by its size in units. Assumes nothing.
use mathlib.Core.Path.{◌≡◌, sym, ap, ◌∙◌, subst}
use Prim.Native.Nat.{ℕ, zero, suc, ◌*◌, ◌/◌, ◌^◌, ◌<◌}
use native.Mathlib.Nat.{lt_irrefl, zero-mul, mul_assoc, mul_right_comm, mul-pos, mul-div_cancel, zero-lt-suc}
use mathlib.Core.Bool.{true, false, true≢false}
use lib.IntN.{ℤ}
use lib.Pow.{pow-add, pow_pos}
use lib.Ieee.{Float, nan, inf, fin, Format, low, up, down, odd}
use lib.Ieee.Exact.{HasValue, odd_sign}
use lib.Ieee.Fits.{down_pos}
use Rattle.float.specs.Root.{root, rooted}

-- ---- the root of a positive value that is a units
root_fin : (f : Format) (m : ℕ) (e : ℤ) (a : ℕ) → 0 < m → m * up e * 2 ^ low f ≡ a * down e → root f (fin false m e) ≡ rooted f (a * 2 ^ low f)
unfolding root
root_fin f zero e a h v = absurd (lt_irrefl 0 h)
root_fin f (suc m) e a h v =
    ap (rooted f)
    (ap (λ (x : ℕ). x / down e)
    (ap (λ (x : ℕ). suc m * up e * x) (pow-add 2 (low f) (low f))
    ∙ sym (mul_assoc (suc m * up e) (2 ^ low f) (2 ^ low f))
    ∙ ap (λ (x : ℕ). x * 2 ^ low f) v
    ∙ mul_right_comm a (down e) (2 ^ low f))
    ∙ mul-div_cancel (a * 2 ^ low f) (down_pos e))

some : (f : Format) (m : ℕ) (e : ℤ) (a : ℕ) → 0 < a → m * up e * 2 ^ low f ≡ a * down e → 0 < m
some f zero e a h v = absurd (lt_irrefl 0 (subst (λ (x : ℕ). 0 < x) (sym v ∙ ap (λ (x : ℕ). x * 2 ^ low f) (zero-mul (up e)) ∙ zero-mul (2 ^ low f)) (mul-pos h (down_pos e))))
some f (suc m) e a h v = zero-lt-suc m

pub root_value : (f : Format) (x : Float) (a : ℕ) → 0 < a → HasValue x false a (2 ^ low f) → root f x ≡ rooted f (a * 2 ^ low f)
root_value f nan a h v = absurd v
root_value f (inf s) a h v = absurd v
root_value f (fin true m e) a h v = absurd (true≢false v.0)
root_value f (fin false m e) a h v = root_fin f m e a (some f m e a h v.1) v.1

pub root_odd : (f : Format) (d q k : ℕ) → 0 < q → root f (odd d false q k (low f)) ≡ rooted f (q * 2 ^ k * 2 ^ low f)
root_odd f d q k h = root_value f (odd d false q k (low f)) (q * 2 ^ k) (mul-pos h (pow_pos k)) (odd_sign d false q k (low f))
