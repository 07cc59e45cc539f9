-- The root of a subnormal number by that of a whole number. The number with the bits b is b * 2 ^ -1074, so its root is 2 ^ -537 times the root of b, to the last digit. Assumes nothing.
use mathlib.Core.Path.{◌≡◌, refl, sym, ap, ◌∙◌, subst}
use Prim.Native.Nat.{ℕ, zero, suc, ◌+◌, ◌*◌, ◌/◌, ◌^◌, ◌≤◌, ◌<◌}
use native.Mathlib.Nat.{lt_of_lt_of_le, add_right_comm, eq_of_mul-eq-mul_right, mul-pos, zero-lt-suc}
use native.Mathlib.Omega.{arith}
use mathlib.Core.Bool.{Bool, false}
use lib.Dec.{T}
use lib.IntN.{ℤ, pos, negsuc}
use lib.Pow.{pow_pos, pow_mono, shl_lt}
use lib.Count.{count_trailing_zeros}
use lib.Ieee.{Float, nan, inf, fin, binary64, up, down, minus, odd, of_int, of_bits, to_bits, mul, sqrt, fits}
use lib.Ieee.Back.{round_whole, whole_unique}
use lib.Ieee.Bits.{of_bits-fits, of_bits-to_bits}
use lib.Ieee.Exact.{HasValue, odd_sign}
use lib.Ieee.Fits.{down_pos, odd-fits, of_int-fits}
use lib.Ieee.Positive.{first_pos}
use Rattle.float.specs.Root.{root}
use Rattle.float.specs.Scale.{scale}
use Rattle.float.proofs.Exponents.{minus_add}
use Rattle.float.proofs.Patterns.{subnormal}
use Rattle.float.proofs.Product.{mul_scale, root_mul}
use Rattle.float.proofs.Scaling.{scale_pos, scale_back}
use Rattle.root.proofs.Library.{sqrt_is_root}

-- the code's constant is 2 ^ -537
constant : of_bits binary64 0x1e60000000000000 ≡ fin false 1 (negsuc 536)
unfolding of_bits
constant = refl

-- a * c parts, of which c make one, are a
whole : (x : Float) (s : Bool) (a c : ℕ) → 0 < c → HasValue x s (a * c) c → HasValue x s a 1
whole nan s a c h v = v
whole (inf t) s a c h v = v
whole (fin t m e) s a c h v = (v.0, eq_of_mul-eq-mul_right c h (m * up e * 1) (a * down e) (omega (arith, v.1)))

-- a number above zero is not written with the digits 0
some : (q k l m : ℕ) (e : ℤ) → HasValue (fin false m e) false (suc q * 2 ^ k) (2 ^ l) → 0 < m
some q k l m e v = first_pos m (up e) (first_pos (m * up e) (2 ^ l) (subst (λ (x : ℕ). 0 < x) (sym v.1) (mul-pos (mul-pos (zero-lt-suc q) (pow_pos k)) (down_pos e))))

-- b * 2 ^ (k + t) parts are 2 ^ t times b * 2 ^ k of them
raised : (d b k l t : ℕ) → odd d false b (k + t) l ≡ scale (pos t) (odd d false b k l)
unfolding odd
raised d zero k l t = refl
raised d (suc q) k l t =
    let z = count_trailing_zeros d (suc q) in
    let m = suc q / 2 ^ z in
    ap (λ (x : ℕ). fin false m (minus x l)) (add_right_comm k t z)
    ∙ ap (fin false m) (minus_add (k + z) l t)
    ∙ sym (scale_pos (pos t) false m (minus (k + z) l) (some q k l m (minus (k + z) l) (odd_sign d false (suc q) k l)))

-- the number with the bits b is 2 ^ -1074 times the float of b
lowered : (b : ℕ) → b < 2 ^ 52 → scale (negsuc 1073) (of_int binary64 (pos b)) ≡ of_bits binary64 b
unfolding of_int
lowered b h =
    let k : b < 2 ^ 53 = omega arith in
    let l : b ≤ 2 ^ 53 = omega arith in
    let w : 53 + 1074 ≤ 1074 + 1024 = omega arith in
    let x = odd 53 false b 1074 1074 in
    ap (scale (negsuc 1073))
    (whole_unique binary64 (of_int binary64 (pos b)) x false b
    (of_int-fits binary64 (pos b))
    (odd-fits binary64 53 false b 1074 k l (lt_of_lt_of_le (shl_lt 53 1074 k) (pow_mono w)))
    (round_whole binary64 false b l)
    (whole x false b (2 ^ 1074) (pow_pos 1074) (odd_sign 53 false b 1074 1074))
    ∙ raised 53 b 0 1074 1074)
    ∙ scale_back (pos 1074) (odd 53 false b 0 1074)
    ∙ sym (subnormal b h)

-- its root is 2 ^ -537 times the root of that float, as the machine multiplies
pub root_lowered : (b : ℕ) → b < 2 ^ 52 → mul binary64 (of_bits binary64 0x1e60000000000000) (sqrt binary64 (of_int binary64 (pos b))) ≡ root binary64 (of_bits binary64 b)
root_lowered b h =
    let y = of_int binary64 (pos b) in
    let e = lowered b h in
    let f : T (fits binary64 y) = of_int-fits binary64 (pos b) in
    let g : T (fits binary64 (scale (negsuc 1073) y)) = subst (λ (x : Float). T (fits binary64 x)) (sym e) (of_bits-fits binary64 b) in
    ap (λ (x : Float). mul binary64 x (sqrt binary64 y)) constant
    ∙ ap (mul binary64 (fin false 1 (negsuc 536))) (sqrt_is_root y f)
    ∙ sym (root_mul binary64 (negsuc 536) y f g)
    ∙ ap (root binary64) (mul_scale binary64 (negsuc 1073) y f g ∙ e)

-- the bits of a number stand for it, so its root is the root of what they stand for
pub root_of_bits : (x : Float) → T (fits binary64 x) → root binary64 (of_bits binary64 (to_bits binary64 x)) ≡ root binary64 x
root_of_bits x h = ap (root binary64) (of_bits-to_bits binary64 x h)
