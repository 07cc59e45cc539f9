-- A value of a format, counted in units of its smallest value; two values of one size and sign are one. Assumes nothing.
use mathlib.Core.Path.{◌≡◌, refl, sym, ap, ◌∙◌, subst}
use Prim.Native.Nat.{ℕ, suc, ◌+◌, ◌-◌, ◌*◌, ◌/◌, ◌%◌, ◌^◌, ◌≤◌, ◌<◌}
use native.Mathlib.Nat.{le_of_eq, lt_of_lt_of_le, lt_of_not-le, not-le_of_lt, le_of_suc-le-suc, mul-one, mul_assoc, mul-pos, mul-lt-mul_of_pos_right, lt_of_mul-lt-mul_right, eq_of_mul-eq-mul_right}
use native.Mathlib.Omega.{arith}
use mathlib.Core.Bool.{Bool, ◌&&◌, cond}
use lib.Dec.{T, leb, ltb, eqb, leb→le, ltb→lt}
use lib.IntN.{ℤ, pos, negsuc}
use lib.Pow.{pow-add, pow_pos, pow-lt}
use lib.Ieee.{Float, nan, inf, fin, Format, prec, emax, low, up, down, size, fits, hid, top, of_bits, to_bits}
use lib.Ieee.Bits.{of_bits-to_bits}
use lib.Ieee.Exact.{HasValue}
use lib.Ieee.Fits.{down_pos, and_l, and_r}
use lib.Ieee.Nearest.{div_same}

-- ---- a positive value of the format, in units
pub record Units (f : Format) (m : ℕ) (e : ℤ) : Type 0 where
  pub a : ℕ
  pub j : ℕ
  pub odd : a ≡ m * 2 ^ j
  pub is : m * up e * 2 ^ low f ≡ a * down e
  pub some : 0 < a

pow_le_back : (a l : ℕ) → 2 ^ a ≤ 2 ^ l → a ≤ l
pow_le_back a l h = le_of_suc-le-suc (lt_of_not-le (λ (g : suc l ≤ a). not-le_of_lt (pow-lt g) h))

-- it is a whole number of them
pub in_units : (f : Format) (m : ℕ) (e : ℤ) → 0 < m → down e ≤ 2 ^ low f → Units f m e
in_units f m (pos k) h d = record { a = m * 2 ^ k * 2 ^ low f; j = k + low f; odd = mul_assoc m (2 ^ k) (2 ^ low f) ∙ ap (λ (x : ℕ). m * x) (sym (pow-add 2 k (low f))); is = sym (mul-one (m * 2 ^ k * 2 ^ low f)); some = mul-pos (mul-pos h (pow_pos k)) (pow_pos (low f)) }
in_units f m (negsuc k) h d =
    let l = low f in
    let le : suc k ≤ l = pow_le_back (suc k) l d in
    record {
      a = m * 2 ^ (l - suc k);
      j = l - suc k;
      odd = refl;
      is = ap (λ (x : ℕ). x * 2 ^ l) (mul-one m) ∙ ap (λ (x : ℕ). m * 2 ^ x) (sym (rejoin l (suc k) le)) ∙ ap (λ (x : ℕ). m * x) (pow-add 2 (l - suc k) (suc k)) ∙ sym (mul_assoc m (2 ^ (l - suc k)) (2 ^ suc k));
      some = mul-pos h (pow_pos (l - suc k));
    }
  where
    rejoin : (l k : ℕ) → k ≤ l → l - k + k ≡ l
    rejoin l k h = omega arith

pub fits_low : (f : Format) (s : Bool) (m : ℕ) (e : ℤ) → T (fits f (fin s (suc m) e)) → down e ≤ 2 ^ low f
unfolding fits
fits_low f s m e h =
    leb→le (down e) (2 ^ low f) (and_r (eqb (suc m % 2) 1 && ltb (suc m) (2 ^ prec f)) (leb (down e) (2 ^ low f)) (and_l (eqb (suc m % 2) 1 && ltb (suc m) (2 ^ prec f) && leb (down e) (2 ^ low f)) (ltb (suc m * up e) (2 ^ suc (emax f) * down e)) h))

pub fits_high : (f : Format) (s : Bool) (m : ℕ) (e : ℤ) → T (fits f (fin s (suc m) e)) → suc m * up e < 2 ^ suc (emax f) * down e
unfolding fits
fits_high f s m e h = ltb→lt (suc m * up e) (2 ^ suc (emax f) * down e) (and_r (eqb (suc m % 2) 1 && ltb (suc m) (2 ^ prec f) && leb (down e) (2 ^ low f)) (ltb (suc m * up e) (2 ^ suc (emax f) * down e)) h)

-- a value of the format is below 2 ^ (emax + 1)
pub units_lt : (f : Format) (m : ℕ) (e : ℤ) (a : ℕ) → m * up e * 2 ^ low f ≡ a * down e → m * up e < 2 ^ suc (emax f) * down e → a < 2 ^ (low f + suc (emax f))
units_lt f m e a v h =
    lt_of_mul-lt-mul_right (down e)
    (subst (λ (x : ℕ). x < 2 ^ (low f + suc (emax f)) * down e) v
    (lt_of_lt_of_le (mul-lt-mul_of_pos_right h (pow_pos (low f)))
    (le_of_eq (turn (2 ^ suc (emax f)) (down e) (2 ^ low f) ∙ ap (λ (x : ℕ). x * down e) (sym (pow-add 2 (low f) (suc (emax f))))))))
  where
    turn : (a d l : ℕ) → a * d * l ≡ l * a * d
    turn a d l = omega arith

pub fits_few : (f : Format) (s : Bool) (m : ℕ) (e : ℤ) → T (fits f (fin s (suc m) e)) → suc m < 2 ^ prec f
unfolding fits
fits_few f s m e h =
    ltb→lt (suc m) (2 ^ prec f) (and_r (eqb (suc m % 2) 1) (ltb (suc m) (2 ^ prec f)) (and_l (eqb (suc m % 2) 1 && ltb (suc m) (2 ^ prec f)) (leb (down e) (2 ^ low f)) (and_l (eqb (suc m % 2) 1 && ltb (suc m) (2 ^ prec f) && leb (down e) (2 ^ low f)) (ltb (suc m * up e) (2 ^ suc (emax f) * down e)) h)))

-- a positive value times 2 ^ t, where the format holds that

-- ---- one way to write a value
same_bits : (f : Format) (s : Bool) (m : ℕ) (e : ℤ) (n : ℕ) (d : ℤ) → m * up e * 2 ^ low f * down d ≡ n * up d * 2 ^ low f * down e → to_bits f (fin s m e) ≡ to_bits f (fin s n d)
unfolding to_bits
same_bits f s m e n d h = ap (λ (x : ℕ). cond s (top f) 0 + (size x - prec f) * hid f + x / 2 ^ (size x - prec f)) (div_same (m * up e * 2 ^ low f) (down e) (n * up d * 2 ^ low f) (down d) (down_pos e) (down_pos d) h)

cross : (x y de dd a c l : ℕ) → 0 < c → x * c ≡ a * de → y * c ≡ a * dd → x * l * dd ≡ y * l * de
cross x y de dd a c l C p q =
    eq_of_mul-eq-mul_right c C (x * l * dd) (y * l * de)
    (one x l dd c ∙ ap (λ (z : ℕ). z * (l * dd)) p ∙ two' a de l dd ∙ ap (λ (z : ℕ). z * (l * de)) (sym q) ∙ sym (one y l de c))
  where
    one : (x l d c : ℕ) → x * l * d * c ≡ x * c * (l * d)
    one x l d c = omega arith

    two' : (a de l dd : ℕ) → a * de * (l * dd) ≡ a * dd * (l * de)
    two' a de l dd = omega arith

pub unique : (f : Format) (x y : Float) (s : Bool) (a c : ℕ) → 0 < c → T (fits f x) → T (fits f y) → HasValue x s a c → HasValue y s a c → x ≡ y
unique f nan y s a c C p q v w = absurd v
unique f (inf t) y s a c C p q v w = absurd v
unique f (fin t m e) nan s a c C p q v w = absurd w
unique f (fin t m e) (inf u) s a c C p q v w = absurd w
unique f (fin t m e) (fin u n d) s a c C p q v w =
    sym (of_bits-to_bits f (fin t m e) p)
    ∙ ap (of_bits f) (ap (λ (z : Bool). to_bits f (fin z m e)) (v.0 ∙ sym w.0) ∙ same_bits f u m e n d (cross (m * up e) (n * up d) (down e) (down d) a c (2 ^ low f) C v.1 w.1))
    ∙ of_bits-to_bits f (fin u n d) q
