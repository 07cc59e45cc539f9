-- What comparisons with zero say of a float, by clauses on the float; a zero is written in one way, and rounds to itself. Assumes nothing.
use mathlib.Core.Path.{◌≡◌, refl, sym, ◌∙◌}
use Prim.Native.Nat.{ℕ, zero, suc, ◌+◌, ◌*◌, ◌^◌, ◌<◌, zero-le}
use native.Mathlib.Nat.{zero-mul, zero-lt-suc, mul-pos, mul-one, one-mul, pow-suc}
use native.Mathlib.Omega.{arith}
use mathlib.Core.Bool.{Bool, true, false, not, true≢false, ◌||◌, beq}
use lib.IntN.{ℤ, pos, negsuc}
use lib.Dec.{T, eqb→eq}
use borrow.Author.Tests.{lt-ltb, le-ltb, ne_eqb}
use lib.Ieee.{Float, nan, inf, fin, up, down, lt, eq, is_nan, Format, binary32, binary64, fits, round}
use lib.Ieee.Scale.{round_same}
use lib.Ieee.Fits.{up_pos}
use Rattle.float.specs.Constants.{nought}

pub clash : {A : Type 0} {b : Bool} → b ≡ true → b ≡ false → A
clash p q = absurd (true≢false (sym p ∙ q))

-- m * 2 ^ e is above zero where m is
some : (m : ℕ) (e : ℤ) → 0 < suc m * up e * 1
some m e = mul-pos (mul-pos (zero-lt-suc m) (up_pos e)) (zero-lt-suc 0)

-- ---- a zero
pub zero_lt : (s : Bool) (e : ℤ) → lt (fin s zero e) nought ≡ false
unfolding lt
zero_lt true e = rw (zero-mul (up e), zero-mul (down e))
zero_lt false e = rw (zero-mul (up e), zero-mul (down e))

pub zero_gt : (s : Bool) (e : ℤ) → lt nought (fin s zero e) ≡ false
unfolding lt
zero_gt true e = refl
zero_gt false e = rw (zero-mul (up e), zero-mul (down e))

pub zero_eq : (s : Bool) (e : ℤ) → eq (fin s zero e) nought ≡ true
unfolding eq
zero_eq s e = rw (zero-mul (up e), zero-mul (down e)) (or_true (beq s false))
  where
    or_true : (b : Bool) → (b || true) ≡ true
    or_true true = refl
    or_true false = refl

-- ---- a number that is not zero
pub plus_lt : (m : ℕ) (e : ℤ) → lt (fin false (suc m) e) nought ≡ false
unfolding lt
plus_lt m e = rw (zero-mul (down e)) (le-ltb (suc m * up e * 1) 0 zero-le)

pub plus_gt : (m : ℕ) (e : ℤ) → lt nought (fin false (suc m) e) ≡ true
unfolding lt
plus_gt m e = rw (zero-mul (down e)) (lt-ltb 0 (suc m * up e * 1) (some m e))

pub minus_lt : (m : ℕ) (e : ℤ) → lt (fin true (suc m) e) nought ≡ true
unfolding lt
minus_lt m e = lt-ltb 0 (suc m * up e * 1 + 0 * down e) (omega (arith, some m e))

pub some_eq : (s : Bool) (m : ℕ) (e : ℤ) → eq (fin s (suc m) e) nought ≡ false
unfolding eq
some_eq s m e = rw (zero-mul (down e), ne_eqb (suc m * up e * 1) 0 (λ (z : suc m * up e * 1 ≡ 0). omega (arith, some m e)))

-- ---- what is above zero is a number
pub above_no_nan : (x : Float) → lt nought x ≡ true → T (not (is_nan x))
unfolding lt is_nan
above_no_nan nan h = clash h refl
above_no_nan (inf s) h = tt
above_no_nan (fin s m e) h = tt

-- ---- a zero that fits has the exponent 0
-- no power of two above the first is 1
even : (k : ℕ) → 2 ^ suc k ≡ 1 → ⊥
even k h = two (2 ^ k) (sym (pow-suc 2 k) ∙ h)
  where
    two : (p : ℕ) → p * 2 ≡ 1 → ⊥
    two p h = omega arith

pub zero_exponent : (f : Format) (s : Bool) (e : ℤ) → T (fits f (fin s zero e)) → pos 0 ≡ e
unfolding fits
zero_exponent f s (pos zero) h = refl
zero_exponent f s (pos (suc k)) h = absurd (even k (sym (mul-one (2 ^ suc k)) ∙ eqb→eq (2 ^ suc k * 1) 1 h))
zero_exponent f s (negsuc k) h = absurd (even k (sym (one-mul (2 ^ suc k)) ∙ eqb→eq (1 * 2 ^ suc k) 1 h))

-- ---- zero is rounded to zero
at_one : (f : Format) (s : Bool) → round f s 0 1 ≡ fin s 0 (pos 0)
unfolding round
at_one binary32 s = refl
at_one binary64 s = refl

pub round_zero : (f : Format) (s : Bool) (c : ℕ) → 0 < c → round f s 0 c ≡ fin s 0 (pos 0)
round_zero f s c C = round_same f s 0 c 0 1 C (zero-lt-suc 0) (zero-mul 1 ∙ sym (zero-mul c)) ∙ at_one f s
