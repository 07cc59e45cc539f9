-- The bit patterns of the positive values of binary64, and the pattern that `assemble` makes. 4503599627370496 is 2 ^ 52, the weight of the exponent's field. Assumes nothing.
use mathlib.Core.Path.{◌≡◌, refl, sym, ap, ◌∙◌, subst}
use Prim.Native.Nat.{ℕ, zero, suc, ◌+◌, ◌-◌, ◌*◌, ◌/◌, ◌%◌, ◌^◌, ◌≤◌, ◌<◌}
use native.Mathlib.Nat.{not-le_of_lt, mod-eq_of_lt, lt_irrefl, pow-suc, div-lt_iff_lt-mul, zero-lt-suc, lt_of_lt_of_le}
use native.Mathlib.Omega.{arith}
use mathlib.Core.Bool.{Bool, true, false, not, cond}
use lib.Dec.{T, leb, ltb, eqb, leb→le, ltb→lt, lt→ltb, eqb→eq, not_T}
use lib.Pow.{shl_lt, pow_mono}
use lib.Count.{count_trailing_zeros, under}
use lib.Ieee.{nan, inf, fin, Format, prec, emax, low, minus, binary64, odd, units, of_fields, of_bits, nan_bits}
use lib.Ieee.Bits.{is_false, cond_no, nan_bits_above}

-- ---- reading a pattern
of_bits_is : (b : ℕ) → of_bits binary64 b ≡ of_fields binary64 (leb 9223372036854775808 b) (b % 9223372036854775808 / 4503599627370496) (b % 4503599627370496)
unfolding of_bits
of_bits_is b = refl

differ : (x : ℕ) → suc x < 2047 → suc x ≡ 2047 → ⊥
differ x h e = omega arith

under_ones : (t x : ℕ) → suc x < 2047 → of_fields binary64 false (suc x) t ≡ odd 53 false (4503599627370496 + t) x 1074
unfolding of_fields
under_ones t x h = cond_no (eqb (suc x) 2047) (cond (eqb t 0) (inf false) nan) (odd 53 false (4503599627370496 + t) x 1074) (not_T (eqb (suc x) 2047) (λ (u : T (eqb (suc x) 2047)). differ x h (eqb→eq (suc x) 2047 u)))

at_zero : (t : ℕ) → of_fields binary64 false 0 t ≡ odd 53 false t 0 1074
unfolding of_fields
at_zero t = refl

small : (b : ℕ) → b < 9218868437227405312 → b < 9223372036854775808
small b h = omega arith

positive : (b : ℕ) → b < 9218868437227405312 → of_bits binary64 b ≡ of_fields binary64 false (b / 4503599627370496) (b % 4503599627370496)
positive b k =
    of_bits_is b
    ∙ ap (λ (s : Bool). of_fields binary64 s (b % 9223372036854775808 / 4503599627370496) (b % 4503599627370496)) (is_false (leb 9223372036854775808 b) (not_T (leb 9223372036854775808 b) (λ (u : T (leb 9223372036854775808 b)). not-le_of_lt (small b k) (leb→le 9223372036854775808 b u))))
    ∙ ap (λ (x : ℕ). of_fields binary64 false (x / 4503599627370496) (b % 4503599627370496)) (mod-eq_of_lt (small b k))

field : (b : ℕ) → 4503599627370496 ≤ b → b / 4503599627370496 ≡ suc (b / 4503599627370496 - 1)
field b h = omega arith

field_lt : (b : ℕ) → 4503599627370496 ≤ b → b < 9218868437227405312 → suc (b / 4503599627370496 - 1) < 2047
field_lt b h k = omega arith

pub normal : (b : ℕ) → 4503599627370496 ≤ b → b < 9218868437227405312 → of_bits binary64 b ≡ odd 53 false (4503599627370496 + b % 4503599627370496) (b / 4503599627370496 - 1) 1074
normal b h k =
    positive b k
    ∙ ap (λ (x : ℕ). of_fields binary64 false x (b % 4503599627370496)) (field b h)
    ∙ under_ones (b % 4503599627370496) (b / 4503599627370496 - 1) (field_lt b h k)

none : (b : ℕ) → b < 4503599627370496 → b / 4503599627370496 ≡ 0
none b h = omega arith

low_lt : (b : ℕ) → b < 4503599627370496 → b < 9218868437227405312
low_lt b h = omega arith

pub subnormal : (b : ℕ) → b < 4503599627370496 → of_bits binary64 b ≡ odd 53 false b 0 1074
subnormal b h =
    positive b (low_lt b h)
    ∙ ap (λ (x : ℕ). of_fields binary64 false x (b % 4503599627370496)) (none b h)
    ∙ ap (λ (x : ℕ). of_fields binary64 false 0 x) (mod-eq_of_lt h)
    ∙ at_zero b

-- ---- `units` counts the closing zeros among one digit more
pub tz_more : (d q : ℕ) → 0 < q → q < 2 ^ d → count_trailing_zeros (suc d) q ≡ count_trailing_zeros d q
unfolding count_trailing_zeros
tz_more zero q h k = absurd (no q h k)
  where
    no : (q : ℕ) → 0 < q → q < 1 → ⊥
    no q h k = omega arith
tz_more (suc d) q h k = go (q % 2) refl (λ (e : q % 2 ≡ 0). tz_more d (q / 2) (half_pos q h e) ((div-lt_iff_lt-mul (zero-lt-suc 1)).1 (subst (λ (x : ℕ). q < x) (pow-suc 2 d) k)))
  where
    half_pos : (q : ℕ) → 0 < q → q % 2 ≡ 0 → 0 < q / 2
    half_pos q h e = omega arith

    go : (r : ℕ) → q % 2 ≡ r → (q % 2 ≡ 0 → count_trailing_zeros (suc d) (q / 2) ≡ count_trailing_zeros d (q / 2)) → under r (count_trailing_zeros (suc d) (q / 2)) ≡ under r (count_trailing_zeros d (q / 2))
    go zero e ih = ap suc (ih e)
    go (suc r) e ih = refl

odd_pos : (d : ℕ) (s : Bool) (q k l : ℕ) → 0 < q → odd d s q k l ≡ fin s (q / 2 ^ count_trailing_zeros d q) (minus (k + count_trailing_zeros d q) l)
unfolding odd
odd_pos d s zero k l h = absurd (lt_irrefl 0 h)
odd_pos d s (suc q) k l h = refl

pub odd_more : (d : ℕ) (s : Bool) (q k l : ℕ) → 0 < q → q < 2 ^ d → odd (suc d) s q k l ≡ odd d s q k l
odd_more d s q k l h g =
    odd_pos (suc d) s q k l h
    ∙ ap (λ (t : ℕ). fin s (q / 2 ^ t) (minus (k + t) l)) (tz_more d q h g)
    ∙ sym (odd_pos d s q k l h)

pub units_in : (f : Format) (s : Bool) (q k : ℕ) → q * 2 ^ k < 2 ^ (low f + suc (emax f)) → units f s q k ≡ odd (suc (prec f)) s q k (low f)
unfolding units
units_in f s q k h = go (ltb (q * 2 ^ k) (2 ^ (low f + suc (emax f)))) (lt→ltb (q * 2 ^ k) (2 ^ (low f + suc (emax f))) h)
  where
    go : (b : Bool) → T b → cond b (odd (suc (prec f)) s q k (low f)) (inf s) ≡ odd (suc (prec f)) s q k (low f)
    go true t = refl
    go false t = absurd t

-- ---- the pattern that `assemble` makes
digits_of : (k q : ℕ) → 4503599627370496 ≤ q → q < 9007199254740992 → 4503599627370496 + (k * 4503599627370496 + q) % 4503599627370496 ≡ q
digits_of k q a b = omega arith

field_of : (k q : ℕ) → 4503599627370496 ≤ q → q < 9007199254740992 → (k * 4503599627370496 + q) / 4503599627370496 - 1 ≡ k
field_of k q a b = omega arith

at_least : (k q : ℕ) → 4503599627370496 ≤ q → 4503599627370496 ≤ k * 4503599627370496 + q
at_least k q a = omega arith

pub at_most : (k q : ℕ) → q < 9007199254740992 → k < 2000 → k * 4503599627370496 + q < 9218868437227405312
at_most k q a b = omega arith

pub made : (k q : ℕ) → 4503599627370496 ≤ q → q < 9007199254740992 → k < 2000 → of_bits binary64 (k * 4503599627370496 + q) ≡ units binary64 false q k
made k q a b c =
    normal (k * 4503599627370496 + q) (at_least k q a) (at_most k q b c)
    ∙ ap (λ (x : ℕ). odd 53 false x ((k * 4503599627370496 + q) / 4503599627370496 - 1) 1074) (digits_of k q a b)
    ∙ ap (λ (x : ℕ). odd 53 false q x 1074) (field_of k q a b)
    ∙ sym (units_in binary64 false q k (lt_of_lt_of_le (shl_lt 53 k b) (pow_mono (room k c))) ∙ odd_more 53 false q k 1074 (pos q a) b)
  where
    room : (k : ℕ) → k < 2000 → 53 + k ≤ 2098
    room k h = omega arith

    pos : (q : ℕ) → 4503599627370496 ≤ q → 0 < q
    pos q h = omega arith

pub clean : (b : ℕ) → b < 9218868437227405312 → T (not (nan_bits binary64 b))
clean b h = subst (λ (x : Bool). T (not x)) (sym (nan_bits_above binary64 b)) (not_T (ltb 9218868437227405312 (b % 9223372036854775808)) (λ (u : T (ltb 9218868437227405312 (b % 9223372036854775808))). no b h (ltb→lt 9218868437227405312 (b % 9223372036854775808) u)))
  where
    no : (b : ℕ) → b < 9218868437227405312 → 9218868437227405312 < b % 9223372036854775808 → ⊥
    no b h k = omega arith
