-- The library's root is `root`. It is taken to 2271 binary places, and half a place more says that it goes on; `root` compares squares. Assumes nothing.
use mathlib.Core.Path.{◌≡◌, refl, sym, ap, ◌∙◌, subst}
use Prim.Native.Nat.{ℕ, zero, suc, ◌+◌, ◌-◌, ◌*◌, ◌/◌, ◌%◌, ◌^◌, ◌≤◌, ◌<◌, compare, Ordering}
use native.Mathlib.Nat.{lt_irrefl, lt_trans, eq-or-lt_of_le, zero-lt-suc, lt_of_le_of_lt, mul-lt-mul_of_pos_right, mul-le-mul_right, mul-pos, mul-div_cancel, mul-div-mul_right, div-div-eq-div-mul, div-add-mod, div-eq_of_lt-le, mul_assoc}
use native.Mathlib.Omega.{arith}
use mathlib.Core.Bool.{Bool, true, false, cond}
use lib.Dec.{T, eqb, eqb→eq, eqb_refl}
use mathlib.Core.Logic.{inl, inr}
use lib.Ieee.Fits.{down_pos}
use lib.IntN.{ℤ}
use lib.Pow.{pow_pos}
use lib.Ieee.{Float, nan, inf, fin, Format, binary64, prec, low, up, down, size, nearest, units, round, fits, root_below, root_twice, sqrt}
use lib.Ieee.Root.{whole_part}
use Rattle.float.specs.Root.{whole_root, rooted, root}
use Rattle.float.proofs.Comparing.{Cmp, cmp, compare_is, compare_scale}
use Rattle.float.proofs.Floor.{Floor, floor_size, square_lt}
use Rattle.float.proofs.RootedScale.{kept, dropped}
use Rattle.float.proofs.Rooted.{middle, side, rooted_def}
use Rattle.float.proofs.Zero.{zero_exponent}
use Rattle.float.proofs.Units.{in_units, fits_low}

-- ---- twice the whole root, and one more where it goes on
-- of N: 2 * r where r * r is N, otherwise 2 * r + 1
pub record Twice (N t : ℕ) : Type 0 where
  pub r : ℕ
  pub whole : Floor r N
  pub low : 2 * r ≤ t
  pub high : t ≤ 2 * r + 1
  pub even : r * r ≡ N → t ≡ 2 * r
  pub odd : (r * r ≡ N → ⊥) → t ≡ 2 * r + 1

twice : (N : ℕ) → Twice N (root_twice N)
unfolding root_twice
twice N = at (root_below (size N) N) (whole_part N) (eqb (root_below (size N) N * root_below (size N) N) N) refl where
  at : (r : ℕ) → Floor r N → (b : Bool) → eqb (r * r) N ≡ b → Twice N (2 * r + cond b 0 1)
  at r h true e =
      let q : r * r ≡ N = eqb→eq (r * r) N (subst T (sym e) tt) in
      record { r = r; whole = h; low = omega arith; high = omega arith; even = λ g. omega arith; odd = λ g. absurd (g q) }
  at r h false e = record { r = r; whole = h; low = omega arith; high = omega arith; even = λ g. absurd (differ g); odd = λ g. refl }
    where
      differ : r * r ≡ N → ⊥
      differ g = subst T (ap (λ (x : ℕ). eqb x N) (sym g) ∙ e) (eqb_refl N)

-- its quotient by 2 * p is the whole root of n where N is n * (p * p)
halved : (n p N t : ℕ) → 0 < p → N ≡ n * (p * p) → Twice N t → t / (2 * p) ≡ whole_root (size n) n
halved n p N t P e h =
    let w = whole_root (size n) n in
    let F = floor_size n in
    let lo : w * p * (w * p) ≤ N = subst (λ (x : ℕ). w * p * (w * p) ≤ x) (sym e) (subst (λ (x : ℕ). x ≤ n * (p * p)) (turn w p) (mul-le-mul_right (p * p) F.0)) in
    let hi : N < (w + 1) * p * ((w + 1) * p) = subst (λ (x : ℕ). x < (w + 1) * p * ((w + 1) * p)) (sym e) (subst (λ (x : ℕ). n * (p * p) < x) (turn (w + 1) p) (mul-lt-mul_of_pos_right F.1 (mul-pos P P))) in
    let above : w * p < h.r + 1 = square_lt (w * p) (h.r + 1) (lt_of_le_of_lt lo h.whole.1) in
    let below : h.r < (w + 1) * p = square_lt h.r ((w + 1) * p) (lt_of_le_of_lt h.whole.0 hi) in
    div-eq_of_lt-le (2 * p) (from w p h.r above h.low) (to w p h.r below h.high)
  where
    turn : (w p : ℕ) → w * w * (p * p) ≡ w * p * (w * p)
    turn w p = omega arith

    from : (w p r : ℕ) → w * p < r + 1 → 2 * r ≤ t → w * (2 * p) ≤ t
    from w p r g l = omega arith

    to : (w p r : ℕ) → r < (w + 1) * p → t ≤ 2 * r + 1 → t < (w + 1) * (2 * p)
    to w p r g l = omega arith

-- it lies as 2 * h as N does from h * h
seen : (N t h : ℕ) → Twice N t → compare t (2 * h) ≡ compare N (h * h)
seen N t h w = compare_is (compare N (h * h)) t (2 * h) (go (compare N (h * h)) (cmp N (h * h)))
  where
    go : (o : Ordering) → Cmp o N (h * h) → Cmp o t (2 * h)
    go Ordering.lt g = let l : w.r < h = square_lt w.r h (lt_of_le_of_lt w.whole.0 g) in omega (arith, w.high)
    go Ordering.eq g =
        let l : w.r < h + 1 = square_lt w.r (h + 1) (lt_of_le_of_lt w.whole.0 (subst (λ (x : ℕ). x < (h + 1) * (h + 1)) (sym g) (omega arith))) in
        let k : h < w.r + 1 = square_lt h (w.r + 1) (subst (λ (x : ℕ). x < (w.r + 1) * (w.r + 1)) g w.whole.1) in
        let e : w.r ≡ h = omega arith in
        omega (arith, w.even (ap (λ (x : ℕ). x * x) e ∙ sym g), e)
    go Ordering.gt g =
        let k : h < w.r + 1 = square_lt h (w.r + 1) (lt_trans g w.whole.1) in
        elim (eq-or-lt_of_le (down_one h w.r k)) [
          | inl e ↦ omega (arith, w.odd (λ (q : w.r * w.r ≡ N). lt_irrefl N (subst (λ (x : ℕ). x < N) (ap (λ (x : ℕ). x * x) e ∙ q) g)), e)
          | inr l ↦ omega (arith, w.low, l)
        ]
      where
        down_one : (h r : ℕ) → h < r + 1 → h ≤ r
        down_one h r k = omega arith

-- ---- `round` rounds it as `rooted` does: with c = 2 ^ low f, and in 4 * p * c-ths
module _ (f : Format) (n p d N t : ℕ) (P : 0 < p) (D : d ≡ 4 * p * 2 ^ low f) (e : N ≡ n * (4 * (p * p))) (h : Twice N t) where
  c : ℕ
  c = 2 ^ low f

  quotient : t * c / d ≡ whole_root (size n) n
  unfolding c
  quotient =
      ap (λ (x : ℕ). t * c / x) D
      ∙ mul-div-mul_right t (4 * p) (pow_pos (low f))
      ∙ ap (λ (x : ℕ). t / x) (four p)
      ∙ halved n (2 * p) N t (mul-pos two P) (e ∙ ap (λ (x : ℕ). n * x) (squared p)) h
    where
      four : (p : ℕ) → 4 * p ≡ 2 * (2 * p)
      four p = omega arith

      two : 0 < 2
      two = omega arith

      squared : (p : ℕ) → 4 * (p * p) ≡ 2 * p * (2 * p)
      squared p = omega arith

  u : ℕ
  u = d * 2 ^ dropped f n

  digits : t * c / u ≡ kept f n
  unfolding u
  digits = sym (div-div-eq-div-mul (t * c) d (2 ^ dropped f n)) ∙ ap (λ (x : ℕ). x / 2 ^ dropped f n) quotient

  remainder : compare (t * c % u * 2) u ≡ compare (2 * (t * c)) ((2 * kept f n + 1) * u)
  remainder = sym (compare_is (compare (t * c % u * 2) u) (2 * (t * c)) ((2 * kept f n + 1) * u) (go (compare (t * c % u * 2) u) (cmp (t * c % u * 2) u)))
    where
      whole : u * kept f n + t * c % u ≡ t * c
      whole = ap (λ (x : ℕ). u * x + t * c % u) (sym digits) ∙ div-add-mod (t * c) u

      go : (o : Ordering) → Cmp o (t * c % u * 2) u → Cmp o (2 * (t * c)) ((2 * kept f n + 1) * u)
      go Ordering.lt g = omega (arith, whole)
      go Ordering.eq g = omega (arith, whole)
      go Ordering.gt g = omega (arith, whole)

  sides : compare (t * c % u * 2) u ≡ side n (kept f n) (dropped f n)
  unfolding c u
  sides =
      let m = middle (kept f n) (dropped f n) in
      remainder
      ∙ ap (λ (x : ℕ). compare (2 * (t * c)) ((2 * kept f n + 1) * (x * 2 ^ dropped f n))) D
      ∙ ap (λ (x : ℕ). compare x ((2 * kept f n + 1) * (4 * p * c * 2 ^ dropped f n))) (out t c)
      ∙ ap (compare (t * (2 * c))) (outs (2 * kept f n + 1) p c (2 ^ dropped f n))
      ∙ compare_scale t (2 * (m * p)) (2 * c) (mul-pos two (pow_pos (low f)))
      ∙ seen N t (m * p) h
      ∙ ap (λ (x : ℕ). compare x (m * p * (m * p))) (e ∙ fours n (p * p))
      ∙ ap (compare (4 * n * (p * p))) (square m p)
      ∙ compare_scale (4 * n) (m * m) (p * p) (mul-pos P P)
    where
      two : 0 < 2
      two = omega arith

      out : (t c : ℕ) → 2 * (t * c) ≡ t * (2 * c)
      out t c = omega arith

      outs : (q p c k : ℕ) → q * (4 * p * c * k) ≡ 2 * (q * k * p) * (2 * c)
      outs q p c k = omega arith

      fours : (n c : ℕ) → n * (4 * c) ≡ 4 * n * c
      fours n c = omega arith

      square : (m p : ℕ) → m * p * (m * p) ≡ m * m * (p * p)
      square m p = omega arith

  pub rounded_is : round f false t d ≡ rooted f n
  unfolding round c u
  rounded_is =
      ap (λ (w : ℕ). let k = size w - prec f in let v = d * 2 ^ k in units f false (nearest (t * c / v) (compare (t * c % v * 2) v)) k) quotient
      ∙ ap (λ (q : ℕ). units f false (nearest q (compare (t * c % u * 2) u)) (dropped f n)) digits
      ∙ ap (λ (o : Ordering). units f false (nearest (kept f n) o) (dropped f n)) sides
      ∙ sym (rooted_def f n)

-- ---- the root
scaled : (x a d l k : ℕ) → 0 < d → x * l ≡ a * d → x * (l * k) / d ≡ a * k
scaled x a d l k D e = ap (λ (y : ℕ). y / d) (sym (mul_assoc x l k) ∙ ap (λ (y : ℕ). y * k) e ∙ turn a d k) ∙ mul-div_cancel (a * k) D
  where
    turn : (a d k : ℕ) → a * d * k ≡ a * k * d
    turn a d k = omega arith

positive : (m : ℕ) (e : ℤ) → T (fits binary64 (fin false (suc m) e)) → sqrt binary64 (fin false (suc m) e) ≡ root binary64 (fin false (suc m) e)
unfolding sqrt root
positive m e h =
    let x = suc m * up e in
    let v = in_units binary64 (suc m) e (zero-lt-suc m) (fits_low binary64 false m e h) in
    let N : x * 2 ^ 4542 / down e ≡ v.a * 2 ^ 3468 = scaled x v.a (down e) (2 ^ 1074) (2 ^ 3468) (down_pos e) v.is in
    let n : x * 2 ^ 2148 / down e ≡ v.a * 2 ^ 1074 = scaled x v.a (down e) (2 ^ 1074) (2 ^ 1074) (down_pos e) v.is in
    rounded_is binary64 (x * 2 ^ 2148 / down e) (2 ^ 1196) (2 ^ 2272) (x * 2 ^ 4542 / down e) _ (pow_pos 1196) refl (N ∙ sym (mul_assoc v.a (2 ^ 1074) (4 * (2 ^ 1196 * 2 ^ 1196))) ∙ ap (λ (y : ℕ). y * (4 * (2 ^ 1196 * 2 ^ 1196))) (sym n)) (twice _)

pub sqrt_is_root : (x : Float) → T (fits binary64 x) → sqrt binary64 x ≡ root binary64 x
unfolding sqrt root
sqrt_is_root nan h = refl
sqrt_is_root (inf true) h = refl
sqrt_is_root (inf false) h = refl
sqrt_is_root (fin s zero e) h = ap (fin s 0) (zero_exponent binary64 s e h)
sqrt_is_root (fin true (suc m) e) h = refl
sqrt_is_root (fin false (suc m) e) h = positive m e h
