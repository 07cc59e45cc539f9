-- A root lies where rounded squares say: what has a square below x is no larger than √x, and what has one above is no smaller. Over the digits that `rooted` keeps. Assumes nothing.
use mathlib.Core.Path.{◌≡◌, refl, sym, ap, ◌∙◌, subst}
use Prim.Native.Nat.{ℕ, suc, ◌+◌, ◌-◌, ◌*◌, ◌^◌, ◌≤◌, ◌<◌, Ordering}
use native.Mathlib.Nat.{le_trans, le_of_eq, lt_of_le_of_lt, lt_of_lt_of_le, not-le_of_lt, le_of_lt, mul-le-mul_right, mul-lt-mul_of_pos_right, le_of_mul-le-mul_right, lt_of_mul-lt-mul_right, mul_assoc, mul-pos, mul-mul-mul_comm, zero-lt-suc}
use native.Mathlib.Omega.{arith}
use mathlib.Core.Bool.{Bool, true, false, not, ◌&&◌, ◌||◌}
use lib.Dec.{T, leb, ltb, eqb, leb→le, nleb→lt, ltb→lt, eqb→eq}
use lib.IntN.{ℤ}
use lib.Pow.{pow-add, pow_pos, pow_mono}
use lib.Ieee.{Float, nan, inf, fin, Format, prec, emax, low, up, down, nearest, fits, round, mul, below, level, lt, le}
use lib.Ieee.Digits.{back}
use lib.Ieee.Exact.{HasValue, units_val, round_exact}
use lib.Ieee.Fits.{down_pos, two, round-fits}
use lib.Ieee.Nearest.{nearest-ge}
use lib.Ieee.Order.{transfer, le_of_values, round_mono}
use borrow.Author.Tests.{ltb-true}
use Rattle.float.specs.Root.{root}
use Rattle.float.proofs.Comparing.{Cmp, cmp}
use Rattle.float.proofs.Floor.{square_lt}
use Rattle.float.proofs.Rooted.{middle, side, Between, rooted_def}
use Rattle.float.proofs.RootedScale.{dropped, kept, between_own, kept_low}
use Rattle.float.proofs.RootScale.{normal, under, pos_of}
use Rattle.float.proofs.RootValue.{root_value}
use Rattle.float.proofs.Units.{in_units, fits_few, fits_low, fits_high, units_lt, unique}

-- ---- no larger and above exclude each other
no : {A : Type 0} → false ≡ true → A
no h = absurd (subst T (sym h) tt)

pub at_most : (a b : ℕ) → T (ltb a b || (eqb a b && true)) → a ≤ b
at_most a b h = go (ltb a b) (eqb a b) (ltb→lt a b) (eqb→eq a b) h
  where
    go : (x y : Bool) → (T x → a < b) → (T y → a ≡ b) → T (x || (y && true)) → a ≤ b
    go true y p q t = le_of_lt (p tt)
    go false true p q t = le_of_eq (q tt)
    go false false p q t = absurd t

both_zero : (a b : ℕ) → T (eqb a b && eqb a 0) → 0 < b + a → ⊥
both_zero a b h k = go (eqb a b) (eqb a 0) (eqb→eq a b) (eqb→eq a 0) h
  where
    go : (x y : Bool) → (T x → a ≡ b) → (T y → a ≡ 0) → T (x && y) → ⊥
    go true true p q t = omega (arith, p tt, q tt)
    go true false p q t = t
    go false y p q t = t

not_both : (s t : Bool) (a b : ℕ) → T (below s a t b || level s a t b) → below t b s a ≡ true → ⊥
not_both false false a b h k = omega (arith, at_most a b h, ltb-true b a k)
not_both false true a b h k = both_zero a b h (ltb-true 0 (b + a) k)
not_both true false a b h k = no k
not_both true true a b h k = omega (arith, at_most' a b h, ltb-true a b k)
  where
    at_most' : (a b : ℕ) → T (ltb b a || (eqb a b && true)) → b ≤ a
    at_most' a b h = go (ltb b a) (eqb a b) (ltb→lt b a) (eqb→eq a b) h
      where
        go : (x y : Bool) → (T x → b < a) → (T y → a ≡ b) → T (x || (y && true)) → b ≤ a
        go true y p q t = le_of_lt (p tt)
        go false true p q t = le_of_eq (sym (q tt))
        go false false p q t = absurd t

pub le_not_lt : (x y : Float) → T (le x y) → lt y x ≡ true → ⊥
unfolding le lt
le_not_lt nan y h k = h
le_not_lt (inf s) nan h k = h
le_not_lt (inf true) (inf true) h k = no k
le_not_lt (inf true) (inf false) h k = no k
le_not_lt (inf false) (inf true) h k = h
le_not_lt (inf false) (inf false) h k = no k
le_not_lt (inf true) (fin t n d) h k = no k
le_not_lt (inf false) (fin t n d) h k = h
le_not_lt (fin s m e) nan h k = h
le_not_lt (fin s m e) (inf true) h k = h
le_not_lt (fin s m e) (inf false) h k = no k
le_not_lt (fin s m e) (fin t n d) h k = not_both s t (m * up e * down d) (n * up d * down e) h k

-- ---- a number of few digits, m * 2 ^ j, beside the digits q * 2 ^ k that are kept of √n
square_le : (a b : ℕ) → a * a ≤ b * b → a ≤ b
square_le a b h = omega (arith, square_lt a (b + 1) (more (a * a) b h))
  where
    more : (x b : ℕ) → x ≤ b * b → x < (b + 1) * (b + 1)
    more x b h = omega arith

moved : (m j k : ℕ) → k ≤ j → m * 2 ^ j ≡ m * 2 ^ (j - k) * 2 ^ k
moved m j k h = ap (λ (x : ℕ). m * 2 ^ x) (sym (back j k h)) ∙ ap (λ (x : ℕ). m * x) (pow-add 2 (j - k) k) ∙ sym (mul_assoc m (2 ^ (j - k)) (2 ^ k))

room : (p j k : ℕ) → 2 ≤ p → j < k → p + j ≤ p - 1 + k
room p j k h l = omega arith

short : (p m j q k : ℕ) → 2 ≤ p → m < 2 ^ p → 2 ^ (p - 1) ≤ q → j < k → m * 2 ^ j < q * 2 ^ k
short p m j q k P M Q h =
    lt_of_lt_of_le (mul-lt-mul_of_pos_right M (pow_pos j))
    (le_trans (le_of_eq (sym (pow-add 2 p j)))
    (le_trans (pow_mono (room p j k P h))
    (le_trans (le_of_eq (pow-add 2 (p - 1) k)) (mul-le-mul_right (2 ^ k) Q))))

module _ (p m j n q k : ℕ) (P : 2 ≤ p) (M : m < 2 ^ p) (Q : 2 ^ (p - 1) ≤ q) (b : Between n q k) where
  a : ℕ
  a = m * 2 ^ j

  kept_above : a * a ≤ n → m * 2 ^ j ≤ q * 2 ^ k
  unfolding a
  kept_above h = go (leb k j) (leb→le k j) (nleb→lt k j)
    where
      fits_in : (c : ℕ) → c * 2 ^ k < (q + 1) * 2 ^ k → c * 2 ^ k ≤ q * 2 ^ k
      fits_in c l = mul-le-mul_right (2 ^ k) (omega (arith, lt_of_mul-lt-mul_right (2 ^ k) l))

      go : (t : Bool) → (T t → k ≤ j) → (T (not t) → j < k) → m * 2 ^ j ≤ q * 2 ^ k
      go true y x =
          let e = moved m j k (y tt) in
          subst (λ (z : ℕ). z ≤ q * 2 ^ k) (sym e) (fits_in (m * 2 ^ (j - k)) (subst (λ (z : ℕ). z < (q + 1) * 2 ^ k) e (square_lt (m * 2 ^ j) ((q + 1) * 2 ^ k) (lt_of_le_of_lt h b.1))))
      go false y x = le_of_lt (short p m j q k P M Q (x tt))

  -- from the middle up, the next
  next : (c : ℕ) → middle q k * middle q k ≤ 4 * n → n ≤ c * 2 ^ k * (c * 2 ^ k) → q + 1 ≤ c
  next c h l = omega (arith, le_of_mul-le-mul_right (twice (square_le (middle q k) (2 * (c * 2 ^ k)) (le_trans h (four n (c * 2 ^ k) l)))) (pow_pos k))
    where
      four : (n x : ℕ) → n ≤ x * x → 4 * n ≤ 2 * x * (2 * x)
      four n x h = omega arith

      twice : (2 * q + 1) * 2 ^ k ≤ 2 * (c * 2 ^ k) → (2 * q + 1) * 2 ^ k ≤ 2 * c * 2 ^ k
      twice h = le_trans h (le_of_eq (sym (mul_assoc 2 c (2 ^ k))))

  nearest_under : n ≤ a * a → nearest q (side n q k) * 2 ^ k ≤ m * 2 ^ j
  unfolding a
  nearest_under h = go (leb k j) (leb→le k j) (nleb→lt k j)
    where
      base : q * 2 ^ k ≤ m * 2 ^ j
      base = square_le (q * 2 ^ k) (m * 2 ^ j) (le_trans b.0 h)

      pick : (c : ℕ) (o : Ordering) → Cmp o (4 * n) (middle q k * middle q k) → n ≤ c * 2 ^ k * (c * 2 ^ k) → q ≤ c → nearest q o ≤ c
      pick c Ordering.lt x l z = z
      pick c Ordering.eq x l z = omega (arith, next c (le_of_eq (sym x)) l)
      pick c Ordering.gt x l z = omega (arith, next c (le_of_lt x) l)

      go : (t : Bool) → (T t → k ≤ j) → (T (not t) → j < k) → nearest q (side n q k) * 2 ^ k ≤ m * 2 ^ j
      go true y x =
          let e = moved m j k (y tt) in
          let c = m * 2 ^ (j - k) in
          subst (λ (z : ℕ). nearest q (side n q k) * 2 ^ k ≤ z) (sym e)
          (mul-le-mul_right (2 ^ k)
          (pick c (side n q k) (cmp (4 * n) (middle q k * middle q k)) (subst (λ (z : ℕ). n ≤ z * z) e h) (le_of_mul-le-mul_right (subst (λ (z : ℕ). q * 2 ^ k ≤ z) e base) (pow_pos k))))
      go false y x = absurd (not-le_of_lt (short p m j q k P M Q (x tt)) base)

-- ---- values of the format
-- one rounds to itself
own_round : (f : Format) (m : ℕ) (e : ℤ) → T (fits f (fin false (suc m) e)) → round f false (suc m * up e) (down e) ≡ fin false (suc m) e
own_round f m e h =
    let u = in_units f (suc m) e (zero-lt-suc m) (fits_low f false m e h) in
    unique f (round f false (suc m * up e) (down e)) (fin false (suc m) e) false (suc m * up e) (down e) (down_pos e) (round-fits f false (suc m * up e) (down e)) h
    (round_exact f false (suc m * up e) (down e) (suc m) u.j (down_pos e) (fits_few f false m e h)
    (subst (λ (x : ℕ). x < 2 ^ (low f + suc (emax f))) u.odd (units_lt f (suc m) e u.a u.is (fits_high f false m e h)))
    (u.is ∙ ap (λ (x : ℕ). x * down e) u.odd))
    (refl, refl)

square_is : (f : Format) (m : ℕ) (e : ℤ) → mul f (fin false m e) (fin false m e) ≡ round f false (m * up e * (m * up e)) (down e * down e)
unfolding mul
square_is f m e = refl

-- of x, a units of the format, and y, b units
module _ (f : Format) (m : ℕ) (e : ℤ) (n : ℕ) (d : ℤ) (X : T (fits f (fin false (suc m) e))) (Y : T (fits f (fin false (suc n) d))) (a b : ℕ) (v : suc m * up e * 2 ^ low f ≡ a * down e) (w : suc n * up d * 2 ^ low f ≡ b * down d) where
  squared : suc m * up e * (suc m * up e) * (2 ^ low f * 2 ^ low f) ≡ a * a * (down e * down e)
  squared = mul-mul-mul_comm (suc m * up e) (suc m * up e) (2 ^ low f) (2 ^ low f) ∙ ap (λ (x : ℕ). x * x) v ∙ mul-mul-mul_comm a (down e) a (down e)

  shift : (c s l : ℕ) → c * l ≤ s → c * (l * l) ≤ s * l
  shift c s l h = le_trans (le_of_eq (sym (mul_assoc c l l))) (mul-le-mul_right l h)

  shift_back : (c s l : ℕ) → s ≤ c * l → s * l ≤ c * (l * l)
  shift_back c s l h = le_trans (mul-le-mul_right l h) (le_of_eq (mul_assoc c l l))

  square_above : b * 2 ^ low f ≤ a * a → T (le (fin false (suc n) d) (mul f (fin false (suc m) e) (fin false (suc m) e)))
  square_above h =
      subst (λ (z : Float). T (le z (mul f (fin false (suc m) e) (fin false (suc m) e)))) (own_round f n d Y)
      (subst (λ (z : Float). T (le (round f false (suc n * up d) (down d)) z)) (sym (square_is f (suc m) e))
      (round_mono f (suc n * up d) (down d) (suc m * up e * (suc m * up e)) (down e * down e) (down_pos d) (mul-pos (down_pos e) (down_pos e))
      (transfer (suc n * up d) (suc m * up e * (suc m * up e)) (down d) (down e * down e) b (a * a) (2 ^ low f) (2 ^ low f * 2 ^ low f) (pow_pos (low f)) (mul-pos (pow_pos (low f)) (pow_pos (low f))) w squared (shift b (a * a) (2 ^ low f) h))))

  square_below : a * a ≤ b * 2 ^ low f → T (le (mul f (fin false (suc m) e) (fin false (suc m) e)) (fin false (suc n) d))
  square_below h =
      subst (λ (z : Float). T (le (mul f (fin false (suc m) e) (fin false (suc m) e)) z)) (own_round f n d Y)
      (subst (λ (z : Float). T (le z (round f false (suc n * up d) (down d)))) (sym (square_is f (suc m) e))
      (round_mono f (suc m * up e * (suc m * up e)) (down e * down e) (suc n * up d) (down d) (mul-pos (down_pos e) (down_pos e)) (down_pos d)
      (transfer (suc m * up e * (suc m * up e)) (suc n * up d) (down e * down e) (down d) (a * a) b (2 ^ low f * 2 ^ low f) (2 ^ low f) (mul-pos (pow_pos (low f)) (pow_pos (low f))) (pow_pos (low f)) squared w (shift_back b (a * a) (2 ^ low f) h))))

  less : lt (mul f (fin false (suc m) e) (fin false (suc m) e)) (fin false (suc n) d) ≡ true → a * a ≤ b * 2 ^ low f
  less h = go (leb (a * a) (b * 2 ^ low f)) (leb→le (a * a) (b * 2 ^ low f)) (nleb→lt (a * a) (b * 2 ^ low f))
    where
      go : (t : Bool) → (T t → a * a ≤ b * 2 ^ low f) → (T (not t) → b * 2 ^ low f < a * a) → a * a ≤ b * 2 ^ low f
      go true y x = y tt
      go false y x = absurd (le_not_lt (fin false (suc n) d) (mul f (fin false (suc m) e) (fin false (suc m) e)) (square_above (le_of_lt (x tt))) h)

  more : lt (fin false (suc n) d) (mul f (fin false (suc m) e) (fin false (suc m) e)) ≡ true → b * 2 ^ low f ≤ a * a
  more h = go (leb (b * 2 ^ low f) (a * a)) (leb→le (b * 2 ^ low f) (a * a)) (nleb→lt (b * 2 ^ low f) (a * a))
    where
      go : (t : Bool) → (T t → b * 2 ^ low f ≤ a * a) → (T (not t) → a * a < b * 2 ^ low f) → b * 2 ^ low f ≤ a * a
      go true y x = y tt
      go false y x = absurd (le_not_lt (mul f (fin false (suc m) e) (fin false (suc m) e)) (fin false (suc n) d) (square_below (le_of_lt (x tt))) h)

-- ---- the root of y, b units, has a value of the format's
pub root_digits : (f : Format) (n : ℕ) (d : ℤ) (b : ℕ) → 0 < b → suc n * up d * 2 ^ low f ≡ b * down d → T (fits f (fin false (suc n) d))
    → HasValue (root f (fin false (suc n) d)) false (nearest (kept f (b * 2 ^ low f)) (side (b * 2 ^ low f) (kept f (b * 2 ^ low f)) (dropped f (b * 2 ^ low f))) * 2 ^ dropped f (b * 2 ^ low f)) (2 ^ low f)
root_digits f n d b B w Y =
    let l = low f in
    let z = b * 2 ^ l in
    let q = kept f z in
    let k = dropped f z in
    let o = side z q k in
    let hi : z < 2 ^ (l + suc (emax f) + l) = lt_of_lt_of_le (mul-lt-mul_of_pos_right (units_lt f (suc n) d b w (fits_high f false n d Y)) (pow_pos l)) (le_of_eq (sym (pow-add 2 (l + suc (emax f)) l))) in
    subst (λ (x : Float). HasValue x false (nearest q o * 2 ^ k) (2 ^ l)) (sym (root_value f (fin false (suc n) d) b B (refl, w) ∙ rooted_def f z))
    (units_val f false (nearest q o) k (under f z q k o (pos_of (prec f) q (kept_low f z (normal f b B))) (between_own f z).0 hi))

module _ (f : Format) (m : ℕ) (e : ℤ) (n : ℕ) (d : ℤ) (X : T (fits f (fin false (suc m) e))) (Y : T (fits f (fin false (suc n) d))) where
  -- what has a square below y is no larger than the root of y
  pub root_above : lt (mul f (fin false (suc m) e) (fin false (suc m) e)) (fin false (suc n) d) ≡ true → T (le (fin false (suc m) e) (root f (fin false (suc n) d)))
  unfolding a
  root_above h =
      let u = in_units f (suc m) e (zero-lt-suc m) (fits_low f false m e X) in
      let v = in_units f (suc n) d (zero-lt-suc n) (fits_low f false n d Y) in
      let z = v.a * 2 ^ low f in
      let q = kept f z in
      let k = dropped f z in
      let s : u.a * u.a ≤ z = less f m e n d X Y u.a v.a u.is v.is h in
      let g : suc m * 2 ^ u.j ≤ q * 2 ^ k = kept_above (prec f) (suc m) u.j z q k (two f) (fits_few f false m e X) (kept_low f z (normal f v.a v.some)) (between_own f z) (subst (λ (x : ℕ). x * x ≤ z) u.odd s) in
      le_of_values (fin false (suc m) e) (root f (fin false (suc n) d)) u.a (2 ^ low f) (nearest q (side z q k) * 2 ^ k) (2 ^ low f) (pow_pos (low f)) (pow_pos (low f)) (refl, u.is) (root_digits f n d v.a v.some v.is Y)
      (mul-le-mul_right (2 ^ low f) (subst (λ (x : ℕ). x ≤ nearest q (side z q k) * 2 ^ k) (sym u.odd) (le_trans g (mul-le-mul_right (2 ^ k) (nearest-ge q (side z q k))))))

  -- what has a square above y is no smaller
  pub root_below : lt (fin false (suc n) d) (mul f (fin false (suc m) e) (fin false (suc m) e)) ≡ true → T (le (root f (fin false (suc n) d)) (fin false (suc m) e))
  unfolding a
  root_below h =
      let u = in_units f (suc m) e (zero-lt-suc m) (fits_low f false m e X) in
      let v = in_units f (suc n) d (zero-lt-suc n) (fits_low f false n d Y) in
      let z = v.a * 2 ^ low f in
      let q = kept f z in
      let k = dropped f z in
      let s : z ≤ u.a * u.a = more f m e n d X Y u.a v.a u.is v.is h in
      let g : nearest q (side z q k) * 2 ^ k ≤ suc m * 2 ^ u.j = nearest_under (prec f) (suc m) u.j z q k (two f) (fits_few f false m e X) (kept_low f z (normal f v.a v.some)) (between_own f z) (subst (λ (x : ℕ). z ≤ x * x) u.odd s) in
      le_of_values (root f (fin false (suc n) d)) (fin false (suc m) e) (nearest q (side z q k) * 2 ^ k) (2 ^ low f) u.a (2 ^ low f) (pow_pos (low f)) (pow_pos (low f)) (root_digits f n d v.a v.some v.is Y) (refl, u.is)
      (mul-le-mul_right (2 ^ low f) (subst (λ (x : ℕ). nearest q (side z q k) * 2 ^ k ≤ x) (sym u.odd) g))
