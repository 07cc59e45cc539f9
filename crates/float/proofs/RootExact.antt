-- The root of a whole number's square is that number. And where the root of a whole number below 4 ^ h is rounded to a whole number R, it is R, for a format of more than 2 h digits: half a unit is less than what a difference of 1 under the root makes.
use mathlib.Core.Path.{◌≡◌, refl, sym, ap, ◌∙◌}
use Prim.Native.Nat.{ℕ, zero, suc, ◌+◌, ◌-◌, ◌*◌, ◌/◌, ◌%◌, ◌^◌, ◌≤◌, ◌<◌, Ordering}
use native.Mathlib.Nat.{le_antisymm, lt_of_not-le, lt_of_lt_of_le, lt_of_le_of_lt, mul_assoc, mul-pos, mul-le-mul, mul-le-mul_left, mul-le-mul_right, mul-lt-mul_of_pos_right, le_of_mul-le-mul_right, lt_of_mul-lt-mul_right, eq_of_mul-eq-mul_right, mul-div_cancel, mod-lt, zero-lt-suc, mul_comm, pow-suc}
use native.Mathlib.Omega.{arith}
use mathlib.Core.Bool.{Bool, true, false, cond}
use lib.Dec.{ltb, lit≤}
use lib.Pow.{pow-add, pow_pos, pow_mono, shl_lt}
use lib.Ieee.{Float, nan, inf, fin, Format, binary32, binary64, prec, emax, low, up, down, size, nearest, odd, units}
use lib.Ieee.Digits.{size-le, back}
use lib.Ieee.Exact.{HasValue, odd_sign, units_val}
use lib.Ieee.Fits.{down_pos}
use Rattle.float.specs.Root.{root, rooted, whole_root}
use Rattle.float.proofs.Comparing.{Cmp, cmp, compare_is}
use Rattle.float.proofs.Floor.{floor_size, square_lt}
use Rattle.float.proofs.Rooted.{middle, side, picked, rooted_def}
use Rattle.float.proofs.RootedScale.{dropped, kept, between_own}
use Rattle.float.proofs.RootValue.{root_value}

-- ---- one value as two fractions
in_units : (x : Float) (s : Bool) (a c : ℕ) → HasValue x s a 1 → HasValue x s (a * c) c
in_units nan s a c v = v
in_units (inf t) s a c v = v
in_units (fin t m e) s a c v = (v.0, turn (m * up e) a (down e) c v.1)
  where
    turn : (x a d c : ℕ) → x * 1 ≡ a * d → x * c ≡ a * c * d
    turn x a d c h = omega (arith, ap (λ (y : ℕ). y * c) h)

of_units : (x : Float) (s : Bool) (a c : ℕ) → 0 < c → HasValue x s (a * c) c → HasValue x s a 1
of_units nan s a c C v = v
of_units (inf t) s a c C v = v
of_units (fin t m e) s a c C v = (v.0, eq_of_mul-eq-mul_right c C (m * up e * 1) (a * down e) (turn (m * up e) a (down e) c v.1))
  where
    turn : (x a d c : ℕ) → x * c ≡ a * c * d → x * 1 * c ≡ a * d * c
    turn x a d c h = omega arith

one_value : (x : Float) (s t : Bool) (a c b : ℕ) → HasValue x s a c → HasValue x t b 1 → (s ≡ t) × (a ≡ b * c)
one_value nan s t a c b v w = absurd v
one_value (inf u) s t a c b v w = absurd v
one_value (fin u m e) s t a c b v w = (sym v.0 ∙ w.0, eq_of_mul-eq-mul_right (down e) (down_pos e) a (b * c) (turn (m * up e) a b c (down e) v.1 w.1))
  where
    turn : (x a b c d : ℕ) → x * c ≡ a * d → x * 1 ≡ b * d → a * d ≡ b * c * d
    turn x a b c d h g = omega (arith, ap (λ (y : ℕ). y * c) g)

-- ---- the root of a square
wide : (f : Format) → prec f + low f ≤ low f + suc (emax f)
wide binary32 = lit≤ tt
wide binary64 = lit≤ tt

whole_root_lem : (W : ℕ) → whole_root (size (W * W)) (W * W) ≡ W
whole_root_lem W =
    let w = whole_root (size (W * W)) (W * W) in
    let b = floor_size (W * W) in
    le_antisymm (under w W (square_lt w (W + 1) (more (w * w) W b.0))) (under W w (square_lt W (w + 1) b.1))
  where
    under : (a b : ℕ) → a < b + 1 → a ≤ b
    under a b h = omega arith

    more : (x W : ℕ) → x ≤ W * W → x < (W + 1) * (W + 1)
    more x W h = omega arith

-- the middle lies above it, so it is not rounded up
below_middle : (q K : ℕ) → 0 < K → 4 * (q * K * (q * K)) < (2 * q + 1) * K * ((2 * q + 1) * K)
below_middle q K h = omega (arith, mul-pos h h)

rooted_square : (f : Format) (q k : ℕ) → size (q * 2 ^ k) - prec f ≡ k → rooted f (q * 2 ^ k * (q * 2 ^ k)) ≡ units f false q k
rooted_square f q k e =
    let W = q * 2 ^ k in
    rooted_def f (W * W)
    ∙ ap (λ (w : ℕ). picked f (W * W) (w / 2 ^ (size w - prec f)) (size w - prec f)) (whole_root_lem W)
    ∙ ap (λ (j : ℕ). picked f (W * W) (W / 2 ^ j) j) e
    ∙ ap (λ (x : ℕ). picked f (W * W) x k) (mul-div_cancel q (pow_pos k))
    ∙ ap (λ (o : Ordering). units f false (nearest q o) k) (compare_is Ordering.lt (4 * (W * W)) (middle q k * middle q k) (below_middle q (2 ^ k) (pow_pos k)))

pub root_square : (f : Format) (x : Float) (r : ℕ) → 0 < r → r < 2 ^ prec f → HasValue x false (r * r) 1 → HasValue (root f x) false r 1
root_square f x r P h v =
    let l = low f in
    let L = 2 ^ l in
    let k = size (r * L) - prec f in
    let q = r * 2 ^ (l - k) in
    let le : k ≤ l = spare (size (r * L)) (prec f) l (size-le (r * L) (prec f + l) (shl_lt (prec f) l h)) in
    let e : q * 2 ^ k ≡ r * L = mul_assoc r (2 ^ (l - k)) (2 ^ k) ∙ ap (λ (y : ℕ). r * y) (sym (pow-add 2 (l - k) k) ∙ ap (λ (y : ℕ). 2 ^ y) (back l k le)) in
    let is : root f x ≡ units f false q k =
    root_value f x (r * r * L) (mul-pos (mul-pos P P) (pow_pos l)) (in_units x false (r * r) L v)
    ∙ ap (rooted f) (square r L)
    ∙ ap (λ (y : ℕ). rooted f (y * y)) (sym e)
    ∙ rooted_square f q k (ap (λ (y : ℕ). size y - prec f) e) in
    of_units (root f x) false r L (pow_pos l) (rw is (rw e at (units_val f false q k (rw e (lt_of_lt_of_le (shl_lt (prec f) l h) (pow_mono (wide f)))))))
  where
    spare : (z p l : ℕ) → z ≤ p + l → z - p ≤ l
    spare z p l h = omega arith

    square : (r L : ℕ) → r * r * L * L ≡ r * L * (r * L)
    square r L = omega arith

-- ---- a root that is rounded to a whole number
-- N is n in squared units, M the middle; 2 H units are 1 at most
module _ (n R K L H N M : ℕ) (is : N ≡ n * L * L) (some : 0 < L) (small : n < H * H) (unit : 2 * H * K ≤ L) where
  short : 4 * (L * L) ≤ 4 * (H * L * K) + K * K → 1 ≤ H → ⊥
  short h one =
      let a : 2 * (H * L * K) ≤ L * L = omega (arith, mul-le-mul_left L unit) in
      let b : K ≤ L = omega (arith, mul-le-mul_right K one) in
      omega (arith, mul-le-mul b b, mul-pos some some)

  high : 1 ≤ H
  high = go H small
    where
      go : (H : ℕ) → n < H * H → 1 ≤ H
      go zero h = absurd (omega arith)
      go (suc H) h = zero-lt-suc H

  -- not rounded up
  kept_exact : R * L * (R * L) ≤ N → M ≡ 2 * (R * L) + K → 4 * N ≤ M * M → R * R ≡ n
  kept_exact lo m hi = le_antisymm least (under (lt_of_not-le most))
    where
      least : R * R ≤ n
      least = let h : R * R * (L * L) ≤ n * (L * L) = omega arith in le_of_mul-le-mul_right h (mul-pos some some)

      under : n < suc (R * R) → n ≤ R * R
      under h = omega arith

      most : suc (R * R) ≤ n → ⊥
      most h =
          let r : R < H = square_lt R H (omega arith) in
          let a : R * L * K ≤ H * L * K = mul-le-mul_right K (mul-le-mul_right L (omega arith)) in
          let b : (R * R + 1) * (L * L) ≤ n * (L * L) = mul-le-mul_right (L * L) (omega arith) in
          let c : 4 * N ≤ (2 * (R * L) + K) * (2 * (R * L) + K) = rw (← m) hi in
          short (omega arith) high

  -- rounded up: that cannot be
  up_none : N < R * L * (R * L) → M + K ≡ 2 * (R * L) → M * M ≤ 4 * N → ⊥
  up_none hi m lo =
      let p : n * (L * L) < R * R * (L * L) = omega arith in
      let r : n < R * R = lt_of_mul-lt-mul_right (L * L) p in
      let b : (n + 1) * (L * L) ≤ R * R * (L * L) = mul-le-mul_right (L * L) (omega arith) in
      let s : n * (L * L) < H * H * (L * L) = mul-lt-mul_of_pos_right small (mul-pos some some) in
      let t : M < 2 * H * L = square_lt M (2 * H * L) (omega arith) in
      let u : M * K ≤ 2 * H * L * K = mul-le-mul_right K (omega arith) in
      let c : (M + K) * (M + K) ≡ 2 * (R * L) * (2 * (R * L)) = ap (λ (y : ℕ). y * y) m in
      short (omega arith) high

at_side : (n R q K L H : ℕ) (o : Ordering) → 0 < L → n < H * H → 2 * H * K ≤ L → q * K * (q * K) ≤ n * L * L → n * L * L < (q + 1) * K * ((q + 1) * K)
    → Cmp o (4 * (n * L * L)) ((2 * q + 1) * K * ((2 * q + 1) * K)) → nearest q o * K ≡ R * L → R * R ≡ n
at_side n R q K L H o some small unit lo hi c v = go o c v
  where
    same : (x y : ℕ) → x ≡ y → x * x ≡ y * y
    same x y e = ap (λ (z : ℕ). z * z) e

    stays : q * K ≡ R * L → 4 * (n * L * L) ≤ (2 * q + 1) * K * ((2 * q + 1) * K) → R * R ≡ n
    stays e m = kept_exact n R K L H (n * L * L) ((2 * q + 1) * K) refl some small unit (rw e at lo) (omega arith) m

    rises : suc q * K ≡ R * L → (2 * q + 1) * K * ((2 * q + 1) * K) ≤ 4 * (n * L * L) → R * R ≡ n
    rises e m = absurd (up_none n R K L H (n * L * L) ((2 * q + 1) * K) refl some small unit (omega (arith, same (suc q * K) (R * L) e)) (omega arith) m)

    tie : (b : ℕ) → b < 2 → (q + b) * K ≡ R * L → 4 * (n * L * L) ≡ (2 * q + 1) * K * ((2 * q + 1) * K) → R * R ≡ n
    tie zero h e m = stays (omega arith) (omega arith)
    tie (suc zero) h e m = rises (omega arith) (omega arith)
    tie (suc (suc b)) h e m = absurd (omega arith)

    go : (o : Ordering) → Cmp o (4 * (n * L * L)) ((2 * q + 1) * K * ((2 * q + 1) * K)) → nearest q o * K ≡ R * L → R * R ≡ n
    go Ordering.lt c v = stays v (omega arith)
    go Ordering.eq c v = tie (q % 2) (mod-lt q (zero-lt-suc 1)) v c
    go Ordering.gt c v = rises v (omega arith)

-- the value of what `units` makes
units_of : (f : Format) (q k : ℕ) (s : Bool) (R : ℕ) → HasValue (units f false q k) s R 1 → (false ≡ s) × (q * 2 ^ k ≡ R * 2 ^ low f)
unfolding units
units_of f q k s R v = go (ltb (q * 2 ^ k) (2 ^ (low f + suc (emax f)))) v
  where
    go : (b : Bool) → HasValue (cond b (odd (suc (prec f)) false q k (low f)) (inf false)) s R 1 → (false ≡ s) × (q * 2 ^ k ≡ R * 2 ^ low f)
    go true v = one_value (odd (suc (prec f)) false q k (low f)) false s (q * 2 ^ k) (2 ^ low f) R (odd_sign (suc (prec f)) false q k (low f)) v
    go false v = absurd v

pub root_rounded : (f : Format) (h : ℕ) → 2 * h < prec f → prec f ≤ low f → (x : Float) (n : ℕ) (s : Bool) (R : ℕ) → 0 < n → n < 2 ^ h * 2 ^ h → HasValue x false n 1 → HasValue (root f x) s R 1 → (false ≡ s) × (R * R ≡ n)
root_rounded f h few deep x n s R P small v w =
    let l = low f in
    let L = 2 ^ l in
    let N = n * L * L in
    let r = whole_root (size N) N in
    let k = dropped f N in
    let q = kept f N in
    let b = between_own f N in
    let z : r < 2 ^ (h + l) = rw (pow-add 2 h l) (square_lt r (2 ^ h * L) (lt_of_le_of_lt (floor_size N).0 (beyond n (2 ^ h) L small (pow_pos l)))) in
    let d : suc h + k ≤ l = spare (size r) (prec f) h l (size-le r (h + l) z) few deep in
    let unit : 2 ^ suc h * 2 ^ k ≤ L = rw (← pow-add 2 (suc h) k) (pow_mono d) in
    let y = units_of f (nearest q (side N q k)) k s R (rw (root_value f x (n * L) (mul-pos P (pow_pos l)) (in_units x false n L v) ∙ rooted_def f N) at w) in
    (y.0, at_side n R q (2 ^ k) L (2 ^ h) (side N q k) (pow_pos l) small (rw (pow-suc 2 h, mul_comm (2 ^ h) 2) at unit) b.0 b.1 (cmp (4 * N) (middle q k * middle q k)) y.1)
  where
    beyond : (n H L : ℕ) → n < H * H → 0 < L → n * L * L < H * L * (H * L)
    beyond n H L h p = omega (arith, mul-lt-mul_of_pos_right h (mul-pos p p))

    spare : (z p h l : ℕ) → z ≤ h + l → 2 * h < p → p ≤ l → suc h + (z - p) ≤ l
    spare z p h l a b c = omega arith
