-- A fraction and 2 ^ t times it, both rounded into the range: the second float is the first with its exponent t more. Both fit the format, and by the library's `grid_scale` they have one value. Assumes nothing.
use mathlib.Core.Path.{◌≡◌, sym, ap, ◌∙◌, subst}
use Prim.Native.Nat.{ℕ, zero, suc, ◌*◌, ◌/◌, ◌%◌, ◌^◌, ◌≤◌, ◌<◌}
use native.Mathlib.Nat.{le_trans, le_of_eq, lt_of_lt_of_le, lt_of_le_of_lt, zero-mul, mul_comm, mul_assoc, mul_left_comm, mul_right_comm, mul-le-mul_right, mul-lt-mul_of_pos_right, lt_of_mul-lt-mul_right, le_of_mul-le-mul_right, eq_of_mul-eq-mul_right, le_refl, le-suc}
use mathlib.Core.Bool.{Bool, true, false, ◌&&◌, cond}
use lib.IntN.{ℤ, pos, negsuc, suc_ℤ, ◌+ℤ◌, +ℤ-suc_ℤ, +ℤ_idr}
use lib.Dec.{T, lit≤, lit<, leb, ltb, eqb, leb→le, le→leb, ltb→lt, lt→ltb}
use lib.Pow.{pow-add, pow_pos, pow_mono, pow-lt}
use lib.Ieee.{Float, nan, inf, fin, Format, binary64, prec, emax, low, up, down, size, odd, units, round, fits}
use lib.Ieee.Fits.{round_is, round-fits, down_pos, and_i, and_l}
use lib.Ieee.Order.{drop, kept}
use lib.Ieee.Exact.{HasValue, units_val}
use lib.Ieee.Positive.{num, den}
use lib.Ieee.Scale.{overflow, grid, grid_scale, round_same, normal_of_rounded}
use Rattle.std.specs.Float.{float_is_finite}
use Rattle.float.specs.Scale.{scale}
use Rattle.float.proofs.Exponents.{up_add}
use Rattle.float.proofs.Units.{fits_low, unique}
use Rattle.formula.specs.Range.{sized}

-- ---- 2 ^ t times a float
-- its value as a fraction
pub scale_cross : (x : Float) (t : ℕ) → num (scale (pos t) x) * den x ≡ num x * 2 ^ t * den (scale (pos t) x)
scale_cross nan t = ap (λ (z : ℕ). z * 1) (sym (zero-mul (2 ^ t)))
scale_cross (inf s) t = ap (λ (z : ℕ). z * 1) (sym (zero-mul (2 ^ t)))
scale_cross (fin s zero e) t = simp zero-mul
scale_cross (fin s (suc m) e) t = mul_assoc (suc m) _ _ ∙ ap (λ (z : ℕ). suc m * z) (up_add e t) ∙ simp mul_assoc

scale_value : (x : Float) (t : ℕ) (s : Bool) (g c : ℕ) → HasValue x s g c → HasValue (scale (pos t) x) s (g * 2 ^ t) c
scale_value nan t s g c v = v
scale_value (inf r) t s g c v = v
scale_value (fin r m e) t s g c v =
    let x = fin r m e in
    let y = scale (pos t) x in
    let turn : num x * 2 ^ t * den y * c ≡ num x * c * (2 ^ t * den y) = simp (mul_assoc, mul_comm, mul_left_comm) in
    let back : g * den x * (2 ^ t * den y) ≡ g * 2 ^ t * den y * den x = simp (mul_assoc, mul_comm, mul_left_comm) in (
      v.0,
      eq_of_mul-eq-mul_right (den x) (down_pos e) (num y * c) (g * 2 ^ t * den y)
          (mul_right_comm (num y) c (den x) ∙ ap (λ (z : ℕ). z * c) (scale_cross x t) ∙ turn ∙ ap (λ (z : ℕ). z * (2 ^ t * den y)) v.1 ∙ back),
    )

down_suc : (e : ℤ) → down (suc_ℤ e) ≤ down e
down_suc (pos k) = le_refl 1
down_suc (negsuc zero) = lit≤ tt
down_suc (negsuc (suc k)) = pow_mono (le-suc (suc k))

down_add : (e : ℤ) (t : ℕ) → down (e +ℤ pos t) ≤ down e
down_add e zero = rw (+ℤ_idr e) (le_refl (down e))
down_add e (suc t) = rw (+ℤ-suc_ℤ e (pos t)) (le_trans (down_suc (e +ℤ pos t)) (down_add e t))

-- it fits where it does not overflow
scale_fits : (f : Format) (x : Float) (t : ℕ) → T (fits f x) → num (scale (pos t) x) < 2 ^ suc (emax f) * den (scale (pos t) x) → T (fits f (scale (pos t) x))
unfolding fits
scale_fits f nan t h u = tt
scale_fits f (inf s) t h u = tt
scale_fits f (fin s zero e) t h u = h
scale_fits f (fin s (suc m) e) t h u =
    let d = e +ℤ pos t in
    let A = eqb (suc m % 2) 1 && ltb (suc m) (2 ^ prec f) in
    and_i (A && leb (down d) (2 ^ low f)) (ltb (suc m * up d) (2 ^ suc (emax f) * down d))
    (and_i A (leb (down d) (2 ^ low f)) (and_l A (leb (down e) (2 ^ low f)) (and_l (A && leb (down e) (2 ^ low f)) (ltb (suc m * up e) (2 ^ suc (emax f) * down e)) h))
    (le→leb (down d) (2 ^ low f) (le_trans (down_add e t) (fits_low f s m e h))))
    (lt→ltb (suc m * up d) (2 ^ suc (emax f) * down d) u)

value_under : (f : Format) (x : Float) (s : Bool) (g : ℕ) → HasValue x s g (2 ^ low f) → g < overflow f → num x < 2 ^ suc (emax f) * den x
value_under f nan s g v h = absurd v
value_under f (inf r) s g v h = absurd v
value_under f (fin r m e) s g v h =
    lt_of_mul-lt-mul_right (2 ^ low f)
    (lt_of_le_of_lt (le_of_eq v.1) (lt_of_lt_of_le (mul-lt-mul_of_pos_right h (down_pos e)) (le_of_eq (ap (λ (z : ℕ). z * down e) (pow-add 2 (low f) (suc (emax f))) ∙ simp (mul_assoc, mul_comm, mul_left_comm)))))

-- ---- the value of a fraction rounded
units_under : (f : Format) (s : Bool) (q k : ℕ) → T (float_is_finite (units f s q k)) → q * 2 ^ k < overflow f
unfolding units float_is_finite
units_under f s q k = go (ltb (q * 2 ^ k) (overflow f)) (ltb→lt (q * 2 ^ k) (overflow f))
  where
    go : (b : Bool) → (T b → q * 2 ^ k < overflow f) → T (float_is_finite (cond b (odd (suc (prec f)) s q k (low f)) (inf s))) → q * 2 ^ k < overflow f
    go true h t = h tt
    go false h t = absurd t

module _ (f : Format) (s : Bool) (a c : ℕ) (t : T (float_is_finite (round f s a c))) where
  round_under : grid f a c < overflow f
  round_under = units_under f s (kept (prec f) (a * 2 ^ low f) c) (drop (prec f) (a * 2 ^ low f) c) (subst (λ (z : Float). T (float_is_finite z)) (round_is f s a c) t)

  round_value : HasValue (round f s a c) s (grid f a c) (2 ^ low f)
  round_value = subst (λ (z : Float). HasValue z s (grid f a c) (2 ^ low f)) (sym (round_is f s a c)) (units_val f s (kept (prec f) (a * 2 ^ low f) c) (drop (prec f) (a * 2 ^ low f) c) round_under)

-- ---- the range
pub sized_finite : (x : Float) → T (sized x) → T (float_is_finite x)
unfolding sized float_is_finite
sized_finite nan h = h
sized_finite (inf s) h = h
sized_finite (fin s m e) h = tt

-- a value of 2 ^ -900 or more is well above the subnormal ones
sized_above : (x : Float) (s : Bool) (g c : ℕ) → HasValue x s g c → T (sized x) → c ≤ g * 2 ^ 900
unfolding sized
sized_above nan s g c v h = absurd v
sized_above (inf t) s g c v h = absurd v
sized_above (fin t m e) s g c v h =
    let K : ℕ = 2 ^ 900 in
    let le : down e ≤ m * up e * K = leb→le (down e) (m * up e * K) (and_l (leb (down e) (m * up e * K)) (leb (m * up e) (K * down e)) h) in
    le_of_mul-le-mul_right
    (le_trans (le_of_eq (mul_comm c (down e)))
    (le_trans (mul-le-mul_right c le)
    (le_of_eq (mul_right_comm (m * up e) K c ∙ ap (λ (x : ℕ). x * K) v.1 ∙ mul_right_comm g (down e) K))))
    (down_pos e)

above : (g : ℕ) → 2 ^ 1074 ≤ g * 2 ^ 900 → 2 ^ 52 < g
above g h = lt_of_lt_of_le (pow-lt {i = 52} {j = 174} (lit< tt)) (le_of_mul-le-mul_right (le_trans (le_of_eq (sym (pow-add 2 174 900))) h) (pow_pos 900))

normal : (s : Bool) (a c : ℕ) → T (sized (round binary64 s a c)) → prec binary64 ≤ size (a * 2 ^ low binary64 / c)
normal s a c h =
    let r = round binary64 s a c in
    normal_of_rounded binary64 a c (above (grid binary64 a c) (sized_above r s (grid binary64 a c) (2 ^ low binary64) (round_value binary64 s a c (sized_finite r h)) h))

-- ---- the law: a / c, and b / d = 2 ^ t * a / c
pub round_scale : (s : Bool) (a c b d t : ℕ) → 0 < c → 0 < d → b * c ≡ a * 2 ^ t * d → T (sized (round binary64 s a c)) → T (sized (round binary64 s b d))
    → round binary64 s b d ≡ scale (pos t) (round binary64 s a c)
round_scale s a c b d t C D e g h = go binary64 (sized_finite (round binary64 s a c) g) (sized_finite (round binary64 s b d) h) (normal s a c g)
  where
    go : (f : Format) → T (float_is_finite (round f s a c)) → T (float_is_finite (round f s b d)) → prec f ≤ size (a * 2 ^ low f / c) → round f s b d ≡ scale (pos t) (round f s a c)
    go f p q N =
        let same : round f s b d ≡ round f s (a * 2 ^ t) c = round_same f s b d (a * 2 ^ t) c D C e in
        let q' : T (float_is_finite (round f s (a * 2 ^ t) c)) = rw same at q in
        let more = grid_scale f a c t C N in
        let x = round f s a c in
        let v : HasValue (scale (pos t) x) s (grid f a c * 2 ^ t) (2 ^ low f) = scale_value x t s (grid f a c) (2 ^ low f) (round_value f s a c p) in
        same
        ∙ unique f (round f s (a * 2 ^ t) c) (scale (pos t) x) s (grid f a c * 2 ^ t) (2 ^ low f) (pow_pos (low f)) (round-fits f s (a * 2 ^ t) c)
        (scale_fits f x t (round-fits f s a c) (value_under f (scale (pos t) x) s (grid f a c * 2 ^ t) v (subst (λ (z : ℕ). z < overflow f) more (round_under f s (a * 2 ^ t) c q'))))
        (subst (λ (z : ℕ). HasValue (round f s (a * 2 ^ t) c) s z (2 ^ low f)) more (round_value f s (a * 2 ^ t) c q'))
        v
