-- Two runs of a formula or a program, on inputs that differ by 2 ^ (d * k), for their degrees d: so do the results, and the same test stops both, where every number met is fair and the format holds the inputs and the constants. By induction on the formula, one operation at a time, and then on the program. Assumes nothing.
use mathlib.Core.Path.{◌≡◌, refl, sym, ap, ap₂, ◌∙◌, subst, subst₂}
use mathlib.Core.List.{List, [], ◌∷◌, ◌++◌}
use Prim.Native.Nat.{ℕ, zero, suc, ◌+◌, ◌-◌, ◌*◌, ◌/◌, ◌%◌, ◌≤◌}
use native.Mathlib.Nat.{add-mul, zero-mul}
use native.Mathlib.Omega.{arith}
use mathlib.Core.Bool.{Bool, true, false, not, ◌&&◌, ◌||◌, cond, true≢false}
use lib.IntN.{pos, ◌+ℤ◌}
use lib.Dec.{T, eqb, leb, eqb→eq, leb→le}
use lib.ListN.{get_or}
use lib.Ieee.{Float, nan, inf, fin, binary64, fits, add, sub, mul, div, lt, le, eq}
use lib.Ieee.Fits.{and_i, and_l, and_r, add-fits, sub-fits, mul-fits, div-fits}
use Rattle.std.specs.Float.{float_is_finite}
use Rattle.float.specs.Constants.{nought, one}
use Rattle.float.specs.Root.{root}
use Rattle.float.specs.Scale.{scale}
use Rattle.float.proofs.Fits.{root_fits}
use Rattle.float.proofs.Scaling.{scale_none}
use Rattle.float.proofs.Zero.{some_eq, plus_lt, minus_lt}
use Rattle.formula.specs.Formula.{Expr, given, var, const, ◌⊕◌, ◌⊖◌, ◌⊗◌, ◌⊘◌, √◌, eval, Test, is_zero, is_negative, not_finite, outside_unit, is_below, stops, Stmt, ◌≔◌, fail, Outcome, admitted, inadmissible, run}
use Rattle.formula.specs.Range.{sized, is_nought, sum_is_zero, difference_is_zero, product_is_zero, quotient_is_zero}
use Rattle.formula.specs.Met.{Met, met, tested, met_by, fair, all_fair}
use Rattle.formula.specs.Degree.{Degree, of, mixed, same, joint, excess, halved, at, degree, any, plain, proper, Degrees, each, mismatch, degrees}
use Rattle.formula.proofs.OperationScale.{add_scale, sub_scale, mul_scale, div_scale, root_scale, add_finite, sub_finite, mul_finite, div_finite, root_finite}

-- ---- the format holds every constant
unfoldable pub constants_fit : Expr → Bool
constants_fit (given k) = true
constants_fit (var k) = true
constants_fit (const c) = fits binary64 c
constants_fit (a ⊕ b) = constants_fit a && constants_fit b
constants_fit (a ⊖ b) = constants_fit a && constants_fit b
constants_fit (a ⊗ b) = constants_fit a && constants_fit b
constants_fit (a ⊘ b) = constants_fit a && constants_fit b
constants_fit (√ a) = constants_fit a

unfoldable pub constants_fit_by : List Stmt → Bool
unfolding constants_fit
constants_fit_by [] = true
constants_fit_by ((x ≔ a) ∷ p) = constants_fit a && constants_fit_by p
constants_fit_by (fail t ∷ p) = constants_fit (tested t) && constants_fit_by p

-- ---- every one of a list is fair
pub fair_left : (l k : List Met) → T (all_fair (l ++ k)) → T (all_fair l)
fair_left [] k h = tt
fair_left (m ∷ l) k h = and_i (fair m) (all_fair l) (and_l (fair m) (all_fair (l ++ k)) h) (fair_left l k (and_r (fair m) (all_fair (l ++ k)) h))

pub fair_right : (l k : List Met) → T (all_fair (l ++ k)) → T (all_fair k)
fair_right [] k h = h
fair_right (m ∷ l) k h = fair_right l k (and_r (fair m) (all_fair (l ++ k)) h)

fair_one : (m : Met) → T (all_fair (m ∷ [])) → T (fair m)
fair_one m h = and_l (fair m) true h

pair : (l : List Met) (m : Met) → T (all_fair (l ++ (m ∷ []))) → T (all_fair l) × T (fair m)
pair l m h = (fair_left l (m ∷ []) h, fair_one m (fair_right l (m ∷ []) h))

parts : (l k : List Met) (m : Met) → T (all_fair (l ++ (k ++ (m ∷ [])))) → T (all_fair l) × T (all_fair k) × T (fair m)
parts l k m h =
    let r = fair_right l (k ++ (m ∷ [])) h in
    (fair_left l (k ++ (m ∷ [])) h, fair_left k (m ∷ []) r, fair_one m (fair_right k (m ∷ []) r))

-- ---- the values of two runs, the second 2 ^ t times the first, which is finite
pub record Grown (t : ℕ) (x x' : Float) : Type 0 where
  pub is_finite : T (float_is_finite x)
  pub held : T (fits binary64 x)
  pub held' : T (fits binary64 x')
  pub is : x' ≡ scale (pos t) x

abbrev pub Holds : ℕ → Degree → Float → Float → Type 0
Holds k (of d) x x' = Grown (d * k) x x'
Holds k mixed x x' = Unit {0}

-- the variables, by their degrees
pub data Env (k : ℕ) : List ℕ → List Float → List Float → Type 0 where
  none : Env k [] [] []
  some : {d : ℕ} {ds : List ℕ} {x x' : Float} {v v' : List Float} → Grown (d * k) x x' → Env k ds v v' → Env k (d ∷ ds) (x ∷ v) (x' ∷ v')

pub extend : {k : ℕ} {ds : List ℕ} {v v' : List Float} (d : ℕ) {x x' : Float} → Env k ds v v' → Grown (d * k) x x' → Env k (ds ++ (d ∷ [])) (v ++ (x ∷ [])) (v' ++ (x' ∷ []))
extend d none h = some h none
extend d (some g r) h = some g (extend d r h)

pub look : {k : ℕ} {ds : List ℕ} {v v' : List Float} → Env k ds v v' → (i : ℕ) → Holds k (at ds i) (get_or v i nan) (get_or v' i nan)
look none i = tt
look (some g r) zero = g
look (some g r) (suc i) = look r i

-- ---- the inputs, by their degrees: one may be infinite or NaN; that it is finite follows where it is read, since a number read is met
pub record Input (t : ℕ) (x x' : Float) : Type 0 where
  pub held : T (fits binary64 x)
  pub held' : T (fits binary64 x')
  pub is : x' ≡ scale (pos t) x

-- nothing is asked of an input beyond the degrees, nor of one that either run lacks: it reads a NaN there, which is not fair
abbrev pub Inputs : ℕ → List ℕ → List Float → List Float → Type 0
Inputs k [] g g' = Unit {0}
Inputs k (d ∷ ds) [] g' = Unit {0}
Inputs k (d ∷ ds) (x ∷ g) [] = Unit {0}
Inputs k (d ∷ ds) (x ∷ g) (x' ∷ g') = Input (d * k) x x' × Inputs k ds g g'

fair_input : (x : Float) → T (is_nought x || sized x) → T (float_is_finite x)
unfolding sized float_is_finite
fair_input nan h = h
fair_input (inf s) h = h
fair_input (fin s m e) h = tt

read : (k : ℕ) (gs : List ℕ) (g g' : List Float) → Inputs k gs g g' → (i : ℕ) → T (is_nought (get_or g i nan) || sized (get_or g i nan)) → T (is_nought (get_or g' i nan) || sized (get_or g' i nan)) → Holds k (at gs i) (get_or g i nan) (get_or g' i nan)
unfolding float_is_finite
read k [] g g' h i p q = tt
read k (d ∷ ds) [] g' h i p q = absurd (fair_input nan p)
read k (d ∷ ds) (x ∷ g) [] h i p q = absurd (fair_input nan q)
read k (d ∷ ds) (x ∷ g) (x' ∷ g') h zero p q = record { is_finite = fair_input x p; held = h.0.held; held' = h.0.held'; is = h.0.is }
read k (d ∷ ds) (x ∷ g) (x' ∷ g') h (suc i) p q = read k ds g g' h.1 i p q

-- ---- a number of degree 0 stays
pub scale_flat : (k : ℕ) (x : Float) → scale (pos (0 * k)) x ≡ x
scale_flat k x = rw (zero-mul k) (scale_none x)

constant : (k : ℕ) (c : Float) → T (fits binary64 c) → Holds k (cond (float_is_finite c) (of 0) mixed) c c
unfolding float_is_finite
constant k nan h = tt
constant k (inf s) h = tt
constant k (fin s m e) h = record { is_finite = tt; held = h; held' = h; is = sym (scale_flat k (fin s m e)) }

-- ---- one operation `op`, whose exact value is zero where `nil` says so
-- its law on the operands' powers of two, and what follows for two runs: by `join` it takes operands of two degrees to a result of a third
abbrev Scales : (Float → Float → Float) → (Float → Float → Bool) → ℕ → ℕ → ℕ → Type 0
Scales op nil a b t =
    (x y : Float) → T (float_is_finite x) → T (float_is_finite y) → T (nil x y || sized (op x y)) → T (nil (scale (pos a) x) (scale (pos b) y) || sized (op (scale (pos a) x) (scale (pos b) y)))
    → op (scale (pos a) x) (scale (pos b) y) ≡ scale (pos t) (op x y)

abbrev Carries : ℕ → (Degree → Degree → Degree) → (Float → Float → Float) → (Float → Float → Bool) → Type 0
Carries k join op nil =
    (D E : Degree) (x x' y y' : Float) → Holds k D x x' → Holds k E y y' → T (nil x y || sized (op x y)) → T (nil x' y' || sized (op x' y')) → Holds k (join D E) (op x y) (op x' y')

by_power : {t u : ℕ} {x x' : Float} → t ≡ u → Grown t x x' → Grown u x x'
by_power e g = rw (← e) g

twice_half : (a : ℕ) → a % 2 ≡ 0 → a ≡ a / 2 + a / 2
twice_half a h = omega arith

apart : (a b : ℕ) → b ≤ a → a ≡ a - b + b
apart a b h = omega arith

module _ (k : ℕ) (op : Float → Float → Float) (nil : Float → Float → Bool) (ends : (x y : Float) → T (nil x y || sized (op x y)) → T (float_is_finite (op x y))) (holds : (x y : Float) → T (fits binary64 (op x y))) where
  lift : (a b t : ℕ) → Scales op nil a b t → (x x' y y' : Float) → Grown a x x' → Grown b y y' → T (nil x y || sized (op x y)) → T (nil x' y' || sized (op x' y')) → Grown t (op x y) (op x' y')
  lift a b t law x x' y y' p q g h = record {
    is_finite = ends x y g;
    held = holds x y;
    held' = holds x' y';
    is = ap₂ op p.is q.is ∙ law x y p.is_finite q.is_finite g (subst₂ (λ (u v : Float). T (nil u v || sized (op u v))) p.is q.is h);
  }

  alike : ((a : ℕ) → Scales op nil a a a) → Carries k same op nil
  alike law mixed E x x' y y' p q g h = tt
  alike law (of a) mixed x x' y y' p q g h = tt
  alike law (of a) (of b) x x' y y' p q g h = go (eqb a b) (eqb→eq a b)
    where
      go : (z : Bool) → (T z → a ≡ b) → Holds k (cond z (of a) mixed) (op x y) (op x' y')
      go false e = tt
      go true e = lift (a * k) (a * k) (a * k) (law (a * k)) x x' y y' p (by_power (ap (λ (d : ℕ). d * k) (sym (e tt))) q) g h

  multiplied : ((a b : ℕ) → Scales op nil a b (a + b)) → Carries k joint op nil
  multiplied law mixed E x x' y y' p q g h = tt
  multiplied law (of a) mixed x x' y y' p q g h = tt
  multiplied law (of a) (of b) x x' y y' p q g h = by_power (sym (add-mul a b k)) (lift (a * k) (b * k) (a * k + b * k) (law (a * k) (b * k)) x x' y y' p q g h)

  divided : ((t b : ℕ) → Scales op nil (t + b) b t) → Carries k excess op nil
  divided law mixed E x x' y y' p q g h = tt
  divided law (of a) mixed x x' y y' p q g h = tt
  divided law (of a) (of b) x x' y y' p q g h = go (leb b a) (leb→le b a)
    where
      go : (z : Bool) → (T z → b ≤ a) → Holds k (cond z (of (a - b)) mixed) (op x y) (op x' y')
      go false e = tt
      go true e =
          lift ((a - b) * k + b * k) (b * k) ((a - b) * k) (law ((a - b) * k) (b * k)) x x' y y'
          (by_power (ap (λ (d : ℕ). d * k) (apart a b (e tt)) ∙ add-mul (a - b) b k) p) q g h

module _ (k : ℕ) where
  plus : Carries k same (add binary64) sum_is_zero
  plus = alike k (add binary64) sum_is_zero add_finite (add-fits binary64) (λ a x y. add_scale x y a)

  less : Carries k same (sub binary64) difference_is_zero
  less = alike k (sub binary64) difference_is_zero sub_finite (sub-fits binary64) (λ a x y. sub_scale x y a)

  times : Carries k joint (mul binary64) product_is_zero
  times = multiplied k (mul binary64) product_is_zero mul_finite (mul-fits binary64) (λ a b x y. mul_scale x y a b)

  over : Carries k excess (div binary64) quotient_is_zero
  over = divided k (div binary64) quotient_is_zero div_finite (div-fits binary64) (λ t b x y. div_scale x y t b)

  rooted : (D : Degree) (x x' : Float) → Holds k D x x' → T (is_nought x || sized (root binary64 x)) → Holds k (halved D) (root binary64 x) (root binary64 x')
  rooted mixed x x' p g = tt
  rooted (of a) x x' p g = go (eqb (a % 2) 0) (eqb→eq (a % 2) 0)
    where
      go : (z : Bool) → (T z → a % 2 ≡ 0) → Holds k (cond z (of (a / 2)) mixed) (root binary64 x) (root binary64 x')
      go false e = tt
      go true e =
          let t = a / 2 * k in
          let q : Grown (t + t) x x' = by_power (ap (λ (d : ℕ). d * k) (twice_half a (e tt)) ∙ add-mul (a / 2) (a / 2) k) p in
          record {
            is_finite = root_finite x g;
            held = root_fits binary64 x p.held;
            held' = root_fits binary64 x' p.held';
            is = ap (root binary64) q.is ∙ root_scale x t p.held (subst (λ (y : Float). T (fits binary64 y)) q.is p.held');
          }

-- ---- comparisons: with zero at any degree, with another number at degree 0
zero_same : (t : ℕ) (x : Float) → eq (scale (pos t) x) nought ≡ eq x nought
zero_same t nan = refl
zero_same t (inf s) = refl
zero_same t (fin s zero e) = refl
zero_same t (fin s (suc m) e) = some_eq s m (e +ℤ pos t) ∙ sym (some_eq s m e)

negative_same : (t : ℕ) (x : Float) → lt (scale (pos t) x) nought ≡ lt x nought
negative_same t nan = refl
negative_same t (inf s) = refl
negative_same t (fin s zero e) = refl
negative_same t (fin false (suc m) e) = plus_lt m (e +ℤ pos t) ∙ sym (plus_lt m e)
negative_same t (fin true (suc m) e) = minus_lt m (e +ℤ pos t) ∙ sym (minus_lt m e)

finite_same : (t : ℕ) (x : Float) → not (float_is_finite (scale (pos t) x)) ≡ not (float_is_finite x)
unfolding float_is_finite
finite_same t nan = refl
finite_same t (inf s) = refl
finite_same t (fin s m e) = refl

on_any : (f : Float → Bool) → ((t : ℕ) (x : Float) → f (scale (pos t) x) ≡ f x) → (k : ℕ) (D : Degree) (x x' : Float) → T (any D) → Holds k D x x' → f x' ≡ f x
on_any f law k mixed x x' a h = absurd a
on_any f law k (of d) x x' a h = ap f h.is ∙ law (d * k) x

on_plain : (f : Float → Bool) (k : ℕ) (D : Degree) (x x' : Float) → T (plain D) → Holds k D x x' → f x' ≡ f x
on_plain f k mixed x x' a h = absurd a
on_plain f k (of d) x x' a h = ap f (h.is ∙ ap (λ (n : ℕ). scale (pos (n * k)) x) (eqb→eq d 0 a) ∙ scale_flat k x)

-- ---- two outcomes
abbrev pub Like : ℕ → Degrees → Outcome → Outcome → Type 0
Like k mismatch o o' = Unit {0}
Like k (each ds) (admitted v) (admitted v') = Env k ds v v'
Like k (each ds) (admitted v) inadmissible = ⊥
Like k (each ds) inadmissible (admitted v') = ⊥
Like k (each ds) inadmissible inadmissible = Unit {0}

both_stop : (k : ℕ) (D : Degrees) → Like k D inadmissible inadmissible
both_stop k mismatch = tt
both_stop k (each ds) = tt

module _ (k : ℕ) (gs : List ℕ) (g g' : List Float) (inputs : Inputs k gs g g') where
  module _ (ds : List ℕ) (v v' : List Float) (env : Env k ds v v') where
    -- ---- a formula
    both : (join : Degree → Degree → Degree) (op : Float → Float → Float) (nil : Float → Float → Bool) → Carries k join op nil → (a b : Expr)
        → (T (constants_fit a) → T (all_fair (met g v a)) → T (all_fair (met g' v' a)) → Holds k (degree gs ds a) (eval g v a) (eval g' v' a))
        → (T (constants_fit b) → T (all_fair (met g v b)) → T (all_fair (met g' v' b)) → Holds k (degree gs ds b) (eval g v b) (eval g' v' b))
        → T (constants_fit a && constants_fit b)
        → T (all_fair (met g v a ++ (met g v b ++ (record { value = op (eval g v a) (eval g v b); exactly_zero = nil (eval g v a) (eval g v b) } ∷ []))))
        → T (all_fair (met g' v' a ++ (met g' v' b ++ (record { value = op (eval g' v' a) (eval g' v' b); exactly_zero = nil (eval g' v' a) (eval g' v' b) } ∷ []))))
        → Holds k (join (degree gs ds a) (degree gs ds b)) (op (eval g v a) (eval g v b)) (op (eval g' v' a) (eval g' v' b))
    both join op nil law a b left right c x y =
        let p = parts (met g v a) (met g v b) _ x in
        let q = parts (met g' v' a) (met g' v' b) _ y in
        law (degree gs ds a) (degree gs ds b) (eval g v a) (eval g' v' a) (eval g v b) (eval g' v' b)
        (left (and_l (constants_fit a) (constants_fit b) c) p.0 q.0) (right (and_r (constants_fit a) (constants_fit b) c) p.1 q.1) p.2 q.2

    pub formula : (a : Expr) → T (constants_fit a) → T (all_fair (met g v a)) → T (all_fair (met g' v' a)) → Holds k (degree gs ds a) (eval g v a) (eval g' v' a)
    unfolding degree met eval constants_fit
    formula (given i) c x y =
        let r = get_or g i nan in
        let r' = get_or g' i nan in
        read k gs g g' inputs i (and_l (is_nought r || sized r) true x) (and_l (is_nought r' || sized r') true y)
    formula (var i) c x y = look env i
    formula (const r) c x y = constant k r c
    formula (a ⊕ b) c x y = both same (add binary64) sum_is_zero (plus k) a b (formula a) (formula b) c x y
    formula (a ⊖ b) c x y = both same (sub binary64) difference_is_zero (less k) a b (formula a) (formula b) c x y
    formula (a ⊗ b) c x y = both joint (mul binary64) product_is_zero (times k) a b (formula a) (formula b) c x y
    formula (a ⊘ b) c x y = both excess (div binary64) quotient_is_zero (over k) a b (formula a) (formula b) c x y
    formula (√ a) c x y =
        let p = pair (met g v a) _ x in
        rooted k (degree gs ds a) (eval g v a) (eval g' v' a) (formula a c p.0 (fair_left (met g' v' a) _ y)) p.1

    -- ---- a test
    pub test : (t : Test) → T (proper gs ds t) → T (constants_fit (tested t)) → T (all_fair (met g v (tested t))) → T (all_fair (met g' v' (tested t))) → stops g' v' t ≡ stops g v t
    unfolding proper stops
    test (is_zero a) ok c x y = on_any (λ x. eq x nought) zero_same k (degree gs ds a) (eval g v a) (eval g' v' a) ok (formula a c x y)
    test (is_negative a) ok c x y = on_any (λ x. lt x nought) negative_same k (degree gs ds a) (eval g v a) (eval g' v' a) ok (formula a c x y)
    test (not_finite a) ok c x y = on_any (λ x. not (float_is_finite x)) finite_same k (degree gs ds a) (eval g v a) (eval g' v' a) ok (formula a c x y)
    test (outside_unit a) ok c x y = on_plain (λ x. not (le nought x && le x one)) k (degree gs ds a) (eval g v a) (eval g' v' a) ok (formula a c x y)
    test (is_below a r) ok c x y = on_plain (λ x. lt x r) k (degree gs ds a) (eval g v a) (eval g' v' a) ok (formula a c x y)

  -- ---- a program
  pub program : (p : List Stmt) (ds : List ℕ) (v v' : List Float) → Env k ds v v' → T (constants_fit_by p) → T (all_fair (met_by p g v)) → T (all_fair (met_by p g' v')) → Like k (degrees p gs ds) (run p g v) (run p g' v')
  unfolding degrees met_by run constants_fit_by
  program [] ds v v' env c x y = env
  program ((z ≔ a) ∷ p) ds v v' env c x y =
      let l = met_by p g (v ++ (eval g v a ∷ [])) in
      let l' = met_by p g' (v' ++ (eval g' v' a ∷ [])) in
      on (program p) (degree gs ds a) (formula ds v v' env a (and_l (constants_fit a) (constants_fit_by p) c) (fair_left (met g v a) l x) (fair_left (met g' v' a) l' y))
      (and_r (constants_fit a) (constants_fit_by p) c) (fair_right (met g v a) l x) (fair_right (met g' v' a) l' y)
    where
      on : ((ds : List ℕ) (v v' : List Float) → Env k ds v v' → T (constants_fit_by p) → T (all_fair (met_by p g v)) → T (all_fair (met_by p g' v')) → Like k (degrees p gs ds) (run p g v) (run p g' v'))
          → (D : Degree) → Holds k D (eval g v a) (eval g' v' a) → T (constants_fit_by p) → T (all_fair (met_by p g (v ++ (eval g v a ∷ [])))) → T (all_fair (met_by p g' (v' ++ (eval g' v' a ∷ []))))
          → Like k (elim D as (λ _. Degrees) [ of d ↦ degrees p gs (ds ++ (d ∷ [])) | mixed ↦ mismatch ]) (run p g (v ++ (eval g v a ∷ []))) (run p g' (v' ++ (eval g' v' a ∷ [])))
      on rec mixed H c x y = tt
      on rec (of d) H c x y = rec (ds ++ (d ∷ [])) (v ++ (eval g v a ∷ [])) (v' ++ (eval g' v' a ∷ [])) (extend d env H) c x y
  program (fail t ∷ p) ds v v' env c x y =
      let l = cond (stops g v t) [] (met_by p g v) in
      let l' = cond (stops g' v' t) [] (met_by p g' v') in
      go (program p ds v v' env (and_r (constants_fit (tested t)) (constants_fit_by p) c)) (proper gs ds t) (stops g v t) (stops g' v' t)
      (λ ok. test ds v v' env t ok (and_l (constants_fit (tested t)) (constants_fit_by p) c) (fair_left (met g v (tested t)) l x) (fair_left (met g' v' (tested t)) l' y))
      (fair_right (met g v (tested t)) l x) (fair_right (met g' v' (tested t)) l' y)
    where
      go : (T (all_fair (met_by p g v)) → T (all_fair (met_by p g' v')) → Like k (degrees p gs ds) (run p g v) (run p g' v'))
          → (ok b b' : Bool) → (T ok → b' ≡ b) → T (all_fair (cond b [] (met_by p g v))) → T (all_fair (cond b' [] (met_by p g' v')))
          → Like k (cond ok (degrees p gs ds) mismatch) (cond b inadmissible (run p g v)) (cond b' inadmissible (run p g' v'))
      go rec false b b' e x y = tt
      go rec true true true e x y = both_stop k (degrees p gs ds)
      go rec true true false e x y = absurd (true≢false (sym (e tt)))
      go rec true false true e x y = absurd (true≢false (e tt))
      go rec true false false e x y = rec x y
