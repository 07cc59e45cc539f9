-- One step, twice: from inputs that differ by 2 ^ (d * s), for their degrees d and any whole s, and fair steps, the second answer is `scale_step s` of the first. For a program and five formulas, where s is natural, by formula's `program`; a negative s is the same with the two runs swapped. Assumes nothing.
use mathlib.Core.Path.{◌≡◌, refl, sym, ap, ◌∙◌, subst}
use mathlib.Core.List.{List, [], ◌∷◌}
use Prim.Native.Nat.{ℕ, suc, ◌*◌, ◌<◌}
use native.Mathlib.Nat.{one-mul}
use mathlib.Core.Bool.{Bool, true, false, ◌&&◌, cond}
use lib.IntN.{ℤ, pos, negsuc, neg_ℤ, ◌*ℤ◌, neg_ℤ-neg_ℤ, zero-*ℤ}
use lib.Dec.{T, eqb, lit<}
use lib.ListN.{get_or}
use lib.Ieee.{Float, nan, binary64, fits}
use lib.Ieee.Fits.{and_i}
use Rattle.float.specs.Power.{power_of}
use Rattle.float.specs.Scale.{scale}
use Rattle.float.proofs.Scaling.{scale_none, scale_back}
use Rattle.formula.specs.Degree.{Degree, of, at, Degrees, each, degree, degrees}
use Rattle.formula.specs.Formula.{Expr, var, Stmt, Outcome, admitted, inadmissible, eval, run}
use Rattle.formula.specs.Met.{Met, met, met_by, all_fair}
use Rattle.formula.proofs.Scaled.{Inputs, none, Holds, Like, constants_fit, constants_fit_by, fair_left, fair_right, formula, program, scale_flat}
use Rattle.step.specs.Steps.{iter_4, iter_5, step_4, step_5, answer, μ₁, μ₂, μ₂', σ₁, σ₂, p₁', p₁'', first_four, first_five}
use Rattle.step.specs.declared.Step.{Step}
use Rattle.step.specs.declared.Step.TheVariants.{Admitted, Inadmissible}
use Rattle.scaling.specs.Scaling.{fair_step, scale_step}
use Rattle.walk.specs.Trail.{step_for}
use Rattle.walk.specs.Walk.{needed_by}
use Rattle.scaling.proofs.Degrees.{given_4, given_5, vars_4, vars_5, degrees_4, degrees_5, constants_4, constants_5}

-- ---- two values of binary64, the second 2 ^ t times the first
pub record Twin (t : ℤ) (x x' : Float) : Type 0 where
  pub held : T (fits binary64 x)
  pub held'' : T (fits binary64 x')
  pub is : x' ≡ scale t x

-- the inputs of two runs, by their degrees
abbrev Given : ℤ → List ℕ → List Float → List Float → Type 0
Given s [] g g' = Unit {0}
Given s (d ∷ ds) [] g' = Unit {0}
Given s (d ∷ ds) (x ∷ g) [] = Unit {0}
Given s (d ∷ ds) (x ∷ g) (x' ∷ g') = Twin (pos d *ℤ s) x x' × Given s ds g g'

up : (k : ℕ) (ds : List ℕ) (g g' : List Float) → Given (pos k) ds g g' → Inputs k ds g g'
up k [] g g' h = tt
up k (d ∷ ds) [] g' h = tt
up k (d ∷ ds) (x ∷ g) [] h = tt
up k (d ∷ ds) (x ∷ g) (x' ∷ g') h = (record { held = h.0.held; held' = h.0.held''; is = h.0.is }, up k ds g g' h.1)

-- undone
undo : (t : ℤ) (x x' : Float) → x' ≡ scale (neg_ℤ t) x → x ≡ scale t x'
undo t x x' e = sym (ap (scale t) e ∙ ap (λ (u : ℤ). scale u (scale (neg_ℤ t) x)) (sym (neg_ℤ-neg_ℤ t)) ∙ scale_back (neg_ℤ t) x)

down : (j : ℕ) (ds : List ℕ) (g g' : List Float) → Given (negsuc j) ds g g' → Inputs (suc j) ds g' g
down j [] g g' h = tt
down j (d ∷ ds) [] [] h = tt
down j (d ∷ ds) [] (x' ∷ g') h = tt
down j (d ∷ ds) (x ∷ g) [] h = tt
down j (d ∷ ds) (x ∷ g) (x' ∷ g') h = (record { held = h.0.held''; held' = h.0.held; is = undo (pos (d * suc j)) x x' h.0.is }, down j ds g g' h.1)

-- ---- two answers, the second 2 ^ s times the first; and the pair that an admitted step hands on is of binary64, in both
abbrev pub handed : Step → Bool
handed (Admitted r) = fits binary64 r.mu_2 && fits binary64 r.p_1
handed Inadmissible = true

pub record Alike (s : ℤ) (r r' : Step) : Type 0 where
  pub next : T (handed r)
  pub next' : T (handed r')
  pub is : r' ≡ scale_step s r

step_back : (s : ℤ) (r : Step) → scale_step (neg_ℤ s) (scale_step s r) ≡ r
step_back s Inadmissible = refl
step_back s (Admitted r) =
    λ i. Admitted (record { mu_1 = scale_back s r.mu_1 i; mu_2 = scale_back s r.mu_2 i; sigma_1 = scale_back s r.sigma_1 i; sigma_2 = scale_back s r.sigma_2 i; p_1 = r.p_1 })

swapped : (j : ℕ) (r r' : Step) → Alike (pos (suc j)) r' r → Alike (negsuc j) r r'
swapped j r r' h = record { next = h.next'; next' = h.next; is = sym (ap (scale_step (negsuc j)) h.is ∙ step_back (pos (suc j)) r') }

-- ---- a formula of degree n for an answer, which reads only what the program p met
record Reads (p : List Stmt) (gs ds : List ℕ) (n : ℕ) (a : Expr) : Type 0 where
  constants : T (constants_fit a)
  grade : degree gs ds a ≡ of n
  seen : (g v : List Float) → T (all_fair (met_by p g [])) → T (all_fair (met g v a))

-- a variable's value is met where it is defined, so it reads nothing more
variable : {p : List Stmt} {gs ds : List ℕ} {n : ℕ} (i : ℕ) → at ds i ≡ of n → Reads p gs ds n (var i)
unfolding met degree constants_fit
variable i e = record { constants = tt; grade = e; seen = λ g v x. tt }

-- ---- the law, for a program p on inputs of the degrees gs, whose variables have the degrees ds, and five formulas for its answer
module _ (p : List Stmt) (gs ds : List ℕ) (known : degrees p gs [] ≡ each ds) (constants : T (constants_fit_by p)) (a b c d e : Expr)
    (ra : Reads p gs ds 1 a) (rb : Reads p gs ds 1 b) (rc : Reads p gs ds 1 c) (rd : Reads p gs ds 1 d) (re : Reads p gs ds 0 e) where
  answers : (k : ℕ) (g g' : List Float) → Inputs k gs g g' → T (all_fair (met_by p g [])) → T (all_fair (met_by p g' [])) → (o o' : Outcome) → Like k (each ds) o o'
      → Alike (pos k) (answer a b c d e g o) (answer a b c d e g' o')
  answers k g g' given x y inadmissible inadmissible l = record { next = tt; next' = tt; is = refl }
  answers k g g' given x y inadmissible (admitted v') l = absurd l
  answers k g g' given x y (admitted v) inadmissible l = absurd l
  answers k g g' given x y (admitted v) (admitted v') l =
      let A = grown 1 a ra in
      let B = grown 1 b rb in
      let C = grown 1 c rc in
      let D = grown 1 d rd in
      let E = grown 0 e re in
      record {
        next = and_i (fits binary64 (eval g v b)) (fits binary64 (eval g v e)) B.held E.held;
        next' = and_i (fits binary64 (eval g' v' b)) (fits binary64 (eval g' v' e)) B.held'' E.held'';
        is = λ i. Admitted (record { mu_1 = once a A i; mu_2 = once b B i; sigma_1 = once c C i; sigma_2 = once d D i; p_1 = (E.is ∙ scale_flat k (eval g v e)) i });
      }
    where
      grown : (n : ℕ) (z : Expr) → Reads p gs ds n z → Twin (pos (n * k)) (eval g v z) (eval g' v' z)
      grown n z r =
          let h = subst (λ (D : Degree). Holds k D (eval g v z) (eval g' v' z)) r.grade (formula k gs g g' given ds v v' l z r.constants (r.seen g v x) (r.seen g' v' y)) in
          record { held = h.held; held'' = h.held'; is = h.is }

      once : (z : Expr) → Twin (pos (1 * k)) (eval g v z) (eval g' v' z) → eval g' v' z ≡ scale (pos k) (eval g v z)
      once z h = h.is ∙ ap (λ (n : ℕ). scale (pos n) (eval g v z)) (one-mul k)

  natural : (k : ℕ) (g g' : List Float) → Inputs k gs g g' → T (all_fair (met_by p g [])) → T (all_fair (met_by p g' [])) → Alike (pos k) (answer a b c d e g (run p g [])) (answer a b c d e g' (run p g' []))
  natural k g g' given x y =
      answers k g g' given x y (run p g []) (run p g' []) (subst (λ (D : Degrees). Like k D (run p g []) (run p g' [])) known (program k gs g g' given p [] [] [] none constants x y))

  scales : (s : ℤ) (g g' : List Float) → Given s gs g g' → T (all_fair (met_by p g [])) → T (all_fair (met_by p g' [])) → Alike s (answer a b c d e g (run p g [])) (answer a b c d e g' (run p g' []))
  scales (pos k) g g' h x y = natural k g g' (up k gs g g' h) x y
  scales (negsuc j) g g' h x y = swapped j (answer a b c d e g (run p g [])) (answer a b c d e g' (run p g' [])) (natural (suc j) g' g (down j gs g g' h) y x)

-- ---- the two steps' answers
-- the mean that iter_4 was given is the fourth number that it meets
fourth : {w l : List Met} {a b c m : Met} → w ≡ a ∷ b ∷ c ∷ m ∷ l → T (all_fair w) → T (all_fair (m ∷ []))
fourth {w} {l} {a} {b} {c} {m} e h = fair_left (m ∷ []) l (fair_right (a ∷ b ∷ c ∷ []) (m ∷ l) (subst (λ (k : List Met). T (all_fair k)) e h))

mean_4 : (g v : List Float) → T (all_fair (met_by iter_4 g [])) → T (all_fair (met g v μ₂))
unfolding met_by iter_4 power_of
mean_4 g v h = fourth (refl {a = met_by iter_4 g []}) h

pos_one : (s : ℤ) → pos 1 *ℤ s ≡ s
pos_one (pos k) = ap pos (one-mul k)
pos_one (negsuc j) = ap (λ (n : ℕ). neg_ℤ (pos n)) (one-mul (suc j))

-- ---- either step
module _ (s : ℤ) (ms ms' : List Float) where
  -- the k-th moment stands at k - 1
  abbrev pub Moments : ℕ → Type 0
  Moments n = (k : ℕ) → k < n → Twin (pos (suc k) *ℤ s) (get_or ms k nan) (get_or ms' k nan)

  module _ (μ p : Float) (fits-μ : T (fits binary64 μ)) (fits-μ' : T (fits binary64 (scale s μ))) (fits-p : T (fits binary64 p)) where
    mean : Twin (pos 1 *ℤ s) μ (scale s μ)
    mean = record { held = fits-μ; held'' = fits-μ'; is = ap (λ (t : ℤ). scale t μ) (sym (pos_one s)) }

    weight : Twin (pos 0 *ℤ s) p p
    weight = record { held = fits-p; held'' = fits-p; is = sym (ap (λ (t : ℤ). scale t p) (zero-*ℤ s) ∙ scale_none p) }

    four : Moments 4 → T (all_fair (met_by iter_4 (μ ∷ p ∷ first_four ms) [])) → T (all_fair (met_by iter_4 (scale s μ ∷ p ∷ first_four ms') []))
        → Alike s (step_4 (first_four ms) μ p) (step_4 (first_four ms') (scale s μ) p)
    unfolding step_4 degree constants_fit
    four h =
        scales iter_4 given_4 vars_4 degrees_4 constants_4 μ₁ μ₂ σ₁ σ₂ p₁'
        (variable 0 refl) (record { constants = tt; grade = refl; seen = mean_4 }) (variable 5 refl) (variable 3 refl) (variable 7 refl)
        s (μ ∷ p ∷ first_four ms) (scale s μ ∷ p ∷ first_four ms') (mean, (weight, (h 0 (lit< tt), (h 1 (lit< tt), (h 2 (lit< tt), (h 3 (lit< tt), tt))))))

    five : Moments 5 → T (all_fair (met_by iter_5 (μ ∷ p ∷ first_five ms) [])) → T (all_fair (met_by iter_5 (scale s μ ∷ p ∷ first_five ms') []))
        → Alike s (step_5 (first_five ms) μ p) (step_5 (first_five ms') (scale s μ) p)
    unfolding step_5
    five h =
        scales iter_5 given_5 vars_5 degrees_5 constants_5 μ₁ μ₂' σ₁ σ₂ p₁''
        (variable 0 refl) (variable 9 refl) (variable 5 refl) (variable 3 refl) (variable 12 refl)
        s (μ ∷ p ∷ first_five ms) (scale s μ ∷ p ∷ first_five ms') (mean, (weight, (h 0 (lit< tt), (h 1 (lit< tt), (h 2 (lit< tt), (h 3 (lit< tt), (h 4 (lit< tt), tt)))))))

    pub step_scale : (variant : ℕ) → Moments (needed_by variant) → T (fair_step variant ms μ p) → T (fair_step variant ms' (scale s μ) p)
        → Alike s (step_for variant ms μ p) (step_for variant ms' (scale s μ) p)
    unfolding step_for fair_step
    step_scale variant = by (eqb variant 1)
      where
        by : (z : Bool) → Moments (cond z 4 5)
            → T (cond z (all_fair (met_by iter_4 (μ ∷ p ∷ first_four ms) [])) (all_fair (met_by iter_5 (μ ∷ p ∷ first_five ms) [])))
            → T (cond z (all_fair (met_by iter_4 (scale s μ ∷ p ∷ first_four ms') [])) (all_fair (met_by iter_5 (scale s μ ∷ p ∷ first_five ms') [])))
            → Alike s (cond z (step_4 (first_four ms) μ p) (step_5 (first_five ms) μ p)) (cond z (step_4 (first_four ms') (scale s μ) p) (step_5 (first_five ms') (scale s μ) p))
        by true = four
        by false = five
