-- From runs of a step's parts to its answer: the first half, the formulas up to the new weight, the test of that. Assumes nothing.
use mathlib.Core.Path.{◌≡◌, refl, sym, ap, ◌∙◌, subst}
use mathlib.Core.Bool.{Bool, true, false, cond}
use mathlib.Core.List.{List, [], ◌∷◌, ◌++◌}
use lib.ListN.{take, drop}
use lib.Ieee.{Float, lt}
use Rattle.float.specs.Constants.{nought}
use Rattle.float.specs.Power.{power_of}
use Rattle.formula.specs.Formula.{Expr, outside_unit, stops, Stmt, fail, Outcome, admitted, inadmissible, eval, run}
use Rattle.formula.proofs.Runs.{Runs, runs, goes_on, two_parts}
use Rattle.step.specs.Parts.{CurvesFrom, Ran}
use Rattle.step.specs.Steps.{curves, iter_4, iter_5, sigma2_squared, step_4, step_5, answer, first_four, first_five, μ₁, μ₂, μ₂', σ₁, σ₂, p₁', p₁''}
use Rattle.step.specs.declared.Step.{Step}
use Rattle.step.specs.declared.Step.TheVariants.{Inadmissible}
use Rattle.step.specs.declared.curves.Curves.{Curves}
use Rattle.std.specs.Prelude.{Option, None, Some}
use Rattle.step.proofs.FirstHalf.{negative}

-- ---- either step
-- the formulas of its answer, and its part between the first half and the test of the weight
pub record Kind : Type 0 where
  pub mu1 : Expr
  pub mu2 : Expr
  pub sigma1 : Expr
  pub sigma2 : Expr
  pub p1 : Expr
  pub between : List Stmt

unfoldable pub between_4 : List Stmt
unfolding iter_4
between_4 = take 3 (drop 9 iter_4)

unfoldable pub between_5 : List Stmt
unfolding iter_5
between_5 = take 12 (drop 9 iter_5)

abbrev pub kind_4 : Kind
kind_4 = record { mu1 = μ₁; mu2 = μ₂; sigma1 = σ₁; sigma2 = σ₂; p1 = p₁'; between = between_4 }

abbrev pub kind_5 : Kind
kind_5 = record { mu1 = μ₁; mu2 = μ₂'; sigma1 = σ₁; sigma2 = σ₂; p1 = p₁''; between = between_5 }

-- the variables after the first half
abbrev pub variables : {g : List Float} {mu1 sigma1 sigma2 : Float} → Ran g mu1 sigma1 sigma2 → List Float
variables {g} {mu1} {sigma1} {sigma2} h = mu1 ∷ h.den24 ∷ h.sigma2² ∷ sigma2 ∷ h.sigma1² ∷ sigma1 ∷ []

module _ (k : Kind) (g : List Float) where
  abbrev answer_of : Outcome → Step
  answer_of o = answer k.mu1 k.mu2 k.sigma1 k.sigma2 k.p1 g o

  abbrev last : List Stmt
  last = fail (outside_unit k.p1) ∷ []

  abbrev pub step_by : Step
  step_by = answer_of (run (curves ++ (k.between ++ last)) g [])

  -- stopped in the first half
  pub stopped : run curves g [] ≡ inadmissible → Inadmissible ≡ step_by
  stopped e = sym (ap answer_of (two_parts curves (k.between ++ last) g [] ∙ ap (λ (o : Outcome). goes_on o (k.between ++ last) g) e))

  module _ {a b c : Float} (h : Ran g a b c) where
    runs_on : (o : Outcome) → Runs g k.between (variables h) o → run (curves ++ (k.between ++ last)) g [] ≡ goes_on o last g
    runs_on o r =
        two_parts curves (k.between ++ last) g []
        ∙ ap (λ (x : Outcome). goes_on x (k.between ++ last) g) h.runs
        ∙ two_parts k.between last g (variables h)
        ∙ ap (λ (x : Outcome). goes_on x last g) (runs r)

    -- stopped after it
    pub stopped_later : Runs g k.between (variables h) inadmissible → Inadmissible ≡ step_by
    stopped_later r = sym (ap answer_of (runs_on inadmissible r))

    -- not stopped before the test of the weight, which is made on the answer
    pub weighs : (v : List Float) → Runs g k.between (variables h) (admitted v) → (s : Step) → s ≡ cond (stops g v (outside_unit k.p1)) Inadmissible (answer_of (admitted v)) → s ≡ step_by
    unfolding run
    weighs v r s e = e ∙ tested (stops g v (outside_unit k.p1)) ∙ sym (ap answer_of (runs_on (admitted v) r))
      where
        tested : (t : Bool) → cond t Inadmissible (answer_of (admitted v)) ≡ answer_of (cond t inadmissible (admitted v))
        tested true = refl
        tested false = refl

-- what `curves_from` ensures, by its two answers
pub ran : {g : List Float} {r : Option Curves} {c : Curves} → CurvesFrom g r → r ≡ Some c → Ran g c.mu_1 c.sigma_1 c.sigma_2
ran {g} h e = subst (CurvesFrom g) e h

pub not_ran : (g : List Float) {r : Option Curves} → CurvesFrom g r → r ≡ None → run curves g [] ≡ inadmissible
not_ran g h e = subst (CurvesFrom g) e h

-- stopped after the first half, for the step that this is
pub stops_as : (k : Kind) {g : List Float} {s : Step} {r : Option Curves} {c : Curves} → step_by k g ≡ s → (h : CurvesFrom g r) (e : r ≡ Some c) → Runs g k.between (variables (ran h e)) inadmissible → Inadmissible ≡ s
stops_as k {g} i h e r = stopped_later k g (ran h e) r ∙ i

-- ---- each step
pub is_4 : (ms : List Float) (μ p : Float) → step_by kind_4 (μ ∷ p ∷ ms) ≡ step_4 ms μ p
unfolding step_4 between_4
is_4 ms μ p = refl

pub is_5 : (ms : List Float) (μ p : Float) → step_by kind_5 (μ ∷ p ∷ ms) ≡ step_5 ms μ p
unfolding step_5 between_5
is_5 ms μ p = refl

-- whose σ₂² is below zero
pub negative_4 : (ms : List Float) (μ p : Float) → lt (sigma2_squared ms μ p) nought ≡ true → step_4 (first_four ms) μ p ≡ Inadmissible
unfolding sigma2_squared eval power_of
negative_4 ms μ p h = sym (stopped kind_4 (μ ∷ p ∷ first_four ms) (negative (first_four ms) μ p h) ∙ is_4 (first_four ms) μ p)

pub negative_5 : (ms : List Float) (μ p : Float) → lt (sigma2_squared ms μ p) nought ≡ true → step_5 (first_five ms) μ p ≡ Inadmissible
unfolding sigma2_squared eval power_of
negative_5 ms μ p h = sym (stopped kind_5 (μ ∷ p ∷ first_five ms) (negative (first_five ms) μ p h) ∙ is_5 (first_five ms) μ p)
