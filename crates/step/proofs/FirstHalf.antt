-- The first half of a step runs on from the three numbers of `variance_at`: past both tests on them, or stopped at one. Assumes nothing.
use mathlib.Core.Path.{◌≡◌, refl, sym, subst}
use mathlib.Core.Bool.{Bool, true, false}
use mathlib.Core.List.{List, [], ◌∷◌}
use lib.ListN.{drop}
use lib.Ieee.{Float, eq, lt}
use Rattle.float.specs.Constants.{nought}
use Rattle.float.specs.Power.{power_of}
use Rattle.formula.specs.Formula.{Test, Stmt, fail, Outcome, inadmissible, eval, stops, run}
use Rattle.formula.proofs.Runs.{Runs, then, stop, pass, runs}
use Rattle.step.specs.Parts.{variance_at}
use Rattle.step.specs.Steps.{curves, sigma2_squared}
use Rattle.step.specs.declared.variance.Variance.{Variance}

-- a program that a later test stops is stopped, whatever a test before says
stopped_by : {g : List Float} {t : Test} {p : List Stmt} {v : List Float} (b : Bool) → stops g v t ≡ b → Runs g p v inadmissible → Runs g (fail t ∷ p) v inadmissible
stopped_by true e r = stop e
stopped_by false e r = pass e r

-- what follows both tests
unfoldable pub deviations : List Stmt
unfolding curves
deviations = drop 5 curves

module _ (ms : List Float) (μ p : Float) where
  abbrev g : List Float
  g = μ ∷ p ∷ ms

  pub negative : lt (sigma2_squared ms μ p) nought ≡ true → run curves g [] ≡ inadmissible
  unfolding sigma2_squared curves stops eval power_of
  negative h = runs (then _ refl (then _ refl (stopped_by _ refl (then _ refl (stop h)))))

  module _ (r : Variance) (is : r ≡ variance_at ms μ p) where
    pub zero : eq r.den_24 nought ≡ true → run curves g [] ≡ inadmissible
    unfolding variance_at stops eval power_of
    zero h = runs (then _ refl (then _ refl (stop (subst (λ (v : Variance). eq v.den_24 nought ≡ true) is h))))

    pub below : lt r.sigma_2_squared nought ≡ true → run curves g [] ≡ inadmissible
    unfolding variance_at sigma2_squared
    below h = negative (subst (λ (v : Variance). lt v.sigma_2_squared nought ≡ true) is h)

    pub on : (o : Outcome) → eq r.den_24 nought ≡ false → lt r.sigma_2_squared nought ≡ false
        → Runs g deviations (r.mu_1 ∷ r.den_24 ∷ r.sigma_2_squared ∷ []) o → run curves g [] ≡ o
    unfolding variance_at deviations stops eval power_of
    on o = subst (λ (v : Variance). eq v.den_24 nought ≡ false → lt v.sigma_2_squared nought ≡ false
        → Runs g deviations (v.mu_1 ∷ v.den_24 ∷ v.sigma_2_squared ∷ []) o → run curves g [] ≡ o)
        (sym is) (λ h k q. runs (then _ refl (then _ refl (pass h (then _ refl (pass k q))))))
