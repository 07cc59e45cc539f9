-- What the private parts of the steps promise them. Definitions only.
use Rattle.std.specs.Prelude.{◌≡◌, not, ◌&&◌, cond, List, [], ◌∷◌, Float, Option, None, Some}
use Rattle.std.specs.Float.Ieee.{le}
use Rattle.float.specs.Constants.{nought, one}
use Rattle.formula.specs.Formula.{given, admitted, inadmissible, eval, run, untested}
use Rattle.moments.specs.Mixture.{fifth}
use Rattle.moments.specs.declared.Params.{Params}
use Rattle.step.specs.Steps.{curves, μ₁, den₂₄, σ₂²}
use Rattle.step.specs.declared.Step.{Step}
use Rattle.step.specs.declared.Step.TheVariants as step
use Rattle.step.specs.declared.curves.Curves.{Curves}
use Rattle.step.specs.declared.variance.Variance.{Variance}

-- `variance_at`: the first three variables, whatever the tests between them say
unfoldable pub variance_at : List Float → Float → Float → Variance
unfolding untested curves
variance_at ms μ p =
    let g = μ ∷ p ∷ ms in
    let v = untested curves g [] in
    record { mu_1 = eval g v μ₁; den_24 = eval g v den₂₄; sigma_2_squared = eval g v σ₂² }

-- `curves_from`: the first half stopped, or left its six variables, of which three are handed on
pub record Ran (g : List Float) (mu1 sigma1 sigma2 : Float) : Type 0 where
  pub den24 : Float
  pub sigma2² : Float
  pub sigma1² : Float
  pub runs : run curves g [] ≡ admitted (mu1 ∷ den24 ∷ sigma2² ∷ sigma2 ∷ sigma1² ∷ sigma1 ∷ [])

abbrev pub CurvesFrom : List Float → Option Curves → Type 0
CurvesFrom g None = run curves g [] ≡ inadmissible
CurvesFrom g (Some c) = Ran g c.mu_1 c.sigma_1 c.sigma_2

-- `weighed`: the five numbers, unless the weight is not from 0 to 1
abbrev pub weighed : Params → Step
weighed r = cond (not (le nought r.p_1 && le r.p_1 one)) step.Inadmissible (step.Admitted r)

-- `fifth`
unfoldable pub fifth_moment : Float → Float → Float
unfolding eval
fifth_moment μ σ = eval (μ ∷ σ ∷ []) [] (fifth (given 0) (given 1))
