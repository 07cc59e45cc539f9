-- An admitted weight lies from 0 to 1: the last test of both programs asks it. By induction on the program. Assumes nothing.
use mathlib.Core.Path.{◌≡◌, refl, subst}
use mathlib.Core.List.{List, [], ◌∷◌}
use mathlib.Core.Bool.{Bool, true, false, not, ◌&&◌, cond, true≢false}
use lib.Ieee.{Float}
use Rattle.formula.specs.Formula.{Expr, outside_unit, stops, Stmt, ◌≔◌, fail, Outcome, admitted, inadmissible, run}
use Rattle.step.specs.Steps.{iter_4, iter_5, step_4, step_5, answer, μ₁, μ₂, μ₂', σ₁, σ₂, p₁', p₁''}
use Rattle.step.specs.Weight.{InUnit, WeightsInUnit}
use Rattle.step.specs.declared.Step.{Step}
use Rattle.step.specs.declared.Step.TheVariants.{Admitted, Inadmissible}

-- whether a program's last statement is a test that stops on its final variables
unfoldable last_stops : List Stmt → List Float → List Float → Bool
unfolding stops
last_stops [] g w = false
last_stops ((x ≔ a) ∷ p) g w = last_stops p g w
last_stops (fail t ∷ []) g w = stops g w t
last_stops (fail t ∷ s ∷ p) g w = last_stops (s ∷ p) g w

-- the test q does not stop on the final variables, if there are any
abbrev Passed : (List Float → Bool) → Outcome → Type 0
Passed q inadmissible = Unit
Passed q (admitted w) = q w ≡ false

test : (q : List Float → Bool) (o : Outcome) (b : Bool) → (b ≡ false → Passed q o) → Passed q (cond b inadmissible o)
test q o true h = tt
test q o false h = h refl

-- a program that ends has passed its last test
passes : (p : List Stmt) (g v : List Float) → Passed (last_stops p g) (run p g v)
unfolding last_stops run
passes [] g v = refl
passes ((x ≔ a) ∷ p) g v = passes p g _
passes (fail t ∷ []) g v = test (λ w. stops g w t) (admitted v) (stops g v t) (λ e. e)
passes (fail t ∷ s ∷ p) g v = test (last_stops (s ∷ p) g) (run (s ∷ p) g v) (stops g v t) (λ e. passes (s ∷ p) g v)

-- ---- from the test to the weight
both : (a b : Bool) → not (a && b) ≡ false → (a ≡ true) × (b ≡ true)
both true true e = (refl, refl)
both true false e = absurd (true≢false e)
both false b e = absurd (true≢false e)

abbrev Inside : Step → Type 0
Inside Inadmissible = Unit
Inside (Admitted w) = InUnit w.p_1

inside : (a b c d e : Expr) (g : List Float) (o : Outcome) → Passed (λ w. stops g w (outside_unit e)) o → Inside (answer a b c d e g o)
unfolding stops
inside a b c d e g inadmissible h = tt
inside a b c d e g (admitted w) h = both _ _ h

pub weights_in_unit : WeightsInUnit
unfolding step_4 step_5 last_stops
weights_in_unit m μ p =
    let g : List Float = μ ∷ p ∷ m in (
      λ w e. subst Inside e (inside μ₁ μ₂ σ₁ σ₂ p₁' g (run iter_4 g []) (passes iter_4 g [])),
      λ w e. subst Inside e (inside μ₁ μ₂' σ₁ σ₂ p₁'' g (run iter_5 g []) (passes iter_5 g [])),
    )
