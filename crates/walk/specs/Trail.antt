-- The trail of a walk (document 01, "The trail of a walk"): the list of step answers, made from the walk's arguments alone. Definitions only.
use Rattle.std.specs.Prelude.{List, [], ◌∷◌, Bool, cond, ℕ, zero, suc, eqb, Float}
use Rattle.std.specs.Float.{binary64}
use Rattle.std.specs.Float.Ieee.{sub, lt}
use Rattle.float.specs.Leaves.{abs_of}
use Rattle.step.specs.Steps.{step_4, step_5, first_four, first_five}
use Rattle.step.specs.declared.Step.{Step}
use Rattle.step.specs.declared.Step.TheVariants.{Admitted, Inadmissible}

-- the test for settling: |p_1 - new p_1| strictly below epsilon
abbrev pub settled : Float → Float → Float → Bool
settled ε p p' = lt (abs_of (sub binary64 p p')) ε

-- the variant's step on the moments and a pair
unfoldable pub step_for : ℕ → List Float → Float → Float → Step
step_for variant ms μ p = cond (eqb variant 1) (step_4 (first_four ms) μ p) (step_5 (first_five ms) μ p)

-- at most n steps from the pair μ, p: an inadmissible entry is the last, and so is one that passes the test for settling against the pair's weight;
-- after any other, its mu_2 and p_1 are the next pair
unfoldable pub trail_from : (Float → Float → Step) → Float → ℕ → Float → Float → List Step
trail_from step ε zero μ p = []
trail_from step ε (suc n) μ p =
    elim (step μ p) [
      | Admitted r ↦ Admitted r ∷ cond (settled ε p r.p_1) [] (trail_from step ε n r.mu_2 r.p_1)
      | Inadmissible ↦ Inadmissible ∷ []
    ]

-- what a trail is made from, and nothing else
pub record Arguments : Type 0 where
  pub variant : ℕ
  pub moments : List Float
  pub mean : Float
  pub weight : Float
  pub epsilon : Float
  pub max_iter : ℕ

abbrev pub trail : Arguments → List Step
trail a = trail_from (step_for a.variant a.moments) a.epsilon a.max_iter a.mean a.weight
