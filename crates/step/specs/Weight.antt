-- The statement that an admitted weight lies from 0 to 1. Definitions only; `proofs/Weight.antt` proves `WeightsInUnit`.
use Rattle.std.specs.Prelude.{◌≡◌, List, true, Float}
use Rattle.std.specs.Float.Ieee.{le}
use Rattle.float.specs.Constants.{nought, one}
use Rattle.moments.specs.declared.Params.{Params}
use Rattle.step.specs.Steps.{step_4, step_5}
use Rattle.step.specs.declared.Step.{Step}
use Rattle.step.specs.declared.Step.TheVariants.{Admitted}

-- from 0 to 1; `le` makes no difference between the zeros, so -0 is allowed
abbrev pub InUnit : Float → Type 0
InUnit x = (le nought x ≡ true) × (le x one ≡ true)

-- the p_1 that a step answers where it admits
abbrev pub WeightInUnit : Step → Type 0
WeightInUnit s = (w : Params) → s ≡ Admitted w → InUnit w.p_1

abbrev pub WeightsInUnit : Type 0
WeightsInUnit = (m : List Float) (μ p : Float) → WeightInUnit (step_4 m μ p) × WeightInUnit (step_5 m μ p)
