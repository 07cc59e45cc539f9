-- What iter_4 and iter_5 answer: document 01's refusals in its order, and otherwise the step on the first moments. Definitions only.
use Rattle.std.specs.Prelude.{List, ◌++◌, ℕ, length, take, drop, replicate, Float, Result}
use Rattle.float.specs.Constants.{nought}
use Rattle.moments.specs.Lists.{five_of}
use Rattle.moments.specs.Refusals.{length_rules}
use Rattle.moments.specs.declared.Five.{Five}
use Rattle.refusal.specs.Numbers.{unless_refused}
use Rattle.refusal.specs.Rules.{first_refusal}
use Rattle.refusal.specs.declared.Refusal.{Refusal}
use Rattle.step.specs.Steps.{step_4, step_5, first_four, first_five}
use Rattle.step.specs.declared.Step.{Step}

unfoldable pub iter4 : List Float → Float → Float → Result Step Refusal
unfolding step_4
iter4 m μ p = unless_refused (first_refusal (length_rules (length m) 4)) (step_4 (first_four m) μ p)

unfoldable pub iter5 : List Float → Float → Float → Result Step Refusal
unfolding step_5
iter5 m μ p = unless_refused (first_refusal (length_rules (length m) 5)) (step_5 (first_five m) μ p)

-- the moments that a step reads, and zeros up to five
abbrev pub read : List Float → ℕ → Result Five Refusal
read m needed = unless_refused (first_refusal (length_rules (length m) needed)) (five_of (take needed m ++ drop needed (replicate 5 nought)))
