-- `step::variance::variance_at` meets its contract: by computing the definition. Assumes nothing.
use mathlib.Core.Path.{refl}
use lib.Ieee.{of_bits}
use Rattle.formula.specs.Formula.{eval}
use Rattle.float.specs.Power.{power_of}
use Rattle.step.specs.Parts.{variance_at}
use Rattle.step.proofs.variance.variance_at.Goals as goal

pub returns : goal.returns
unfolding variance_at eval of_bits power_of
returns c = refl
