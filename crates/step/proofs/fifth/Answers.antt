-- `step::fifth` meets its contract: by computing the definition. Assumes nothing.
use mathlib.Core.Path.{refl}
use lib.Ieee.{of_bits}
use Rattle.float.specs.Power.{power_of}
use Rattle.step.specs.Parts.{fifth_moment}
use Rattle.step.proofs.fifth.Goals as goal

pub returns : goal.returns
unfolding fifth_moment of_bits power_of
returns c = refl
