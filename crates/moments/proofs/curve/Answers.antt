-- `moments::curve` meets its contract: by computing the definition. Assumes nothing.
use mathlib.Core.Path.{refl}
use lib.Ieee.{of_bits}
use Rattle.float.specs.Power.{power_of}
use Rattle.moments.specs.Mixture.{curve_moments}
use Rattle.moments.proofs.curve.Goals as goal

pub returns : goal.returns
unfolding curve_moments power_of of_bits
returns c = refl
