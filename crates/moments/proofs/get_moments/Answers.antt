-- `moments::get_moments` meets its contract: the program of formulas, run, is the code, with each curve's moments. Assumes nothing.
use mathlib.Core.Path.{refl}
use lib.Ieee.{of_bits}
use Rattle.float.specs.Power.{power_of}
use Rattle.moments.specs.Mixture.{curve_moments, get_moments}
use Rattle.moments.proofs.get_moments.Goals as goal

pub returns : goal.returns
unfolding get_moments curve_moments power_of of_bits
returns c = rw (c.curve-a.ensures, c.curve-b.ensures) refl
