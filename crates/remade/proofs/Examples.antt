-- Moments for which the theorem's hypothesis holds, so that it is not empty: computed.
use mathlib.Core.List.{List, [], ◌∷◌}
use lib.Dec.{T}
use lib.Ieee.{Float, round, of_int, add, mul, sub, div}
use Rattle.float.specs.Leaves.{as_f64}
use Rattle.float.specs.Power.{power_of}
use Rattle.formula.specs.Whole.{is_whole}
use Rattle.moments.specs.Comb.{choose}
use Rattle.remade.specs.Remade.{whole_throughout}

-- document 01's raw moments (2, 5, 14, 41, 122)
abbrev pub two_five : List Float
two_five = as_f64 2 ∷ as_f64 5 ∷ as_f64 14 ∷ as_f64 41 ∷ as_f64 122 ∷ []

pub whole_figures : T (whole_throughout two_five)
unfolding whole_throughout is_whole power_of choose round of_int add mul sub div
whole_figures = tt
