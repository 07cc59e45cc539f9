-- The degrees of the steps' variables, each by computation; and that the format holds the steps' constants. Assumes nothing.
use mathlib.Core.Path.{◌≡◌, refl}
use mathlib.Core.List.{List, [], ◌∷◌}
use Prim.Native.Nat.{ℕ}
use lib.Dec.{T}
use lib.Ieee.{fits}
use Rattle.std.specs.Float.{float_is_finite}
use Rattle.float.specs.Power.{power_of}
use Rattle.formula.specs.Degree.{each, degrees}
use Rattle.formula.proofs.Scaled.{constants_fit_by}
use Rattle.step.specs.Steps.{iter_4, iter_5}

-- of what is given: the mean has degree 1, the weight 0, the k-th moment k
abbrev pub given_4 : List ℕ
given_4 = 1 ∷ 0 ∷ 1 ∷ 2 ∷ 3 ∷ 4 ∷ []

abbrev pub given_5 : List ℕ
given_5 = 1 ∷ 0 ∷ 1 ∷ 2 ∷ 3 ∷ 4 ∷ 5 ∷ []

-- of the variables, in the order of their definition
abbrev pub vars_4 : List ℕ
vars_4 = 1 ∷ 1 ∷ 2 ∷ 1 ∷ 2 ∷ 1 ∷ 4 ∷ 0 ∷ []

abbrev pub vars_5 : List ℕ
vars_5 = 1 ∷ 1 ∷ 2 ∷ 1 ∷ 2 ∷ 1 ∷ 4 ∷ 2 ∷ 2 ∷ 1 ∷ 5 ∷ 5 ∷ 0 ∷ []

pub degrees_4 : degrees iter_4 given_4 [] ≡ each vars_4
unfolding degrees iter_4 power_of float_is_finite
degrees_4 = refl

pub degrees_5 : degrees iter_5 given_5 [] ≡ each vars_5
unfolding degrees iter_5 power_of float_is_finite
degrees_5 = refl

pub constants_4 : T (constants_fit_by iter_4)
unfolding constants_fit_by iter_4 power_of fits
constants_4 = tt

pub constants_5 : T (constants_fit_by iter_5)
unfolding constants_fit_by iter_5 power_of fits
constants_5 = tt
