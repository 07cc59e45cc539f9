-- What the law of whole programs asks of the steps' own text holds, computed; and a step of each kind from whole numbers that meets whole numbers alone, and is admitted.
use mathlib.Core.List.{List, [], ◌∷◌}
use lib.Dec.{T}
use lib.IntN.{pos}
use Rattle.std.specs.Float.{float_is_finite}
use lib.Ieee.{Float, round, of_int, add, mul, sub, div, lt, eq, le}
use Rattle.float.specs.Leaves.{as_f64}
use Rattle.float.specs.Power.{power_of}
use Rattle.float.specs.Root.{root}
use Rattle.formula.specs.Exact.{ExactWhereWhole, Run, ended, ints, rootables_by, whole_constants_by}
use Rattle.formula.specs.Formula.{run}
use Rattle.formula.specs.Met.{met_by, all_whole}
use Rattle.formula.specs.Whole.{is_whole, int_of}
use Rattle.formula.proofs.WholePrograms.{program_exact}
use Rattle.step.specs.ExactSteps.{StepsExact}
use Rattle.moments.specs.Constants.{minus_one}
use Rattle.step.specs.Steps.{iter_4, iter_5}

constants_4 : T (whole_constants_by 0 iter_4)
unfolding whole_constants_by iter_4 is_whole power_of
constants_4 = tt

constants_5 : T (whole_constants_by 0 iter_5)
unfolding whole_constants_by iter_5 is_whole power_of
constants_5 = tt

exact_4 : ExactWhereWhole iter_4
exact_4 g w r = program_exact g iter_4 [] tt constants_4 w r

exact_5 : ExactWhereWhole iter_5
exact_5 g w r = program_exact g iter_5 [] tt constants_5 w r

pub steps_exact : StepsExact
steps_exact = (exact_4, exact_5)

-- ---- from the mean 0, the weight 2 and the moments 2, 9, 26, 73: mu_1 = 1, sigma_2 = 1, sigma_1 = 2 and the weight 1
abbrev start : List Float
start = as_f64 0 ∷ as_f64 2 ∷ as_f64 2 ∷ as_f64 9 ∷ as_f64 26 ∷ as_f64 73 ∷ []

whole_start : T (all_whole (met_by iter_4 start []))
unfolding met_by iter_4 is_whole power_of root round of_int add mul sub div lt eq le
whole_start = tt

rootable_start : T (rootables_by iter_4 start [])
unfolding rootables_by iter_4 int_of power_of root round of_int add mul sub div lt eq le
rootable_start = tt

pub start_exact : Run (ints start) iter_4 [] (ended (pos 1 ∷ pos 3 ∷ pos 1 ∷ pos 1 ∷ pos 4 ∷ pos 2 ∷ pos 70 ∷ pos 1 ∷ []))
unfolding run iter_4 int_of power_of root round of_int add mul sub div lt eq le
start_exact = (exact_4 start whole_start rootable_start).runs

-- ---- from the mean 2, the weight -1 and the moments 3, 8, 24, 76, 26: mu_1 = 1, mu_2 = 2, both deviations 1 and the weight 1
abbrev start_5 : List Float
start_5 = as_f64 2 ∷ minus_one ∷ as_f64 3 ∷ as_f64 8 ∷ as_f64 24 ∷ as_f64 76 ∷ as_f64 26 ∷ []

whole_start_5 : T (all_whole (met_by iter_5 start_5 []))
unfolding met_by iter_5 is_whole power_of root round of_int add mul sub div lt eq le float_is_finite
whole_start_5 = tt

rootable_start_5 : T (rootables_by iter_5 start_5 [])
unfolding rootables_by iter_5 int_of power_of root round of_int add mul sub div lt eq le float_is_finite
rootable_start_5 = tt

pub start_exact_5 : Run (ints start_5) iter_5 [] (ended (pos 1 ∷ pos 6 ∷ pos 1 ∷ pos 1 ∷ pos 1 ∷ pos 1 ∷ pos 49 ∷ pos 7 ∷ pos 4 ∷ pos 2 ∷ pos 26 ∷ pos 142 ∷ pos 1 ∷ []))
unfolding run iter_5 int_of power_of root round of_int add mul sub div lt eq le float_is_finite
start_exact_5 = (exact_5 start_5 whole_start_5 rootable_start_5).runs
