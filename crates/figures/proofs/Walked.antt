-- The figures of the walk hold in both variants: each is computed.
use mathlib.Core.Path.{refl}
use lib.Ieee.{round, of_int, add, sub, mul, div, neg, eq, lt, le}
use Rattle.std.specs.Float.{float_is_finite}
use Rattle.float.specs.Leaves.{abs_of}
use Rattle.float.specs.Power.{power_of}
use Rattle.float.specs.Root.{root}
use Rattle.moments.specs.Mixture.{get_moments}
use Rattle.step.specs.Steps.{step_4, step_5}
use Rattle.walk.specs.Trail.{step_for}
use Rattle.walk.specs.Walk.{walk_of}
use Rattle.figures.specs.Walks.{Walks}

pub on_four : Walks 1
unfolding walk_of step_for step_4 step_5 get_moments abs_of power_of root round of_int add mul sub div neg eq lt le
on_four = record { one_step = refl; no_error = refl; limit_one = refl; limit_none = refl }

pub on_five : Walks 2
unfolding walk_of step_for step_4 step_5 get_moments abs_of power_of root round of_int add mul sub div neg eq lt le float_is_finite
on_five = record { one_step = refl; no_error = refl; limit_one = refl; limit_none = refl }
