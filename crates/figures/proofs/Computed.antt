-- The starred figures hold, and so does what is said of too many lots: the left side of each row is computed, and is the right side.
use mathlib.Core.Path.{refl}
use lib.Ieee.{round, of_int, add, sub, mul, div, neg, eq, lt, le, to_signed}
use Rattle.std.specs.Float.{float_is_infinite, float_is_finite}
use Rattle.float.specs.Leaves.{abs_of}
use Rattle.float.specs.Power.{power_of}
use Rattle.float.specs.Root.{root}
use Rattle.moments.specs.Comb.{choose}
use Rattle.moments.specs.Mixture.{get_moments}
use Rattle.moments.specs.Refusals.{centred_moment, raw_moment, raw_out}
use Rattle.prices.specs.Prices.{get_w_sigmoid, inv_price_sigmoid}
use Rattle.limit_price.specs.LimitPrice.{limit_price_sigmoid}
use Rattle.iterate.specs.Refusals.{iter4, iter5}
use Rattle.figures.specs.Figures.{Figures}
use Rattle.figures.specs.LimitPrices.{Refusals}

infixr 60 ◌and◌
abbrev ◌and◌ : {A B : Type 0} → A → B → A × B
a and b = (a, b)

pub figures : Figures
unfolding Figures get_moments centred_moment raw_moment raw_out choose iter4 iter5 get_w_sigmoid inv_price_sigmoid limit_price_sigmoid to_signed float_is_infinite abs_of power_of root round of_int add sub mul div neg eq lt le float_is_finite
figures =
    -- the moments of mixtures, centred ones, raw ones
    refl and refl
    and refl and refl and refl and refl
    and refl and refl and refl and refl
    -- the steps
    and refl and refl
    and refl and refl
    and refl and refl
    -- the width, the price, the limit prices
    and refl and refl
    and refl
    and refl and refl and refl and refl
    and tt

pub refusals : Refusals
unfolding limit_price_sigmoid to_signed round of_int
refusals = record { too_many = refl; too_many_down = refl; not_too_many = refl; end_to_end = refl; infinities = refl; none_at_an_end = refl }
