-- Document 01's figures on epsilon, and two searches that find a row, one of them about the mean, computed through the definitions. The bits are the Rust's.
use Rattle.std.specs.Prelude.{◌≡◌, refl, List, [], ◌∷◌, false, ℕ, Float}
use Rattle.std.specs.Float.{binary64, float_is_finite}
use Rattle.std.specs.Float.Ieee.{round, of_int, of_bits, to_unsigned, add, mul, sub, div, neg, eq, lt, le}
use Rattle.float.specs.Leaves.{abs_of, larger_of, as_f64}
use Rattle.float.specs.Power.{power_of}
use Rattle.float.specs.Root.{root}
use Rattle.float.specs.Upper.{upper_of}
use Rattle.moments.specs.Comb.{choose}
use Rattle.moments.specs.Figures.{half}
use Rattle.moments.specs.Mixture.{get_moments}
use Rattle.moments.specs.Orders.{centred_sum}
use Rattle.step.specs.Steps.{step_4, step_5}
use Rattle.refusal.specs.Numbers.{status_of}
use Rattle.fit_state.specs.Figures.{example_state}
use Rattle.walk.specs.Trail.{step_for}
use Rattle.fit_state.specs.Errors.{sum_of_squares, error_of}
use Rattle.walk.specs.Walk.{walk_of}
use Rattle.fit_state.specs.declared.M2N.{M2N}
use Rattle.fit_refusals.specs.Refusals.{rows_of, all_weights, grid_refusal}
use Rattle.fit_state.specs.Search.{begun, centred_state, moved_error, deviation_of}
use Rattle.fit_state.specs.Rows.{rows_in, flat_of}
use Rattle.grid.specs.Search.{fit_of}
use Rattle.grid_rows.specs.Rows.{mean_of}
use Rattle.figures.specs.Figures.{five, M}

-- on M, with factor 1
abbrev on_M : ℕ → Float → M2N
on_M variant epsilon = record (example_state (five M)) { variant = variant; epsilon = epsilon; factor = as_f64 1 }

-- 1 / n
abbrev part : ℕ → Float
part n = round binary64 false 1 n

-- rows at 1, 1/2 and 2^-17, and the refusals there and at 2^-18, with no weights
pub rows_at : (rows_of (part 1) ∷ rows_of (part 2) ∷ rows_of (part 131072) ∷ []) ≡ 0 ∷ 1 ∷ 131071 ∷ []
unfolding rows_of upper_of larger_of div lt round to_unsigned
rows_at = refl

abbrev refusal_at : ℕ → ℕ
refusal_at n = status_of (grid_refusal (on_M 1 (part n)) (part n) 1 [])

pub refusals_at : (refusal_at 1 ∷ refusal_at 2 ∷ refusal_at 131072 ∷ refusal_at 262144 ∷ []) ≡ 0 ∷ 6 ∷ 6 ∷ 5 ∷ []
unfolding grid_refusal rows_of all_weights upper_of larger_of sub div eq lt round to_unsigned float_is_finite
refusals_at = refl

-- the row of a search with epsilon 1/4 and the weight 1/2 three times
abbrev row_on : ℕ → List Float
row_on variant = flat_of (rows_in (fit_of (on_M variant (part 4)) (part 4) (half 1 ∷ half 1 ∷ half 1 ∷ [])).best)

abbrev bits : ℕ → Float
bits b = of_bits binary64 b

pub row_on_four : row_on 1 ≡ bits 0x3fb088af74be05c0 ∷ bits 0x3ffef77508b41fa4 ∷ bits 0x3ff02ba941985e03 ∷ bits 0x40007366a01a2aec ∷ bits 0x3fe0499379f6f652 ∷ bits 0x40257c92ca5f6624 ∷ []
unfolding fit_of flat_of begun sum_of_squares deviation_of mean_of rows_of upper_of larger_of centred_sum choose walk_of error_of step_for step_4 step_5 get_moments abs_of power_of root round of_int of_bits to_unsigned add mul sub div neg eq lt le
row_on_four = refl

pub row_on_five : row_on 2 ≡ bits 0x3fb088af74be05b8 ∷ bits 0x3ffe07add969aaeb ∷ bits 0x3ff02ba941985e02 ∷ bits 0x40007366a01a2aec ∷ bits 0x3fde6380afc52e9c ∷ bits 0x405051356ab25c4e ∷ []
unfolding fit_of flat_of begun sum_of_squares centred_state moved_error deviation_of mean_of rows_of upper_of larger_of centred_sum choose walk_of error_of step_for step_4 step_5 get_moments abs_of power_of root round of_int of_bits to_unsigned add mul sub div neg eq lt le float_is_finite
row_on_five = refl
