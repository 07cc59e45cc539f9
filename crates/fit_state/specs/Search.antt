-- Where a search starts, and what is moved back to the mean after it (the Rust's single_fit_loop and centred_fit_loop). Definitions only.
use Rattle.std.specs.Prelude.{◌∷◌, Bool, ◌&&◌, cond, min, get_or, replicate, Float}
use Rattle.std.specs.Float.{nan, binary64}
use Rattle.std.specs.Float.Ieee.{add, eq}
use Rattle.float.specs.Constants.{nought}
use Rattle.float.specs.Root.{root}
use Rattle.moments.specs.Mixture.{get_moments}
use Rattle.moments.specs.Orders.{centred_sum}
use Rattle.moments.specs.declared.Params.{Params}
use Rattle.fit_state.specs.Errors.{error_of, sum_of_squares}
use Rattle.fit_state.specs.Rows.{params_in}
use Rattle.fit_state.specs.declared.M2N.{M2N}
use Rattle.fit_state.specs.declared.row.FitResultRow.{FitResultRow}

-- ---- where a search starts
abbrev pub zeros : Params
zeros = record { mu_1 = nought; mu_2 = nought; sigma_1 = nought; sigma_2 = nought; p_1 = nought }

-- the tolerance in force is stored, nothing is kept, and the error is the sum of all given squares, of which a state has 16 at most
unfoldable pub begun : M2N → Float → M2N
unfolding sum_of_squares
begun m epsilon = record m { epsilon = epsilon; parameters = zeros; error = sum_of_squares m.moments (min m.len 16) }

-- the standard deviation that the moments imply
unfoldable pub deviation_of : M2N → Float
unfolding centred_sum root
deviation_of m = root binary64 (centred_sum m.moments 2)

-- ---- about the mean
-- the inner fit: the centred moments of order 1 to 5, the first set to 0
unfoldable pub centred_state : M2N → M2N
unfolding centred_sum
centred_state m = record m {
  moments = nought ∷ centred_sum m.moments 2 ∷ centred_sum m.moments 3 ∷ centred_sum m.moments 4 ∷ centred_sum m.moments 5 ∷ replicate 11 nought;
  len = 5;
}

-- the mean added back to both means
abbrev pub moved : M2N → Params → Params
moved m p = record p { mu_1 = add binary64 p.mu_1 (get_or m.moments 0 nan); mu_2 = add binary64 p.mu_2 (get_or m.moments 0 nan) }

-- the error worked out anew, from raw moments
unfoldable pub moved_error : M2N → Params → Float
unfolding error_of get_moments
moved_error m p = error_of m (get_moments (moved m p))

-- five kept zeros: nothing was kept
abbrev pub all_zero : Params → Bool
all_zero p = eq p.mu_1 nought && eq p.mu_2 nought && eq p.sigma_1 nought && eq p.sigma_2 nought && eq p.p_1 nought

unfoldable pub moved_state : M2N → Float → Params → M2N
unfolding begun moved_error
moved_state m epsilon p = cond (all_zero p) (begun m epsilon) (record m { epsilon = epsilon; parameters = moved m p; error = moved_error m p })

unfoldable pub moved_row : M2N → FitResultRow → FitResultRow
unfolding moved_error
moved_row m r =
    let p = moved m (params_in r) in record r { mu_1 = p.mu_1; mu_2 = p.mu_2; error = moved_error m (params_in r) }
