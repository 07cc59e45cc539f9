-- One search over the grid (the Rust's single_fit_loop and centred_fit_loop). Definitions only.
use Rattle.std.specs.Prelude.{List, Bool, ◌&&◌, not, cond, ◌≤◌, eqb, length, get_or, Float, Option, None, Some}
use Rattle.std.specs.Option.{unwrap_or}
use Rattle.std.specs.Float.{nan}
use Rattle.std.specs.Float.Ieee.{eq}
use Rattle.float.specs.Constants.{nought}
use Rattle.fit_state.specs.declared.After.{After}
use Rattle.fit_state.specs.declared.M2N.{M2N}
use Rattle.fit_refusals.specs.Refusals.{rows_of, grid_refusal}
use Rattle.grid_rows.specs.Rows.{search_to}
use Rattle.grid_rows.specs.declared.Search.{Search}
use Rattle.fit_state.specs.State.{answered}
use Rattle.fit_state.specs.Search.{begun, centred_state, deviation_of, moved_row, moved_state}
use Rattle.grid.specs.declared.search.Searched.{Searched}
use Rattle.fit_state.specs.declared.row.FitResultRow.{FitResultRow}

-- the epsilon in force: one given for this search, or the state's own
abbrev pub in_force : M2N → Option Float → Float
in_force m e = unwrap_or e m.epsilon

-- the state that the walks left, and the row that they kept
abbrev pub found_by : Search → Searched
found_by s = record { state = s.state; best = s.best }

-- on the moments as given
unfoldable pub plain_fit : M2N → Float → List Float → Searched
unfolding begun deviation_of search_to rows_of
plain_fit m epsilon weights = found_by (search_to (begun m epsilon) (deviation_of m) weights (rows_of epsilon))

-- the row moved back to the mean
abbrev pub moved_best : M2N → Option FitResultRow → Option FitResultRow
moved_best m None = None
moved_best m (Some r) = Some (moved_row m r)

-- about the mean, then moved back
unfoldable pub centred_fit : M2N → Float → List Float → Searched
unfolding plain_fit centred_state moved_state moved_row
centred_fit m epsilon weights =
    let s = plain_fit (centred_state m) epsilon weights in record { state = moved_state m epsilon s.state.parameters; best = moved_best m s.best }

-- only variant 2 with a nonzero first moment, and NaN counts as nonzero
abbrev pub is_centred : M2N → Bool
is_centred m = eqb m.variant 2 && not (eq (get_or m.moments 0 nan) nought)

-- a search that is not refused
unfoldable pub fit_of : M2N → Float → List Float → Searched
unfolding plain_fit centred_fit
fit_of m epsilon weights = cond (is_centred m) (centred_fit m epsilon weights) (plain_fit m epsilon weights)

-- the state after a search, and how it went: at most one row, unless it was refused
abbrev pub Fitted : Type 0
Fitted = After (Option FitResultRow)

unfoldable pub single_fit : M2N → Option Float → List Float → Fitted
unfolding grid_refusal fit_of
single_fit m e weights = let s = fit_of m (in_force m e) weights in answered (grid_refusal m (in_force m e) 1 weights) m s.state s.best

-- what a search that is not refused rests on
abbrev pub Served : M2N → Float → List Float → Type 0
Served m epsilon weights = (m.len ≤ 16) × (rows_of epsilon ≤ 131072) × (rows_of epsilon ≤ length weights)
