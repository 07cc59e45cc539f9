-- Several runs (the Rust's mp_fit): each starts from a copy of the state and takes the next weights. Definitions only.
use Rattle.std.specs.Prelude.{List, [], ◌++◌, ℕ, zero, suc, ◌*◌, ◌≤◌, length, drop, Float, Option, Some, None, Result, Ok, Err}
use Rattle.refusal.specs.Numbers.{if_accepted, unless_refused}
use Rattle.refusal.specs.declared.Refusal.{Refusal}
use Rattle.fit_state.specs.declared.M2N.{M2N}
use Rattle.fit_refusals.specs.Refusals.{rows_of, runs_refusal}
use Rattle.grid.specs.Search.{single_fit}
use Rattle.fit_state.specs.Rows.{flat_in64, rows_in, with_row_at}
use Rattle.fit_state.specs.declared.row.FitResultRow.{FitResultRow}
use Rattle.fit_runs.specs.declared.Flat.{Flat}

-- the rows of a run: at most one, and none where it is refused
abbrev pub rows_out : Result (Option FitResultRow) Refusal → List FitResultRow
rows_out (Ok best) = rows_in best
rows_out (Err e) = []

-- the rows of the first n runs: each is a search from the same state, with the next weights
unfoldable pub rows_to : M2N → List Float → ℕ → List FitResultRow
unfolding single_fit rows_of
rows_to m weights zero = []
rows_to m weights (suc k) = rows_to m weights k ++ rows_out (single_fit m None (drop (k * rows_of m.epsilon) weights)).outcome

-- all rows, and none where the runs are refused
unfoldable pub run_rows : M2N → List Float → ℕ → List FitResultRow
unfolding runs_refusal rows_to
run_rows m weights places = if_accepted (runs_refusal m weights places) (rows_to m weights m.n_runs) []

-- how many rows there are, or the refusal
unfoldable pub mp_fit : M2N → List Float → ℕ → Result ℕ Refusal
unfolding runs_refusal run_rows
mp_fit m weights places = unless_refused (runs_refusal m weights places) (length (run_rows m weights places))

-- the lent list after: the rows, and its places past them as they were
unfoldable pub mp_rows : M2N → List Float → List FitResultRow → List FitResultRow
unfolding run_rows
mp_rows m weights rows = let written = run_rows m weights (length rows) in written ++ drop (length written) rows

-- ---- what the parts promise each other
-- runs that are not refused: at most 64, and where there is one the weights serve all
abbrev pub Runnable : M2N → List Float → Type 0
Runnable m weights = (m.n_runs ≤ 64) × (1 ≤ m.n_runs → (rows_of m.epsilon ≤ 131072) × (m.n_runs * rows_of m.epsilon ≤ length weights))

-- flat numbers with a run's row put behind the first `count`
abbrev pub put_in : List Float → ℕ → Result (Option FitResultRow) Refusal → List Float
put_in numbers count (Err e) = numbers
put_in numbers count (Ok None) = numbers
put_in numbers count (Ok (Some r)) = with_row_at numbers count r

-- all runs
abbrev pub all_runs : M2N → List Float → Flat
all_runs m weights = let rows = rows_to m weights m.n_runs in record { numbers = flat_in64 rows; outcome = Ok (length rows) }

unfoldable pub flat_fit : M2N → List Float → ℕ → Flat
unfolding mp_fit run_rows flat_in64
flat_fit m weights places = record { numbers = flat_in64 (run_rows m weights places); outcome = mp_fit m weights places }
