-- What the C functions of the fit answer, and what they leave in the lent numbers. Definitions only.
use Rattle.std.specs.Prelude.{◌≡◌, List, [], ◌∷◌, ◌++◌, ℕ, ◌*◌, ◌/◌, ◌≤◌, length, take, drop, Float, Option, Some, None, Result, Ok, Err}
use Rattle.refusal.specs.Numbers.{first_of, status_of}
use Rattle.refusal.specs.Rules.{first_refusal, room_rules}
use Rattle.refusal.specs.declared.Refusal.{Refusal}
use Rattle.fit_state.specs.declared.M2N.{M2N}
use Rattle.fit_runs.specs.Runs.{flat_fit}
use Rattle.fit_runs.specs.declared.Flat.{Flat}
use Rattle.grid.specs.Search.{Fitted, single_fit}
use Rattle.fit_state.specs.Rows.{six}
use Rattle.fit_state.specs.declared.row.FitResultRow.{FitResultRow}
use Rattle.capi_states.specs.States.{state_of, with_front, with_state}

-- what came of one search, and of several runs
abbrev pub Outcome : Type 0
Outcome = Result (Option FitResultRow) Refusal

abbrev pub Filled : Type 0
Filled = Result ℕ Refusal

-- an empty list gives no override, any other its first number
abbrev pub override_of : List Float → Option Float
override_of [] = None
override_of (x ∷ l) = Some x

-- the lent numbers with a row put into them
abbrev pub with_row : List Float → FitResultRow → List Float
with_row l r = with_front l (six r)

-- how many rows the best fit gives, and where its row goes
abbrev pub how_many : Option FitResultRow → ℕ
how_many None = 0
how_many (Some r) = 1

abbrev pub with_best : List Float → Option FitResultRow → List Float
with_best before None = before
with_best before (Some r) = with_row before r

-- what stands in the lent numbers after: a refusal leaves them as they were
abbrev pub count_of : Outcome → ℕ → ℕ
count_of (Err e) before = before
count_of (Ok b) before = how_many b

abbrev pub fit_after : Outcome → M2N → List Float → List Float
fit_after (Err e) m before = before
fit_after (Ok b) m before = with_state before m

abbrev pub row_after : Outcome → List Float → List Float
row_after (Err e) before = before
row_after (Ok b) before = with_best before b

-- an outcome with its state leaves this answer, fit, row and count, where those were before
abbrev pub SingleFitLeaves : Outcome → M2N → List Float → List Float → ℕ → ℕ → List Float → List Float → ℕ → Type 0
SingleFitLeaves o m fit row rows answer fit' row' rows' = (answer ≡ status_of o) × (fit' ≡ fit_after o m fit) × (row' ≡ row_after o row) × (rows' ≡ count_of o rows)

-- the search that is asked for, and its outcome, refused where fewer than 12 numbers of a fit are lent, or 6 of a row
unfoldable pub fitted : List Float → ℕ → Float → ℕ → List Float → List Float → List Float → Fitted
fitted moments variant factor max-iter override weights fit = single_fit (state_of moments variant factor max-iter 1 fit) (override_of override) weights

unfoldable pub outcome_of : List Float → ℕ → Float → ℕ → List Float → List Float → List Float → List Float → Outcome
outcome_of moments variant factor max-iter override weights fit row = first_of (first_refusal (room_rules (length fit) 12 ++ room_rules (length row) 6)) (fitted moments variant factor max-iter override weights fit).outcome

-- ---- several runs
abbrev pub count_after : Filled → ℕ → ℕ
count_after (Err e) before = before
count_after (Ok n) before = n

-- n rows of flat numbers, six each, in front of what lies past them
abbrev pub rows_after : Filled → List Float → List Float → List Float
rows_after (Err e) numbers before = before
rows_after (Ok n) numbers before = take (6 * n) numbers ++ drop (6 * n) before

-- how several runs went, and their rows' flat numbers, leave this answer, rows and count
abbrev pub MpFitLeaves : Filled → List Float → List Float → ℕ → ℕ → List Float → ℕ → Type 0
MpFitLeaves o numbers rows count answer rows' count' = (answer ≡ status_of o) × (rows' ≡ rows_after o numbers rows) × (count' ≡ count_after o count)

-- there are at most 64 rows, all in the flat numbers, and the lent numbers have room for them
abbrev pub Roomy : Flat → List Float → Type 0
Roomy f rows = (n : ℕ) → f.outcome ≡ Ok n → (n ≤ 64) × (6 * n ≤ length f.numbers) × (6 * n ≤ length rows)

-- the runs that are asked for, with a place for every six lent numbers, and how they went, refused where fewer than 12 numbers of a fit are lent
unfoldable pub ran : List Float → ℕ → Float → ℕ → ℕ → List Float → List Float → List Float → Flat
ran moments variant factor max-iter n-runs weights fit rows = flat_fit (state_of moments variant factor max-iter n-runs fit) weights (length rows / 6)

unfoldable pub filled_of : List Float → ℕ → Float → ℕ → ℕ → List Float → List Float → List Float → Filled
filled_of moments variant factor max-iter n-runs weights fit rows = first_of (first_refusal (room_rules (length fit) 12)) (ran moments variant factor max-iter n-runs weights fit rows).outcome
