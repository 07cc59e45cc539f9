-- A row of six numbers, what it is made of, and rows as flat numbers. Definitions only.
use Rattle.std.specs.Prelude.{ℕ, zero, suc, ◌*◌, ◌-◌, ◌/◌, cond, ltb, length, drop, replicate, List, [], ◌∷◌, ◌++◌, get_or, Float, Option, None, Some}
use Rattle.std.proofs.lemmas.List.Edits.{sets}
use Rattle.std.specs.Float.{nan}
use Rattle.float.specs.Constants.{nought}
use Rattle.moments.specs.declared.Params.{Params}
use Rattle.fit_state.specs.declared.M2N.{M2N}
use Rattle.fit_state.specs.declared.row.FitResultRow.{FitResultRow}

abbrev pub row_of : Params → Float → FitResultRow
row_of p error = record { mu_1 = p.mu_1; mu_2 = p.mu_2; sigma_1 = p.sigma_1; sigma_2 = p.sigma_2; p_1 = p.p_1; error = error }

-- the row of the fit that a state has kept
abbrev pub kept_row : M2N → FitResultRow
kept_row m = row_of m.parameters m.error

abbrev pub params_in : FitResultRow → Params
params_in r = record { mu_1 = r.mu_1; mu_2 = r.mu_2; sigma_1 = r.sigma_1; sigma_2 = r.sigma_2; p_1 = r.p_1 }

-- a search gives at most one row
abbrev pub rows_in : Option FitResultRow → List FitResultRow
rows_in None = []
rows_in (Some r) = r ∷ []

-- a row as six numbers, and back
abbrev pub six : FitResultRow → List Float
six r = r.mu_1 ∷ r.mu_2 ∷ r.sigma_1 ∷ r.sigma_2 ∷ r.p_1 ∷ r.error ∷ []

abbrev pub row_from : List Float → FitResultRow
row_from l = record { mu_1 = get_or l 0 nan; mu_2 = get_or l 1 nan; sigma_1 = get_or l 2 nan; sigma_2 = get_or l 3 nan; p_1 = get_or l 4 nan; error = get_or l 5 nan }

-- ---- rows as flat numbers, six each
-- row i of flat numbers
abbrev pub row_at : List Float → ℕ → FitResultRow
row_at numbers i = row_from (drop (6 * i) numbers)

-- the first n rows
unfoldable pub rows_at : List Float → ℕ → List FitResultRow
rows_at numbers zero = []
rows_at numbers (suc i) = rows_at numbers i ++ (row_at numbers i ∷ [])

-- flat numbers with another row i, as far as they go
abbrev pub with_row_at : List Float → ℕ → FitResultRow → List Float
with_row_at numbers i r = sets numbers (6 * i) (six r)

-- where there is room for all six, and else the numbers as they are
abbrev pub with_row_in : List Float → ℕ → FitResultRow → List Float
with_row_in numbers i r = cond (ltb i (length numbers / 6)) (with_row_at numbers i r) numbers

unfoldable pub flat_of : List FitResultRow → List Float
flat_of [] = []
flat_of (r ∷ rows) = six r ++ flat_of rows

-- in 64 places, zeros behind the rows
unfoldable pub flat_in64 : List FitResultRow → List Float
unfolding flat_of
flat_in64 rows = flat_of rows ++ replicate (384 - length (flat_of rows)) nought
