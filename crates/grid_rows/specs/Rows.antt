-- The rows of a search (the loop of the Rust's single_fit_loop). Definitions only.
use Rattle.std.specs.Prelude.{List, cond, ◌≡◌, ℕ, zero, suc, ◌+◌, ◌<◌, pos, get_or, length, Float, Some, None}
use Rattle.std.specs.Float.{nan, binary64}
use Rattle.std.specs.Float.Ieee.{add, mul, of_int, lt}
use Rattle.step.specs.Steps.{sigma2_squared}
use Rattle.walk.specs.Walk.{walk_of}
use Rattle.fit_state.specs.declared.M2N.{M2N}
use Rattle.fit_state.specs.Rows.{kept_row}
use Rattle.grid_rows.specs.declared.Search.{Search}

-- the starting mean of row i: ((i * epsilon) * factor) * deviation + m_1
unfoldable pub mean_of : M2N → Float → ℕ → Float
mean_of m deviation i = add binary64 (mul binary64 (mul binary64 (mul binary64 (of_int binary64 (pos i)) m.epsilon) m.factor) deviation) (get_or m.moments 0 nan)

-- the state after a row's walk: a strictly smaller error than any row's before it makes the row
abbrev pub looked : Search → M2N → Search
looked s m = cond (lt m.error s.err_min) (record { state = m; err_min = m.error; best = Some (kept_row m) }) (record { state = m; err_min = s.err_min; best = s.best })

-- the search after the first n rows; the error carries over from row to row
unfoldable pub search_to : M2N → Float → List Float → ℕ → Search
unfolding mean_of walk_of
search_to m deviation weights zero = record { state = m; err_min = m.error; best = None }
search_to m deviation weights (suc i) =
    let s = search_to m deviation weights i in looked s (walk_of s.state (mean_of m deviation (suc i)) (get_or weights i nan)).state

-- ---- what the parts promise each other
-- the starting means of the k rows after the first `from`, of 256 at most
abbrev pub Means : M2N → Float → ℕ → ℕ → List Float → Type 0
Means m deviation from k u = (j : ℕ) → j < 256 → j < k → get_or u j nan ≡ mean_of m deviation (suc (from + j))

-- σ₂² of the first step from each of 256 means, as far as there are weights
abbrev pub Variances : List Float → List Float → List Float → List Float → Type 0
Variances ms u weights v = (j : ℕ) → j < 256 → j < length weights → get_or v j nan ≡ sigma2_squared ms (get_or u j nan) (get_or weights j nan)
