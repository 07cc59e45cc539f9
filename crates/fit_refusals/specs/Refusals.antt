-- What the grid and several runs turn away: document 01's entries, in its order of testing. Definitions only.
use Rattle.std.specs.Prelude.{List, [], ◌∷◌, ◌++◌, Bool, true, ◌&&◌, not, cond, ℕ, zero, suc, ◌*◌, ◌-◌, ltb, eqb, length, get_or, Float, Ok}
use Rattle.std.specs.Float.{nan, float_is_finite}
use Rattle.std.specs.Float.Ieee.{lt}
use Rattle.float.specs.Constants.{nought}
use Rattle.float.specs.Upper.{upper_of}
use Rattle.refusal.specs.Numbers.{Checked}
use Rattle.refusal.specs.Rules.{Rule, ◌⇒◌, first_refusal}
use Rattle.refusal.specs.declared.Refusal.TheVariants.{TooFewMoments, TooManyMoments, UnknownVariant, BadEpsilon, TooManyRows, TooFewWeights, BadWeight, TooLittleRoom, TooManyRuns}
use Rattle.walk.specs.Variants.{is_variant}
use Rattle.walk.specs.Walk.{is_weight}
use Rattle.fit_state.specs.declared.M2N.{M2N}

-- rows 1 to upper - 1
unfoldable pub rows_of : Float → ℕ
unfolding upper_of
rows_of epsilon = upper_of epsilon - 1

-- the first n are weights
unfoldable pub all_weights : List Float → ℕ → Bool
all_weights weights zero = true
all_weights weights (suc i) = all_weights weights i && is_weight (get_or weights i nan)

-- finite and above 0
abbrev pub is_spacing : Float → Bool
is_spacing epsilon = float_is_finite epsilon && lt nought epsilon

-- its entry "Grid": epsilon is the one in force, and the weights are counted for so many searches
abbrev pub grid_rules : M2N → Float → ℕ → List Float → List Rule
grid_rules m epsilon runs weights =
    ltb m.len 5 ⇒ TooFewMoments
    ∷ ltb 16 m.len ⇒ TooManyMoments
    ∷ not (is_variant m.variant) ⇒ UnknownVariant
    ∷ not (is_spacing epsilon) ⇒ BadEpsilon
    ∷ ltb 131072 (rows_of epsilon) ⇒ TooManyRows
    ∷ ltb (length weights) (runs * rows_of epsilon) ⇒ TooFewWeights
    ∷ not (all_weights weights (runs * rows_of epsilon)) ⇒ BadWeight
    ∷ []

unfoldable pub grid_refusal : M2N → Float → ℕ → List Float → Checked
grid_refusal m epsilon runs weights = first_refusal (grid_rules m epsilon runs weights)

-- its entry "Several runs": the grid's list stands in it, with weights for all runs
abbrev pub runs_rules : M2N → List Float → ℕ → List Rule
runs_rules m weights places =
    ltb 64 m.n_runs ⇒ TooManyRuns
    ∷ grid_rules m m.epsilon m.n_runs weights
    ++ (ltb places m.n_runs ⇒ TooLittleRoom ∷ [])

-- zero runs look at nothing
unfoldable pub runs_refusal : M2N → List Float → ℕ → Checked
runs_refusal m weights places = cond (eqb m.n_runs 0) (Ok tt) (first_refusal (runs_rules m weights places))
