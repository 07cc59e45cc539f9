-- Document 01's figures of the walk, for a variant: "Walk on M from (2, 0.5), epsilon 0.25, error 179975.5 before: 1 step, error 0, settled; with `max_iter` 1, spent; with 0, 0 steps, spent."
use Rattle.std.specs.Prelude.{◌≡◌, ℕ, Ok}
use Rattle.fit_state.specs.Figures.{example_state}
use Rattle.walk.specs.Walk.{Walked, walk_of}
use Rattle.fit_state.specs.declared.M2N.{M2N}
use Rattle.walk.specs.declared.Reason.TheVariants.{Settled, Spent}
use Rattle.figures.specs.Figures.{◌·◌, five, M}

abbrev before : ℕ → ℕ → M2N
before variant limit = record (example_state (five M)) { variant = variant; max_iter = limit; error = 179975 · 5 }

abbrev walked : ℕ → ℕ → Walked
walked variant limit = walk_of (before variant limit) (2 · 0) (0 · 5)

pub record Walks (variant : ℕ) : Type 0 where
  pub one_step : (walked variant 100).outcome ≡ Ok (record { count = 1; reason = Settled })
  pub no_error : (walked variant 100).state.error ≡ 0 · 0
  pub limit_one : (walked variant 1).outcome ≡ Ok (record { count = 1; reason = Spent })
  pub limit_none : (walked variant 0).outcome ≡ Ok (record { count = 0; reason = Spent })
