-- What is known of several runs' flat numbers: how many rows there are, that they fit, and that they are mp_rows. Assumes nothing.
use mathlib.Core.Path.{◌≡◌, sym, ◌∙◌, ap}
use mathlib.Core.List.{List, ◌++◌}
use Prim.Native.Nat.{ℕ, ◌*◌, ◌≤◌}
use native.Mathlib.Omega.{arith}
use lib.ListN.{length, drop}
use lib.Ieee.{Float}
use Rattle.std.proofs.Common.{Ok, Err}
use Rattle.refusal.specs.declared.Refusal.{Refusal}
use Rattle.fit_state.specs.declared.M2N.{M2N}
use Rattle.fit_state.specs.Rows.{rows_at}
use Rattle.fit_runs.specs.Runs.{run_rows, flat_fit, mp_fit, mp_rows}
use Rattle.fit_state.specs.declared.row.FitResultRow.{FitResultRow}
use Rattle.fit_runs.specs.declared.Flat.{Flat}
use Rattle.fit_state.proofs.Flats.{length_flat_64}
use Rattle.fit_runs.proofs.Running.{few_rows, flat_rows, count_is, none_run}

pub outcome_is : (m : M2N) (weights : List Float) (places : ℕ) (r : Flat) → r ≡ flat_fit m weights places → r.outcome ≡ mp_fit m weights places
unfolding flat_fit
outcome_is m weights places r e = ap (λ (x : Flat). x.outcome) e

numbers_long : (m : M2N) (weights : List Float) (places : ℕ) (r : Flat) → r ≡ flat_fit m weights places → length r.numbers ≡ 384
unfolding flat_fit
numbers_long m weights places r e = ap (λ (x : Flat). length x.numbers) e ∙ length_flat_64 (run_rows m weights places) (few_rows m weights places).1

module _ (m : M2N) (weights : List Float) (rows : List FitResultRow) (r : Flat) where
  counted : (n : ℕ) → r ≡ flat_fit m weights (length rows) → r.outcome ≡ Ok n → length (run_rows m weights (length rows)) ≡ n
  counted n e h = count_is m weights (length rows) n (sym (outcome_is m weights (length rows) r e) ∙ h)

  pub rows_fit : (n : ℕ) → r ≡ flat_fit m weights (length rows) → r.outcome ≡ Ok n → (n ≤ length rows) × (6 * n ≤ length r.numbers)
  rows_fit n e h =
      let few = few_rows m weights (length rows) in
      (omega (arith, few.0, counted n e h), omega (arith, few.1, counted n e h, numbers_long m weights (length rows) r e))

  pub rows_are : (n : ℕ) → r ≡ flat_fit m weights (length rows) → r.outcome ≡ Ok n → rows_at r.numbers n ++ drop n rows ≡ mp_rows m weights rows
  unfolding flat_fit mp_rows
  rows_are n e h =
      ap (λ k. rows_at r.numbers k ++ drop k rows) (sym (counted n e h))
      ∙ ap (λ (x : Flat). rows_at x.numbers (length (run_rows m weights (length rows))) ++ drop (length (run_rows m weights (length rows))) rows) e
      ∙ ap (λ (l : List FitResultRow). l ++ drop (length (run_rows m weights (length rows))) rows) (flat_rows m weights (length rows))

  pub rows_stay : (x : Refusal) → r ≡ flat_fit m weights (length rows) → r.outcome ≡ Err x → rows ≡ mp_rows m weights rows
  unfolding mp_rows
  rows_stay x e h = ap (λ (l : List FitResultRow). l ++ drop (length l) rows) (sym (none_run m weights (length rows) x (sym (outcome_is m weights (length rows) r e) ∙ h)))
