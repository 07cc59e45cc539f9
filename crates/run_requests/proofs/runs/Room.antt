-- Several runs by the room for their rows: room for more than 64 is as good as room for 64. By the refusals in their order. Assumes nothing.
use Prim.Native.Nat.{ℕ, ◌≤◌, min}
use mathlib.Core.Path.{◌≡◌, ◌∙◌}
use mathlib.Core.List.{List, ◌++◌, append_assoc}
use native.Mathlib.Omega.{arith}
use lib.Ieee.{Float}
use lib.ListN.{drop, length, length-append, length-drop, take}
use lib.Seq.{length-take-le, take-append_seam}
use Rattle.std.proofs.Common.{Ok, Result}
use Rattle.std.proofs.lemmas.Bool.Decides.{nat_tests}
use Rattle.refusal.specs.declared.Refusal.{Refusal}
use Rattle.fit_state.specs.declared.M2N.{M2N}
use Rattle.fit_state.specs.declared.row.FitResultRow.{FitResultRow}
use Rattle.fit_refusals.specs.Refusals.{runs_refusal}
use Rattle.fit_runs.specs.Runs.{mp_fit, mp_rows, run_rows}
use Rattle.fit_runs.proofs.Running.{count_is, few_rows}

module _ (m : M2N) (ws : List Float) (room : ℕ) where
  refused_in : runs_refusal m ws (min room 64) ≡ runs_refusal m ws room
  unfolding runs_refusal
  refused_in = grind (arith, nat_tests)

  rows_in : run_rows m ws (min room 64) ≡ run_rows m ws room
  unfolding run_rows
  rows_in = rw refused_in

  fit_in : mp_fit m ws (min room 64) ≡ mp_fit m ws room
  unfolding mp_fit
  fit_in = rw (rows_in, refused_in)

  pub few : (n : ℕ) → mp_fit m ws room ≡ Ok n → (n ≤ room) × (n ≤ 64)
  few n e = rw (← count_is m ws room n e) (few_rows m ws room)

  -- of 64 rows the first k are lent
  module _ (rows : List FitResultRow) (k : ℕ) (long : length rows ≡ 64) (is : k ≡ min room 64) where
    lent : length (take k rows) ≡ min room 64
    lent = length-take-le k rows (omega arith) ∙ is

    pub answered : {r x : Result ℕ Refusal} → r ≡ mp_fit m ws (length (take k rows)) → r ≡ x → mp_fit m ws room ≡ x
    answered e h = rw (← fit_in, ← lent, ← e) h

    pub all_rows : (after : List FitResultRow) → length after ≡ length (take k rows) → length (after ++ drop k rows) ≡ 64
    all_rows after e = omega (arith, length-append after (drop k rows), length-drop k rows, lent, e)

    pub rows_lent : (n : ℕ) → mp_fit m ws room ≡ Ok n → take n (mp_rows m ws (take k rows) ++ drop k rows) ≡ run_rows m ws room
    unfolding mp_rows
    rows_lent n e = rw (← count_is m ws room n e, lent, rows_in, append_assoc (run_rows m ws room)) (take-append_seam _ _)
