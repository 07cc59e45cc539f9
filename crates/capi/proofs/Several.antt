-- Several runs for C: there is room for their rows, and what they leave where `fit` is too short and where it is not. Assumes nothing.
use mathlib.Core.Path.{◌≡◌, refl, sym, ap, ◌∙◌}
use mathlib.Core.List.{List}
use Prim.Native.Nat.{ℕ, ◌/◌, ◌≤◌, ◌<◌}
use native.Mathlib.Omega.{arith}
use lib.ListN.{length}
use lib.Ieee.{Float}
use borrow.Author.Tests.{lt-ltb, le-ltb}
use Rattle.fit_state.specs.declared.M2N.{M2N}
use Rattle.fit_state.proofs.Flats.{length_flat_64}
use Rattle.fit_runs.proofs.Running.{count_is, few_rows}
use Rattle.std.proofs.Common.{Err}
use Rattle.refusal.specs.declared.Refusal.TheVariants.{TooLittleRoom}
use Rattle.fit_runs.specs.Runs.{flat_fit, mp_fit, run_rows}
use Rattle.fit_runs.specs.declared.Flat.{Flat}
use Rattle.capi.specs.Fits.{MpFitLeaves, Roomy, filled_of, ran}
use Rattle.capi_states.specs.States.{state_of}

-- ---- room
outcome_of_lem : (m : M2N) (weights : List Float) (places : ℕ) → (flat_fit m weights places).outcome ≡ mp_fit m weights places
unfolding flat_fit
outcome_of_lem m weights places = refl

numbers_of : (m : M2N) (weights : List Float) (places : ℕ) → length (run_rows m weights places) ≤ 64 → length (flat_fit m weights places).numbers ≡ 384
unfolding flat_fit
numbers_of m weights places h = length_flat_64 (run_rows m weights places) h

pub roomy : (m : M2N) (weights rows : List Float) (f : Flat) → f ≡ flat_fit m weights (length rows / 6) → Roomy f rows
roomy m weights rows f h n e =
    let places = length rows / 6 in
    let l : length (run_rows m weights places) ≡ n = count_is m weights places n (sym (outcome_of_lem m weights places) ∙ sym (ap (λ (x : Flat). x.outcome) h) ∙ e) in
    let few = few_rows m weights places in
    (omega arith, rw h (rw (numbers_of m weights places few.1) (omega arith)), omega arith)

-- ---- the answer
module _ (moments : List Float) (variant : ℕ) (factor : Float) (max-iter n-runs : ℕ) (weights fit rows : List Float) where
  pub short : length fit < 12 → filled_of moments variant factor max-iter n-runs weights fit rows ≡ Err TooLittleRoom
  unfolding filled_of
  short h = rw (lt-ltb (length fit) 12 h)

  wide : 12 ≤ length fit → filled_of moments variant factor max-iter n-runs weights fit rows ≡ (ran moments variant factor max-iter n-runs weights fit rows).outcome
  unfolding filled_of
  wide h = rw (le-ltb (length fit) 12 h)

  found : (m : M2N) (f : Flat) → m ≡ state_of moments variant factor max-iter n-runs fit → f ≡ flat_fit m weights (length rows / 6) → f ≡ ran moments variant factor max-iter n-runs weights fit rows
  unfolding ran
  found m f hm hf = hf ∙ ap (λ x. flat_fit x weights (length rows / 6)) hm

  -- what the runs leave, where they are those that the definition names
  pub leaves : (m : M2N) (f : Flat) (count answer : ℕ) (rows' : List Float) (count' : ℕ) → m ≡ state_of moments variant factor max-iter n-runs fit → f ≡ flat_fit m weights (length rows / 6) → 12 ≤ length fit
      → MpFitLeaves f.outcome f.numbers rows count answer rows' count'
      → MpFitLeaves (filled_of moments variant factor max-iter n-runs weights fit rows) (ran moments variant factor max-iter n-runs weights fit rows).numbers rows count answer rows' count'
  leaves m f count answer rows' count' hm hf h left = rw (wide h, ← found m f hm hf) left
