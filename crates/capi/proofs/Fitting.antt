-- One search for C: its outcome where the lent slices are too short, and where they are not. Assumes nothing.
use mathlib.Core.Path.{◌≡◌, ap, ◌∙◌}
use mathlib.Core.List.{List}
use Prim.Native.Nat.{ℕ, ◌≤◌, ◌<◌}
use lib.ListN.{length}
use lib.Ieee.{Float}
use borrow.Author.Tests.{lt-ltb, le-ltb}
use Rattle.fit_state.specs.declared.M2N.{M2N}
use Rattle.grid.specs.Search.{Fitted, single_fit}
use Rattle.std.proofs.Common.{Option, Err, ◌⊎◌, inl, inr}
use Rattle.refusal.specs.declared.Refusal.TheVariants.{TooLittleRoom}
use Rattle.capi.specs.Fits.{SingleFitLeaves, fitted, outcome_of, override_of}
use Rattle.capi_states.specs.States.{state_of}

module _ (moments : List Float) (variant : ℕ) (factor : Float) (max-iter : ℕ) (override weights fit row : List Float) where
  pub too_short : (length fit < 12) ⊎ ((12 ≤ length fit) × (length row < 6)) → outcome_of moments variant factor max-iter override weights fit row ≡ Err TooLittleRoom
  unfolding outcome_of
  too_short (inl h) = rw (lt-ltb (length fit) 12 h)
  too_short (inr (g, h)) = rw (le-ltb (length fit) 12 g, lt-ltb (length row) 6 h)

  wide : 12 ≤ length fit → 6 ≤ length row → outcome_of moments variant factor max-iter override weights fit row ≡ (fitted moments variant factor max-iter override weights fit).outcome
  unfolding outcome_of
  wide h g = rw (le-ltb (length fit) 12 h, le-ltb (length row) 6 g)

  found : (m : M2N) (e : Option Float) (r : Fitted) → m ≡ state_of moments variant factor max-iter 1 fit → e ≡ override_of override → r ≡ single_fit m e weights → r ≡ fitted moments variant factor max-iter override weights fit
  unfolding fitted
  found m e r hm he hr = hr ∙ ap (λ x. single_fit x e weights) hm ∙ ap (λ x. single_fit (state_of moments variant factor max-iter 1 fit) x weights) he

  -- what a search leaves, where the search is the one that the definition names
  pub leaves : (m : M2N) (e : Option Float) (r : Fitted) (rows answer : ℕ) (fit' row' : List Float) (rows' : ℕ) → m ≡ state_of moments variant factor max-iter 1 fit → e ≡ override_of override → r ≡ single_fit m e weights
      → 12 ≤ length fit → 6 ≤ length row → SingleFitLeaves r.outcome r.state fit row rows answer fit' row' rows'
      → SingleFitLeaves (outcome_of moments variant factor max-iter override weights fit row) (fitted moments variant factor max-iter override weights fit).state fit row rows answer fit' row' rows'
  leaves m e r rows answer fit' row' rows' hm he hr h g left = rw (wide h g, ← found m e r hm he hr) left
