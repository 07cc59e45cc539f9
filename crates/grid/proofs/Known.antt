-- What is known of a state that is not refused, and of what the parts compute of it. Assumes nothing.
use mathlib.Core.Path.{◌≡◌}
use mathlib.Core.List.{List}
use native.Mathlib.Omega.{arith}
use lib.Ieee.{Float}
use Rattle.fit_refusals.proofs.Known.{grid_known}
use Rattle.fit_refusals.specs.Refusals.{grid_refusal}
use Rattle.std.specs.Prelude.{Ok}
use Rattle.fit_state.specs.declared.M2N.{M2N}
use Rattle.grid.specs.Search.{Served}

-- ---- what a search rests on, where it is not refused
pub served : (m : M2N) (epsilon : Float) (weights : List Float) → grid_refusal m epsilon 1 weights ≡ Ok tt → Served m epsilon weights
served m epsilon weights e = let k = grid_known m epsilon 1 weights e in (k.few_moments, k.few_rows, omega arith)
