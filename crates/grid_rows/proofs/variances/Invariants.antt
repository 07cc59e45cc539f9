use Rattle.std.proofs.Common.{◌≡◌, ℕ, ◌<◌, ◌≤◌, length, get_or}
use lib.Ieee.{nan}
use Rattle.moments.specs.Lists.{listed}
use Rattle.step.specs.Steps.{sigma2_squared}
use Rattle.grid_rows.proofs.variances.Given as goal

abbrev pub invariant-loop-j : goal.invariant-loop-j
invariant-loop-j l =
    let u = l.initial.v in
    (length l.v ≡ 256) × ((i : ℕ) → i < l.j → get_or l.v i nan ≡ sigma2_squared (listed l.a) (get_or u i nan) (get_or l.weights i nan)) × ((i : ℕ) → l.j ≤ i → get_or l.v i nan ≡ get_or u i nan)
