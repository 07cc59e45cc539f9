-- A trail is no longer than the step limit: each entry takes one of the turns that are left. Assumes nothing.
use Prim.Native.Nat.{ℕ, zero, suc, ◌≤◌}
use mathlib.Core.Path.{◌≡◌, refl}
use mathlib.Core.Bool.{Bool, true, false, cond}
use mathlib.Core.List.{List, []}
use native.Mathlib.Omega.{arith}
use lib.Ieee.{Float}
use lib.ListN.{length}
use Rattle.step.specs.declared.Step.{Step}
use Rattle.step.specs.declared.Step.TheVariants.{Admitted, Inadmissible}
use Rattle.walk.specs.Limit.{WithinLimit}
use Rattle.walk.specs.Trail.{settled, step_for, trail_from}
use Rattle.walk.specs.Walk.{trail_of}
use Rattle.walk.proofs.Trails.{on, out}

-- a trail that may be cut off is no longer
cut : (b : Bool) (t : List Step) (n : ℕ) → length t ≤ n → length (cond b [] t) ≤ n
cut true t n h = omega arith
cut false t n h = h

none : (step : Float → Float → Step) (ε μ p : Float) → length (trail_from step ε zero μ p) ≤ zero
unfolding trail_from
none step ε μ p = omega arith

trail_within : (step : Float → Float → Step) (ε : Float) (n : ℕ) (μ p : Float) → length (trail_from step ε n μ p) ≤ n
trail_within step ε zero μ p = none step ε μ p
trail_within step ε (suc n) μ p = by (step μ p) refl (trail_within step ε n)
  where
    by : (s : Step) → step μ p ≡ s → ((ν q : Float) → length (trail_from step ε n ν q) ≤ n) → length (trail_from step ε (suc n) μ p) ≤ suc n
    by (Admitted r) e rest = rw (on step ε n μ p r e) (omega (arith, cut (settled ε p r.p_1) (trail_from step ε n r.mu_2 r.p_1) n (rest r.mu_2 r.p_1)))
    by Inadmissible e rest = rw (out step ε n μ p e) (omega arith)

pub within_limit : WithinLimit
unfolding trail_of
within_limit m μ p = trail_within (step_for m.variant m.moments) m.epsilon m.max_iter μ p
