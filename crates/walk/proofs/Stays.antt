-- What a walk leaves as it was: all but the fit; and all, where σ₂² of its first step is below zero, by the trail of one entry. Assumes nothing.
use mathlib.Core.Path.{◌≡◌, refl, ap, ◌∙◌}
use mathlib.Core.List.{List, [], ◌∷◌}
use mathlib.Core.Bool.{Bool, true, false, cond}
use Prim.Native.Nat.{ℕ, zero, suc}
use lib.Dec.{eqb}
use lib.Ieee.{Float, lt}
use Rattle.float.specs.Constants.{nought}
use Rattle.refusal.specs.Numbers.{Checked}
use Rattle.std.specs.Prelude.{Ok, Err}
use Rattle.step.proofs.StepRuns.{negative_4, negative_5}
use Rattle.step.specs.Steps.{sigma2_squared, step_4, step_5, first_four, first_five}
use Rattle.step.specs.declared.Step.{Step}
use Rattle.step.specs.declared.Step.TheVariants.{Admitted, Inadmissible}
use Rattle.walk.specs.Trail.{step_for, trail_from}
use Rattle.walk.specs.Walk.{keep_of, keep_all, trail_of, walk_refusal, walk_of}
use Rattle.fit_state.specs.State.{answered, fit_part, with_fit}
use Rattle.fit_state.specs.declared.Fit.{Fit}
use Rattle.fit_state.specs.declared.M2N.{M2N}
use Rattle.walk.specs.declared.Ended.{Ended}
use Rattle.walk.proofs.Trails.{out}

-- ---- all but the fit
pub keeps_apart : (m : M2N) (s : Step) (f : Fit) → with_fit (keep_of m s) f ≡ with_fit m f
unfolding keep_of
keeps_apart m Inadmissible f = refl
keeps_apart m (Admitted r) f = refl

only_fit : (m : M2N) (t : List Step) → keep_all m t ≡ with_fit m (fit_part (keep_all m t))
unfolding keep_all
only_fit m [] = refl
only_fit m (s ∷ t) = only_fit (keep_of m s) t ∙ keeps_apart m s (fit_part (keep_all (keep_of m s) t))

answered_moments : (r : Checked) (m kept : M2N) (x : Ended) → kept.moments ≡ m.moments → (answered r m kept x).state.moments ≡ m.moments
answered_moments (Ok u) m kept x h = h
answered_moments (Err e) m kept x h = refl

pub same_moments : (m : M2N) (μ p : Float) → (walk_of m μ p).state.moments ≡ m.moments
unfolding walk_of
same_moments m μ p = let t = trail_of m μ p in answered_moments (walk_refusal m p) m (keep_all m t) _ (ap (λ x. x.moments) (only_fit m t))

-- ---- the whole state
negative : (variant : ℕ) (ms : List Float) (μ p : Float) → lt (sigma2_squared ms μ p) nought ≡ true → step_for variant ms μ p ≡ Inadmissible
unfolding step_for
negative variant ms μ p h = go (eqb variant 1)
  where
    go : (b : Bool) → cond b (step_4 (first_four ms) μ p) (step_5 (first_five ms) μ p) ≡ Inadmissible
    go true = negative_4 ms μ p h
    go false = negative_5 ms μ p h

none_kept : (m : M2N) (step : Float → Float → Step) (ε : Float) (n : ℕ) (μ p : Float) → step μ p ≡ Inadmissible → keep_all m (trail_from step ε n μ p) ≡ m
unfolding keep_all keep_of trail_from
none_kept m step ε zero μ p e = refl
none_kept m step ε (suc n) μ p e = ap (keep_all m) (out step ε n μ p e)

answered_same : (r : Checked) (m kept : M2N) (x : Ended) → kept ≡ m → (answered r m kept x).state ≡ m
answered_same (Ok u) m kept x h = h
answered_same (Err e) m kept x h = refl

pub stays : (m : M2N) (μ p : Float) → lt (sigma2_squared m.moments μ p) nought ≡ true → (walk_of m μ p).state ≡ m
unfolding walk_of trail_of
stays m μ p h =
    answered_same (walk_refusal m p) m (keep_all m (trail_of m μ p)) _ (none_kept m (step_for m.variant m.moments) m.epsilon m.max_iter μ p (negative m.variant m.moments μ p h))
