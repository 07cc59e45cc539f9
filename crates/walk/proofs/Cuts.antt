-- A trail cut in two: by its first entry. And the fit of a state never steers its walk: a trail is made from its arguments alone. Assumes nothing.
use mathlib.Core.Path.{◌≡◌, refl, ap, ◌∙◌}
use mathlib.Core.Bool.{Bool, true, false, cond}
use mathlib.Core.List.{List, [], ◌∷◌, ◌++◌}
use Prim.Native.Nat.{ℕ, zero, suc, ◌+◌}
use native.Mathlib.Omega.{arith}
use lib.Ieee.{Float}
use Rattle.moments.specs.declared.Params.{Params}
use Rattle.refusal.specs.Numbers.{Checked}
use Rattle.std.specs.Prelude.{None, Ok, Err}
use Rattle.step.specs.declared.Step.{Step}
use Rattle.step.specs.declared.Step.TheVariants.{Admitted, Inadmissible}
use Rattle.fit_state.specs.State.{answered, with_fit}
use Rattle.walk.specs.Pieces.{FitNeverSteers, stands_after, goes_on, TrailsAdd}
use Rattle.walk.specs.Trail.{Arguments, settled, step_for, trail, trail_from}
use Rattle.walk.specs.Walk.{keep_all, trail_of, walk_refusal, walk_trail, walk_of}
use Rattle.walk.specs.declared.Ended.{Ended}
use Rattle.walk.proofs.Visits.{same_visits}

pub trails_add : TrailsAdd
unfolding trail_from
trails_add zero k a = let e : zero + k ≡ k = omega arith in ap (λ j. trail (record a { max_iter = j })) e
trails_add (suc n) k a =
    let e : suc n + k ≡ suc (n + k) = omega arith in
    ap (λ j. trail (record a { max_iter = j })) e ∙ by (step a.mean a.weight) (λ r. trails_add n k (record a { mean = r.mu_2; weight = r.p_1 }))
  where
    step : Float → Float → Step
    step = step_for a.variant a.moments

    follow : ℕ → Step → List Step
    follow j s = elim s [ Admitted r ↦ Admitted r ∷ cond (settled a.epsilon a.weight r.p_1) [] (trail_from step a.epsilon j r.mu_2 r.p_1) | Inadmissible ↦ Inadmissible ∷ [] ]

    Cut : List Step → List Step → Arguments → Type 0
    Cut whole t b = whole ≡ t ++ goes_on k (stands_after b t)

    settling : (r : Params) (b : Bool) (whole t : List Step) → Cut whole t (record a { mean = r.mu_2; weight = r.p_1 })
        → Admitted r ∷ cond b [] whole ≡ (Admitted r ∷ cond b [] t) ++ goes_on k (cond b None (stands_after (record a { mean = r.mu_2; weight = r.p_1 }) (cond b [] t)))
    settling r true whole t h = refl
    settling r false whole t h = ap (λ l. Admitted r ∷ l) h

    by : (s : Step) → ((r : Params) → Cut (trail_from step a.epsilon (n + k) r.mu_2 r.p_1) (trail_from step a.epsilon n r.mu_2 r.p_1) (record a { mean = r.mu_2; weight = r.p_1 })) → Cut (follow (n + k) s) (follow n s) a
    by Inadmissible rest = refl
    by (Admitted r) rest = settling r (settled a.epsilon a.weight r.p_1) (trail_from step a.epsilon (n + k) r.mu_2 r.p_1) (trail_from step a.epsilon n r.mu_2 r.p_1) (rest r)

pub fit_never_steers : FitNeverSteers
unfolding trail_of walk_of walk_refusal walk_trail
fit_never_steers m f μ p = (refl, same_visits m f (walk_trail m μ p), go (walk_refusal m p) _)
  where
    go : (c : Checked) (x : Ended) → (answered c (with_fit m f) (keep_all (with_fit m f) (trail_of m μ p)) x).outcome ≡ (answered c m (keep_all m (trail_of m μ p)) x).outcome
    go (Ok u) x = refl
    go (Err e) x = refl
