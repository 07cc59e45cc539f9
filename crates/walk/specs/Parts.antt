-- What the parts of the walk promise each other: the fit part of the state by itself. Definitions only.
use Rattle.std.specs.Prelude.{◌≡◌, ℕ, ◌+◌, ◌*◌, ◌-◌, ◌≤◌, min, Float, Option, Result}
use Rattle.moments.specs.Lists.{listed}
use Rattle.moments.specs.Mixture.{get_moments}
use Rattle.moments.specs.declared.Five.{Five}
use Rattle.moments.specs.declared.Params.{Params}
use Rattle.refusal.specs.Numbers.{unless_refused}
use Rattle.refusal.specs.declared.Refusal.{Refusal}
use Rattle.walk.specs.Variants.{variant_at}
use Rattle.walk.specs.Walk.{Visit, best_of, fit_keeping, reason_at, shape_refusal, smaller}
use Rattle.fit_state.specs.Errors.{squares}
use Rattle.fit_state.specs.State.{with_fit}
use Rattle.fit_state.specs.declared.M2N.{M2N}
use Rattle.walk.specs.declared.Ended.{Ended}
use Rattle.fit_state.specs.declared.Fit.{Fit}
use Rattle.walk.specs.declared.Reason.{Reason}
use Rattle.walk.specs.declared.Seen.{Seen}
use Rattle.walk.specs.declared.Turn.{Turn}
use Rattle.walk.specs.declared.Variant.{Variant}
use Rattle.walk.specs.declared.Walking.{Walking}

-- an iterate, for target moments a of which len are given
abbrev pub visit_at : ℕ → Five → Params → Visit
visit_at len a r = record { parameters = r; error = squares (listed a) (listed (get_moments r)) (min len 5) }

-- the fit after an admitted iterate
unfoldable pub fit_after : ℕ → Five → Fit → Params → Fit
unfolding squares
fit_after len a f r = fit_keeping (get_moments r) (smaller (best_of f) (visit_at len a r))

-- the state's variant, unless its walk is refused for the state
abbrev pub shape_variant : M2N → Result Variant Refusal
shape_variant m = unless_refused (shape_refusal m) (variant_at m.variant)

-- how a walk ended that was stopped so
abbrev pub ended_after : ℕ → ℕ → Reason → Ended
ended_after count limit stopped = record { count = count; reason = reason_at count limit stopped }

-- a walk k steps on, at a fit and a pair
abbrev pub steps_on : Walking → Fit → ℕ → Float → Float → Option Reason → Walking
steps_on w f k μ p stopped = record { state = with_fit w.state f; mu_2 = μ; p_1 = p; count = w.count + k; stopped = stopped }

-- one turn of the walk's count: as it was; or with another pair to look out for; or, where the pair is the one looked out for, with whole rounds counted
pub data Turned (count limit : ℕ) (μ p : Float) (seen : Seen) (r : Turn) : Type 0 where
  stays : r ≡ record { count = count; seen = seen } → Turned count limit μ p seen r
  looks : r ≡ record { count = count; seen = record { mu = μ; p = p; at = count } } → Turned count limit μ p seen r
  rounds_on : (n to : ℕ) → μ ≡ seen.mu → p ≡ seen.p → to ≡ count + n * (count - seen.at) → to ≤ limit → r ≡ record { count = to; seen = record { mu = μ; p = p; at = to } } → Turned count limit μ p seen r
