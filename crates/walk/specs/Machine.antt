-- A walk as a machine: begun, one step on, at most n steps on, over, and what it answers. Definitions only; `specs/Pieces.antt` states its laws.
use Rattle.std.specs.Prelude.{Bool, ◌||◌, cond, ℕ, zero, suc, ◌+◌, leb, Float, Some, None, Result, is_some, is_err}
use Rattle.std.specs.Option.{unwrap_or}
use Rattle.refusal.specs.Numbers.{unless_refused}
use Rattle.refusal.specs.declared.Refusal.{Refusal}
use Rattle.step.specs.declared.Step.{Step}
use Rattle.step.specs.declared.Step.TheVariants.{Admitted, Inadmissible}
use Rattle.walk.specs.Parts.{ended_after}
use Rattle.walk.specs.Trail.{settled, step_for}
use Rattle.walk.specs.Walk.{Walked, keep_of, shape_refusal, walk_refusal}
use Rattle.fit_state.specs.declared.M2N.{M2N}
use Rattle.walk.specs.declared.Reason.TheVariants as reason
use Rattle.walk.specs.declared.Reason.TheVariants.{Spent, Settled}
use Rattle.walk.specs.declared.Walking.{Walking}

-- before its first step
abbrev pub at_start : M2N → Float → Float → Walking
at_start m μ p = record { state = m; mu_2 = μ; p_1 = p; count = 0; stopped = None }

-- a walk begun, or why it is refused
unfoldable pub begun : M2N → Float → Float → Result Walking Refusal
begun m μ p = unless_refused (walk_refusal m p) (at_start m μ p)

-- with an entry more of its trail: an inadmissible one stops it, and so does one that passes the test for settling
abbrev pub after : Walking → Step → Walking
after w Inadmissible = record w { count = w.count + 1; stopped = Some reason.Inadmissible }
after w (Admitted r) = record {
  state = keep_of w.state (Admitted r);
  mu_2 = r.mu_2;
  p_1 = r.p_1;
  count = w.count + 1;
  stopped = cond (settled w.state.epsilon w.p_1 r.p_1) (Some Settled) None;
}

-- one step on
unfoldable pub step_of : Walking → Walking
step_of w = after w (step_for w.state.variant w.state.moments w.mu_2 w.p_1)

-- stopped, or at its limit
abbrev pub at_end : Walking → Bool
at_end w = is_some w.stopped || leb w.state.max_iter w.count

-- A walk whose state is refused for its variant or its number of moments is over too; no walk begins with such a state.
unfoldable pub over : Walking → Bool
over w = is_err (shape_refusal w.state) || at_end w

-- at most n steps on, up to its end
unfoldable pub advanced : ℕ → Walking → Walking
unfolding over step_of
advanced zero w = w
advanced (suc n) w = cond (over w) w (advanced n (step_of w))

-- What a walk that is over answers. One that is not over answers as if its limit were reached, and one whose state is refused answers its refusal.
unfoldable pub outcome_of : Walking → Walked
outcome_of w = record { state = w.state; outcome = unless_refused (shape_refusal w.state) (ended_after w.count w.state.max_iter (unwrap_or w.stopped Spent)) }
