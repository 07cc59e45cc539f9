-- What is left of a walk k steps into a piece of at most n, at a fit and a pair, and how one step changes it: by the step's answer and the test for settling. Assumes nothing.
use mathlib.Core.Path.{◌≡◌, sym, ap, ◌∙◌}
use mathlib.Core.Bool.{Bool, true, false, cond}
use Prim.Native.Nat.{ℕ, ◌+◌, ◌-◌, ◌≤◌, ◌<◌, min}
use native.Mathlib.Omega.{arith}
use borrow.Author.Tests.{leb-true, leb-false, lt-leb, le-leb}
use lib.Dec.{leb}
use lib.Ieee.{Float}
use Rattle.moments.specs.declared.Params.{Params}
use Rattle.refusal.proofs.Refusing.{refused}
use Rattle.refusal.specs.declared.Refusal.{Refusal}
use Rattle.std.specs.Prelude.{Option, Some, None, Ok, Err}
use Rattle.step.specs.declared.Step.{Step}
use Rattle.step.specs.declared.Step.TheVariants.{Admitted, Inadmissible}
use Rattle.walk.specs.Machine.{after, at_end, step_of, over, advanced}
use Rattle.walk.specs.Parts.{shape_variant, steps_on}
use Rattle.fit_state.specs.State.{fit_part}
use Rattle.walk.specs.Trail.{settled, step_for}
use Rattle.walk.specs.Variants.{variant_at}
use Rattle.walk.specs.Walk.{shape_refusal}
use Rattle.fit_state.specs.declared.Fit.{Fit}
use Rattle.walk.specs.declared.Reason.{Reason}
use Rattle.walk.specs.declared.Reason.TheVariants as reason
use Rattle.walk.specs.declared.Reason.TheVariants.{Settled}
use Rattle.walk.specs.declared.Variant.{Variant}
use Rattle.walk.specs.declared.Walking.{Walking}
use Rattle.walk.proofs.Pieces.{none_on, one_on, over_is, over_stays, same_shape, either}
use Rattle.walk.proofs.Trails.{fit_next, keeps, has_shape}

abbrev pub left_of : Walking → ℕ → Fit → ℕ → Float → Float → Walking
left_of w n f k μ p = advanced (n - k) (steps_on w f k μ p None)

pub begins : (w : Walking) (n : ℕ) → w.stopped ≡ None → advanced n w ≡ left_of w n (fit_part w.state) 0 w.mu_2 w.p_1
begins w n u = ap (λ k. advanced k w) (omega arith) ∙ ap (advanced (n - 0)) (λ i. record w { count = same i; stopped = u i })
  where
    same : w.count ≡ w.count + 0
    same = omega arith

-- ---- a piece of n steps, or of as many as the limit leaves, of a state that is not refused
module _ (w : Walking) (n to : ℕ) (shape : shape_refusal w.state ≡ Ok tt) (room : w.count ≤ w.state.max_iter) (is : to ≡ min n (w.state.max_iter - w.count)) where
  over_by : (f : Fit) (k : ℕ) (μ p : Float) (b : Bool) → leb w.state.max_iter (w.count + k) ≡ b → over (steps_on w f k μ p None) ≡ b
  over_by f k μ p b h = over_is (steps_on w f k μ p None) (same_shape w.state f shape) ∙ h

  one : (f : Fit) (k : ℕ) (μ p : Float) (s : Step) → k < to → step_for w.state.variant w.state.moments μ p ≡ s → left_of w n f k μ p ≡ advanced (n - (k + 1)) (after (steps_on w f k μ p None) s)
  unfolding step_of
  one f k μ p s l e =
      let v = steps_on w f k μ p None in
      ap (λ j. advanced j v) (omega (arith, is, l))
      ∙ one_on (n - (k + 1)) v (over_by f k μ p false (lt-leb _ _ (omega (arith, is, l))))
      ∙ ap (λ x. advanced (n - (k + 1)) (after v x)) e

  counted : (f : Fit) (k : ℕ) (μ p : Float) (o : Option Reason) → record (steps_on w f k μ p o) { count = w.count + k + 1 } ≡ steps_on w f (k + 1) μ p o
  counted f k μ p o = ap (λ c. record (steps_on w f k μ p o) { count = c }) (omega arith)

  admitted : (f : Fit) (k : ℕ) (μ p : Float) (r : Params) (b : Bool) → settled w.state.epsilon p r.p_1 ≡ b
      → after (steps_on w f k μ p None) (Admitted r) ≡ steps_on w (fit_next w.state f r) (k + 1) r.mu_2 r.p_1 (cond b (Some Settled) None)
  admitted f k μ p r b h = rw (keeps w.state f r, h) (counted (fit_next w.state f r) k r.mu_2 r.p_1 (cond b (Some Settled) None))

  pub goes_on : (f : Fit) (k : ℕ) (μ p : Float) (r : Params) → k < to → step_for w.state.variant w.state.moments μ p ≡ Admitted r → settled w.state.epsilon p r.p_1 ≡ false
      → left_of w n f k μ p ≡ left_of w n (fit_next w.state f r) (k + 1) r.mu_2 r.p_1
  goes_on f k μ p r l e h = one f k μ p (Admitted r) l e ∙ ap (advanced (n - (k + 1))) (admitted f k μ p r false h)

  -- ---- what the code returns
  stops : (f : Fit) (k : ℕ) (μ p : Float) (r : Reason) → advanced (n - k) (steps_on w f k μ p (Some r)) ≡ steps_on w f k μ p (Some r)
  stops f k μ p r = let v = steps_on w f k μ p (Some r) in over_stays (n - k) v (over_is v (same_shape w.state f shape))

  pub turned_away : (f : Fit) (k : ℕ) (μ p : Float) → k < to → step_for w.state.variant w.state.moments μ p ≡ Inadmissible → left_of w n f k μ p ≡ steps_on w f (k + 1) μ p (Some reason.Inadmissible)
  turned_away f k μ p l e = one f k μ p Inadmissible l e ∙ ap (advanced (n - (k + 1))) (counted f k μ p (Some reason.Inadmissible)) ∙ stops f (k + 1) μ p reason.Inadmissible

  pub settles : (f : Fit) (k : ℕ) (μ p : Float) (r : Params) → k < to → step_for w.state.variant w.state.moments μ p ≡ Admitted r → settled w.state.epsilon p r.p_1 ≡ true
      → left_of w n f k μ p ≡ steps_on w (fit_next w.state f r) (k + 1) r.mu_2 r.p_1 (Some Settled)
  settles f k μ p r l e h =
      one f k μ p (Admitted r) l e ∙ ap (advanced (n - (k + 1))) (admitted f k μ p r true h) ∙ stops (fit_next w.state f r) (k + 1) r.mu_2 r.p_1 Settled

  pub spent : (f : Fit) (μ p : Float) → left_of w n f to μ p ≡ steps_on w f to μ p None
  spent f μ p =
      let v = steps_on w f to μ p None in
      either (leb n to)
      (λ t. let e : n - to ≡ 0 = omega (arith, leb-true n to t) in rw (e, none_on v))
      (λ t. over_stays (n - to) v (over_by f to μ p true (le-leb _ _ (omega (arith, leb-false n to t, is, room)))))

-- ---- the parts of the test for being over
pub going : (w : Walking) (v : Variant) → Ok v ≡ shape_variant w.state → at_end w ≡ false → over w ≡ false
going w v h e = over_is w (sym (has_shape w.state v h)) ∙ e

pub ended : (w : Walking) (n : ℕ) (v : Variant) → Ok v ≡ shape_variant w.state → at_end w ≡ true → w ≡ advanced n w
ended w n v h e = sym (over_stays n w (over_is w (sym (has_shape w.state v h)) ∙ e))

pub misshapen : (w : Walking) (n : ℕ) (e : Refusal) → Err e ≡ shape_variant w.state → w ≡ advanced n w
unfolding over
misshapen w n e h = sym (over_stays n w (rw (sym (refused (shape_refusal w.state) (variant_at w.state.variant) e h))))
