-- A walk in pieces: by its first step, over or not. Assumes nothing.
use mathlib.Core.Path.{◌≡◌, refl, sym, ap, ◌∙◌}
use mathlib.Core.Bool.{Bool, true, false, ◌||◌}
use Prim.Native.Nat.{ℕ, zero, suc, ◌+◌, ◌<◌}
use native.Mathlib.Omega.{arith}
use borrow.Author.Tests.{leb-false}
use lib.Dec.{leb}
use Rattle.refusal.specs.Numbers.{Checked}
use Rattle.std.specs.Prelude.{Option, Some, None, Ok, Err, is_some, is_err}
use Rattle.step.specs.declared.Step.{Step}
use Rattle.step.specs.declared.Step.TheVariants.{Admitted, Inadmissible}
use Rattle.walk.specs.Machine.{after, at_end, step_of, over, advanced}
use Rattle.fit_state.specs.State.{fit_part, with_fit}
use Rattle.walk.specs.Pieces.{PiecesAdd, OverStays, CountWithin, CountsSteps, OnlyFitChanges}
use Rattle.walk.specs.Trail.{step_for}
use Rattle.walk.specs.Walk.{keep_of, shape_refusal}
use Rattle.fit_state.specs.declared.Fit.{Fit}
use Rattle.fit_state.specs.declared.M2N.{M2N}
use Rattle.walk.specs.declared.Reason.{Reason}
use Rattle.walk.specs.declared.Walking.{Walking}
use Rattle.walk.proofs.Stays.{keeps_apart}

-- ---- a walk that goes on
pub record Goes (w : Walking) : Type 0 where
  pub shape : shape_refusal w.state ≡ Ok tt
  pub unstopped : w.stopped ≡ None
  pub below : w.count < w.state.max_iter

pub goes : (w : Walking) → over w ≡ false → Goes w
unfolding over
goes w h =
    let e = neither (is_err (shape_refusal w.state)) (at_end w) h in
    let f = neither (is_some w.stopped) (leb w.state.max_iter w.count) e.1 in
    record { shape = right (shape_refusal w.state) e.0; unstopped = none w.stopped f.0; below = leb-false w.state.max_iter w.count f.1 }
  where
    neither : (a b : Bool) → a || b ≡ false → (a ≡ false) × (b ≡ false)
    neither true b h = cc
    neither false b h = (refl, h)

    right : (r : Checked) → is_err r ≡ false → r ≡ Ok tt
    right (Ok u) h = refl
    right (Err e) h = cc

    none : (o : Option Reason) → is_some o ≡ false → o ≡ None
    none None h = refl
    none (Some r) h = cc

-- of a state that is not refused
pub over_is : (w : Walking) → shape_refusal w.state ≡ Ok tt → over w ≡ at_end w
unfolding over
over_is w h = rw h

pub same_shape : (m : M2N) (f : Fit) → shape_refusal m ≡ Ok tt → shape_refusal (with_fit m f) ≡ Ok tt
unfolding shape_refusal
same_shape m f h = h

-- ---- a step
after_count : (w : Walking) (s : Step) → (after w s).count ≡ w.count + 1
after_count w Inadmissible = refl
after_count w (Admitted r) = refl

after_state : (w : Walking) (s : Step) → (after w s).state ≡ keep_of w.state s
unfolding keep_of
after_state w Inadmissible = refl
after_state w (Admitted r) = refl

step_count : (w : Walking) → (step_of w).count ≡ w.count + 1
unfolding step_of
step_count w = after_count w (step_for w.state.variant w.state.moments w.mu_2 w.p_1)

step_only_fit : (w : Walking) → (step_of w).state ≡ with_fit w.state (fit_part (step_of w).state)
unfolding step_of
step_only_fit w =
    let s = step_for w.state.variant w.state.moments w.mu_2 w.p_1 in
    rw (after_state w s) (keeps_apart w.state s (fit_part (keep_of w.state s)))

-- ---- steps
pub over_stays : OverStays
unfolding advanced
over_stays zero w h = refl
over_stays (suc n) w h = rw h

pub none_on : (w : Walking) → advanced 0 w ≡ w
unfolding advanced
none_on w = refl

pub one_on : (n : ℕ) (w : Walking) → over w ≡ false → advanced (suc n) w ≡ advanced n (step_of w)
unfolding advanced
one_on n w h = rw h

-- what holds where a walk is over, and where it goes on
pub either : {A : Type 0} (b : Bool) → (b ≡ true → A) → (b ≡ false → A) → A
either true f g = f refl
either false f g = g refl

pub pieces_add : PiecesAdd
pieces_add zero b w = let e : zero + b ≡ b = omega arith in rw (e, none_on w)
pieces_add (suc a) b w =
    let e : suc a + b ≡ suc (a + b) = omega arith in
    either (over w)
    (λ h. over_stays (suc a + b) w h ∙ sym (over_stays b w h) ∙ ap (advanced b) (sym (over_stays (suc a) w h)))
    (λ h. rw (e, one_on (a + b) w h, one_on a w h) (pieces_add a b (step_of w)))

pub only_fit_changes : OnlyFitChanges
only_fit_changes zero w = rw (none_on w)
only_fit_changes (suc n) w =
    either (over w)
    (λ h. rw (over_stays (suc n) w h))
    (λ h. rw (one_on n w h) (only_fit_changes n (step_of w) ∙ ap (λ x. with_fit x (fit_part (advanced n (step_of w)).state)) (step_only_fit w)))

pub counts_steps : CountsSteps
counts_steps zero w h = rw (none_on w) (omega arith)
counts_steps (suc n) w h =
    either (over w)
    (λ e. let k : over w ≡ false = rw (over_stays (suc n) w e) at h in cc)
    (λ e. rw (one_on n w e) (omega (arith, step_count w, counts_steps n (step_of w) (rw (one_on n w e) at h))))

pub count_within : CountWithin
count_within zero w h = rw (none_on w) h
count_within (suc n) w h =
    either (over w)
    (λ e. rw (over_stays (suc n) w e) h)
    (λ e. let l : (step_of w).state.max_iter ≡ w.state.max_iter = ap (λ x. x.max_iter) (step_only_fit w) in
    rw (one_on n w e) (omega (arith, l, count_within n (step_of w) (omega (arith, l, step_count w, (goes w e).below)))))
