-- A walk in one go is the walk as a machine, gone on with for its limit: by one induction over the steps that are left, beside the trail. By what one step changes (`Left.antt`). Assumes nothing.
use mathlib.Core.Path.{◌≡◌, refl, sym, ap, ◌∙◌}
use mathlib.Core.Bool.{Bool, true, false, cond}
use mathlib.Core.List.{List, [], ◌∷◌}
use Prim.Native.Nat.{ℕ, zero, suc, ◌+◌, ◌-◌, min}
use native.Mathlib.Omega.{arith}
use borrow.Author.Tests.{eq-eqb}
use lib.Ieee.{Float}
use lib.ListN.{length}
use Rattle.moments.specs.declared.Params.{Params}
use Rattle.refusal.proofs.Refusing.{accepted, refused}
use Rattle.refusal.specs.declared.Refusal.{Refusal}
use Rattle.std.specs.List.{last_or}
use Rattle.std.specs.Prelude.{Option, Some, None, Ok, Err}
use Rattle.step.specs.declared.Step.{Step}
use Rattle.step.specs.declared.Step.TheVariants.{Admitted, Inadmissible}
use Rattle.walk.specs.Machine.{at_start, begun, outcome_of}
use Rattle.walk.specs.Parts.{ended_after, steps_on}
use Rattle.fit_state.specs.State.{fit_part, with_fit}
use Rattle.walk.specs.Pieces.{WholeInPieces}
use Rattle.walk.specs.Trail.{settled, step_for, trail_from}
use Rattle.walk.specs.Walk.{Walked, keep_of, keep_all, stopped, stopped_at, trail_of, shape_refusal, walk_refusal, walk_of}
use Rattle.fit_state.specs.declared.Fit.{Fit}
use Rattle.fit_state.specs.declared.M2N.{M2N}
use Rattle.walk.specs.declared.Reason.{Reason}
use Rattle.walk.specs.declared.Reason.TheVariants as reason
use Rattle.walk.specs.declared.Reason.TheVariants.{Settled, Spent}
use Rattle.walk.specs.declared.Walking.{Walking}
use Rattle.std.specs.Option.{unwrap_or}
use Rattle.walk.proofs.Left.{left_of, begins, goes_on, turned_away, settles, spent}
use Rattle.walk.proofs.Pieces.{same_shape}
use Rattle.walk.proofs.Trails.{fit_next, keeps, out, on, shape_allowed}

-- the entries of a trail counted one after another
abbrev counted : ℕ → List Step → ℕ
counted k [] = k
counted k (s ∷ t) = counted (k + 1) t

counted_adds : (k : ℕ) (t : List Step) → counted k t ≡ k + length t
counted_adds k [] = omega arith
counted_adds k (s ∷ t) = omega (arith, counted_adds (k + 1) t)

-- what a walk answers that has taken k steps, of which o was the last, and has the entries t to come
abbrev ends : M2N → ℕ → Option Step → List Step → Walked
ends m k o t = record { state = keep_all m t; outcome = Ok (ended_after (counted k t) m.max_iter (stopped_at (last_or o t))) }

module _ (m : M2N) (μ₀ p₀ : Float) (shape : shape_refusal m ≡ Ok tt) where
  -- k steps on from the start, with n to come, at a fit and a pair
  abbrev Ends : ℕ → Fit → ℕ → Float → Float → Option Step → Type 0
  Ends n f k μ p o = outcome_of (left_of (at_start m μ₀ p₀) m.max_iter f k μ p) ≡ ends (with_fit m f) k o (trail_from (step_for m.variant m.moments) m.epsilon n μ p)

  answers : (f : Fit) (k : ℕ) (μ p : Float) (o : Option Reason) → outcome_of (steps_on (at_start m μ₀ p₀) f k μ p o) ≡ record { state = with_fit m f; outcome = Ok (ended_after k m.max_iter (unwrap_or o Spent)) }
  unfolding outcome_of
  answers f k μ p o = let e : 0 + k ≡ k = omega arith in rw (same_shape m f shape, e)

  none_left : (f : Fit) (k : ℕ) (μ p : Float) (o : Option Step) → k ≡ m.max_iter → Ends 0 f k μ p o
  unfolding keep_all trail_from
  none_left f k μ p o e = ap outcome_of (spent (at_start m μ₀ p₀) m.max_iter k shape (omega arith) (omega arith) f μ p) ∙ answers f k μ p None ∙ rw (eq-eqb k m.max_iter e)

  from : (n : ℕ) (f : Fit) (k : ℕ) (μ p : Float) (o : Option Step) → k + n ≡ m.max_iter → Ends n f k μ p o
  unfolding keep_all keep_of
  from zero f k μ p o l = none_left f k μ p o (omega arith)
  from (suc n) f k μ p o l = by (step μ p) refl (λ g ν q s. from n g (k + 1) ν q s (omega arith))
    where
      w : Walking
      w = at_start m μ₀ p₀

      step : Float → Float → Step
      step = step_for m.variant m.moments

      is : m.max_iter ≡ min m.max_iter (m.max_iter - 0)
      is = omega arith

      -- an admitted entry is kept
      kept : (r : Params) (t : List Step) → ends (with_fit m (fit_next m f r)) (k + 1) (Some (Admitted r)) t ≡ ends (with_fit m f) k o (Admitted r ∷ t)
      kept r t = ap (λ x. record { state = keep_all x t; outcome = (ends (with_fit m f) k o (Admitted r ∷ t)).outcome }) (sym (keeps m f r))

      admitted : (r : Params) (b : Bool) → step μ p ≡ Admitted r → settled m.epsilon p r.p_1 ≡ b → ((g : Fit) (ν q : Float) (s : Option Step) → Ends n g (k + 1) ν q s)
          → outcome_of (left_of w m.max_iter f k μ p) ≡ ends (with_fit m f) k o (Admitted r ∷ cond b [] (trail_from step m.epsilon n r.mu_2 r.p_1))
      admitted r true e s rest =
          ap outcome_of (settles w m.max_iter m.max_iter shape (omega arith) is f k μ p r (omega arith) e s) ∙ answers (fit_next m f r) (k + 1) r.mu_2 r.p_1 (Some Settled) ∙ kept r []
      admitted r false e s rest =
          ap outcome_of (goes_on w m.max_iter m.max_iter shape (omega arith) is f k μ p r (omega arith) e s) ∙ rest (fit_next m f r) r.mu_2 r.p_1 (Some (Admitted r)) ∙ kept r (trail_from step m.epsilon n r.mu_2 r.p_1)

      by : (s : Step) → step μ p ≡ s → ((g : Fit) (ν q : Float) (s : Option Step) → Ends n g (k + 1) ν q s) → Ends (suc n) f k μ p o
      by Inadmissible e rest =
          ap outcome_of (turned_away w m.max_iter m.max_iter shape (omega arith) is f k μ p (omega arith) e)
          ∙ answers f (k + 1) μ p (Some reason.Inadmissible) ∙ ap (ends (with_fit m f) k o) (sym (out step m.epsilon n μ p e))
      by (Admitted r) e rest = admitted r (settled m.epsilon p r.p_1) e refl rest ∙ ap (ends (with_fit m f) k o) (sym (on step m.epsilon n μ p r e))

pub whole_in_pieces : WholeInPieces
unfolding walk_of begun trail_of
whole_in_pieces m μ p w h =
    let a = accepted (walk_refusal m p) (at_start m μ p) w (sym h) in
    let t = trail_of m μ p in
    rw (← a.0, a.1)
    (sym (ap outcome_of (begins (at_start m μ p) m.max_iter refl)
    ∙ from m μ p (shape_allowed m p (sym a.0)) m.max_iter (fit_part m) 0 μ p None (omega arith)
    ∙ ap (λ n. record { state = keep_all m t; outcome = Ok (ended_after n m.max_iter (stopped t)) }) (omega (arith, counted_adds 0 t))))

pub not_begun : (m : M2N) (μ p : Float) (e : Refusal) → begun m μ p ≡ Err e → walk_of m μ p ≡ record { state = m; outcome = Err e }
unfolding walk_of begun
not_begun m μ p e h = rw (sym (refused (walk_refusal m p) (at_start m μ p) e (sym h)))
