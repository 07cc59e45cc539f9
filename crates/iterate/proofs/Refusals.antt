-- A step on the moments that `read` answers, for a step that needs n of l moments. Assumes nothing.
use mathlib.Core.Path.{◌≡◌}
use mathlib.Core.List.{List, [], ◌∷◌}
use Prim.Native.Nat.{ℕ, ◌≤◌, ◌<◌}
use native.Mathlib.Omega.{arith}
use borrow.Author.Tests.{lt-ltb, le-ltb}
use lib.Ieee.{Float}
use lib.ListN.{length}
use Rattle.moments.specs.Lists.{listed}
use Rattle.moments.specs.Refusals.{length_rules}
use Rattle.moments.specs.declared.Five.{Five}
use Rattle.std.specs.Prelude.{Ok, Err}
use Rattle.refusal.specs.Numbers.{Checked, unless_refused}
use Rattle.refusal.specs.Rules.{first_refusal}
use Rattle.refusal.specs.declared.Refusal.{Refusal}
use Rattle.refusal.specs.declared.Refusal.TheVariants.{TooManyMoments}
use Rattle.step.specs.Steps.{step_4, step_5, first_four}
use Rattle.step.specs.declared.Step.{Step}
use Rattle.iterate.specs.Refusals.{iter4, iter5, read}

module _ {A : Type 0} where
  pub many : (n l : ℕ) (x : A) → n ≤ l → 16 < l → Err TooManyMoments ≡ unless_refused (first_refusal (length_rules l n)) x
  many n l x h g = rw (le-ltb l n h, lt-ltb 16 l g)

module _ {A B : Type 0} where
  -- a refusal is passed on, whatever was to be answered
  pub passed_on : (r : Checked) (x : A) (y : B) (e : Refusal) → Err e ≡ unless_refused r x → Err e ≡ unless_refused r y
  passed_on (Ok u) x y e h = cc
  passed_on (Err f) x y e h = grind arith

  -- what is answered is answered of
  pub answered_of : (f : A → B) (r : Checked) (x y : A) → Ok y ≡ unless_refused r x → Ok (f y) ≡ unless_refused r (f x)
  answered_of f (Ok u) x y h = grind arith
  answered_of f (Err e) x y h = cc

pub steps_4 : (m : List Float) (a : Five) (μ p : Float) (s : Step) → Ok a ≡ read m 4 → s ≡ step_4 (a.m_1 ∷ a.m_2 ∷ a.m_3 ∷ a.m_4 ∷ []) μ p → Ok s ≡ iter4 m μ p
unfolding iter4
steps_4 [] a μ p s h e = cc
steps_4 (x ∷ []) a μ p s h e = cc
steps_4 (x ∷ y ∷ []) a μ p s h e = cc
steps_4 (x ∷ y ∷ z ∷ []) a μ p s h e = cc
steps_4 (x ∷ y ∷ z ∷ u ∷ t) a μ p s h e =
    rw e (answered_of (λ (b : Five). step_4 (first_four (listed b)) μ p) (first_refusal (length_rules (length (x ∷ y ∷ z ∷ u ∷ t)) 4)) _ a h)

pub steps_5 : (m : List Float) (a : Five) (μ p : Float) (s : Step) → Ok a ≡ read m 5 → s ≡ step_5 (listed a) μ p → Ok s ≡ iter5 m μ p
unfolding iter5
steps_5 [] a μ p s h e = cc
steps_5 (x ∷ []) a μ p s h e = cc
steps_5 (x ∷ y ∷ []) a μ p s h e = cc
steps_5 (x ∷ y ∷ z ∷ []) a μ p s h e = cc
steps_5 (x ∷ y ∷ z ∷ u ∷ []) a μ p s h e = cc
steps_5 (x ∷ y ∷ z ∷ u ∷ v ∷ t) a μ p s h e =
    rw e (answered_of (λ (b : Five). step_5 (listed b) μ p) (first_refusal (length_rules (length (x ∷ y ∷ z ∷ u ∷ v ∷ t)) 5)) _ a h)
