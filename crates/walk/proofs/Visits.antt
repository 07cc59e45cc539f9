-- The smallest of a list of visits is below none of them, and the same list again changes nothing; so it is of a trail, entry by entry. Assumes nothing.
use mathlib.Core.Path.{◌≡◌, refl, sym, ap, subst, ◌∙◌}
use mathlib.Core.Bool.{Bool, true, false, cond}
use mathlib.Core.List.{List, [], ◌∷◌}
use lib.Ieee.{Float, lt}
use Rattle.float.proofs.Order.{lt_irrefl, lt_chain}
use Rattle.std.specs.List.{fold}
use Rattle.moments.specs.Mixture.{get_moments}
use Rattle.step.specs.declared.Step.{Step}
use Rattle.step.specs.declared.Step.TheVariants.{Admitted, Inadmissible}
use Rattle.walk.specs.Walk.{best_of, fit_keeping, Visit, keep_of, keep_all, smaller, visit_of}
use Rattle.fit_state.specs.State.{fit_part, with_fit}
use Rattle.fit_state.specs.declared.Fit.{Fit}
use Rattle.walk.specs.Visits.{visits, NoneBelow, KeepsTheSmallest, KeepsTheLeast}
use Rattle.fit_state.specs.Errors.{error_of}
use Rattle.fit_state.specs.declared.M2N.{M2N}

-- ---- of two
refutes : (b : Bool) → (b ≡ true → ⊥) → b ≡ false
refutes true h = absurd (h refl)
refutes false h = refl

-- the smaller is not above either: what is not below the first is not below it, nor is the second
still : (x : Float) (v w : Visit) → lt x v.error ≡ false → lt x (smaller v w).error ≡ false
still x v w h = go (lt w.error v.error) refl
  where
    go : (b : Bool) → lt w.error v.error ≡ b → lt x (cond b w v).error ≡ false
    go true e = refutes (lt x w.error) (λ g. let k = lt_chain x w.error v.error g e in cc)
    go false e = h

own : (v w : Visit) → lt w.error (smaller v w).error ≡ false
own v w = go (lt w.error v.error) refl
  where
    go : (b : Bool) → lt w.error v.error ≡ b → lt w.error (cond b w v).error ≡ false
    go true e = refutes (lt w.error w.error) (lt_irrefl w.error)
    go false e = e

-- ---- of a list
still_all : (x : Float) (v : Visit) (l : List Visit) → lt x v.error ≡ false → lt x (fold smaller v l).error ≡ false
still_all x v [] h = h
still_all x v (w ∷ l) h = still_all x (smaller v w) l (still x v w h)

none_below : (v : Visit) (l : List Visit) → NoneBelow (fold smaller v l).error l
none_below v [] = tt
none_below v (w ∷ l) = (still_all w.error (smaller v w) l (own v w), none_below (smaller v w) l)

none_smaller : (v : Visit) (l : List Visit) → NoneBelow v.error l → fold smaller v l ≡ v
none_smaller v [] h = refl
none_smaller v (w ∷ l) h = ap (λ b. fold smaller (cond b w v) l) h.0 ∙ none_smaller v l h.1

pub smallest_again : (v : Visit) (l : List Visit) → fold smaller (fold smaller v l) l ≡ fold smaller v l
smallest_again v l = none_smaller (fold smaller v l) l (none_below v l)

-- ---- of a trail, from any fit: the moments and how many are given stay as they are, and so do the errors
over_fits : (m : M2N) (f : Fit) (t : List Step) → best_of (fit_part (keep_all (with_fit m f) t)) ≡ fold smaller (best_of f) (visits m t)
unfolding keep_all keep_of error_of
over_fits m f [] = refl
over_fits m f (Inadmissible ∷ t) = over_fits m f t
over_fits m f (Admitted r ∷ t) = over_fits m (fit_keeping (get_moments r) (smaller (best_of f) (visit_of m r))) t

pub keeps_the_smallest : KeepsTheSmallest
keeps_the_smallest m t = over_fits m (fit_part m) t

pub keeps_the_least : KeepsTheLeast
keeps_the_least m t = subst (λ v. NoneBelow v.error (visits m t)) (sym (keeps_the_smallest m t)) (none_below (best_of (fit_part m)) (visits m t))

pub same_visits : (m : M2N) (f : Fit) (t : List Step) → visits (with_fit m f) t ≡ visits m t
unfolding error_of
same_visits m f [] = refl
same_visits m f (Inadmissible ∷ t) = same_visits m f t
same_visits m f (Admitted r ∷ t) = ap (λ l. visit_of m r ∷ l) (same_visits m f t)
