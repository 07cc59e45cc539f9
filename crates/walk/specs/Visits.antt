-- What a walk visits: the admitted entries of its trail, each with its step error; and what it keeps of them. Definitions and statements; `proofs/Visits.antt` proves them.
use Rattle.std.specs.Prelude.{◌≡◌, List, [], ◌∷◌, false, Float}
use Rattle.std.specs.Float.Ieee.{lt}
use Rattle.std.specs.List.{fold}
use Rattle.step.specs.declared.Step.{Step}
use Rattle.step.specs.declared.Step.TheVariants.{Admitted, Inadmissible}
use Rattle.walk.specs.Walk.{Visit, best_of, keep_all, smaller, visit_of, walk_trail}
use Rattle.fit_state.specs.State.{fit_part}
use Rattle.fit_state.specs.declared.M2N.{M2N}

-- the admitted entries of a trail in order, with their errors at a state's moments
abbrev pub visits : M2N → List Step → List Visit
visits m [] = []
visits m (Inadmissible ∷ t) = visits m t
visits m (Admitted r ∷ t) = visit_of m r ∷ visits m t

-- what the walk from a state visits: nothing, if it is refused
abbrev pub visited : M2N → Float → Float → List Visit
visited m μ p = visits m (walk_trail m μ p)

-- what is kept of a trail is the smallest of what was kept before and what is visited, one after another
abbrev pub KeepsTheSmallest : Type 0
KeepsTheSmallest = (m : M2N) (t : List Step) → best_of (fit_part (keep_all m t)) ≡ fold smaller (best_of (fit_part m)) (visits m t)

-- none of the errors is below e
abbrev pub NoneBelow : Float → List Visit → Type 0
NoneBelow e [] = Unit {0}
NoneBelow e (v ∷ l) = (lt v.error e ≡ false) × NoneBelow e l

-- and so nothing visited has an error below the one that is kept
abbrev pub KeepsTheLeast : Type 0
KeepsTheLeast = (m : M2N) (t : List Step) → NoneBelow (keep_all m t).error (visits m t)
