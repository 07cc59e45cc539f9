-- What holds of a walk in pieces, and of a trail in pieces. Statements, and how a trail goes on; `Pieces.antt`, `Whole.antt` and `Cuts.antt` of proofs/ prove them.
use Rattle.std.specs.Prelude.{◌≡◌, List, [], ◌∷◌, ◌++◌, true, false, cond, ℕ, ◌+◌, ◌≤◌, Float, Option, Some, None, Ok}
use Rattle.step.specs.declared.Step.{Step}
use Rattle.step.specs.declared.Step.TheVariants.{Admitted, Inadmissible}
use Rattle.walk.specs.Machine.{begun, over, advanced, outcome_of}
use Rattle.walk.specs.Trail.{Arguments, settled, trail}
use Rattle.walk.specs.Visits.{visited}
use Rattle.walk.specs.Walk.{walk_of, walk_trail}
use Rattle.fit_state.specs.State.{fit_part, with_fit}
use Rattle.fit_state.specs.declared.Fit.{Fit}
use Rattle.fit_state.specs.declared.M2N.{M2N}
use Rattle.walk.specs.declared.Walking.{Walking}

-- going on by a and then by b is going on by a + b
abbrev pub PiecesAdd : Type 0
PiecesAdd = (a b : ℕ) (w : Walking) → advanced (a + b) w ≡ advanced b (advanced a w)

-- a walk that is over stays as it is
abbrev pub OverStays : Type 0
OverStays = (n : ℕ) (w : Walking) → over w ≡ true → advanced n w ≡ w

-- the count never passes the limit
abbrev pub CountWithin : Type 0
CountWithin = (n : ℕ) (w : Walking) → w.count ≤ w.state.max_iter → (advanced n w).count ≤ w.state.max_iter

-- a walk that is not over has taken each of its steps
abbrev pub CountsSteps : Type 0
CountsSteps = (n : ℕ) (w : Walking) → over (advanced n w) ≡ false → (advanced n w).count ≡ w.count + n

-- of the state only the fit changes
abbrev pub OnlyFitChanges : Type 0
OnlyFitChanges = (n : ℕ) (w : Walking) → (advanced n w).state ≡ with_fit w.state (fit_part (advanced n w).state)

-- a walk in one go is, if it begins, the walk begun and gone on with for its limit; by `walk_of` and `begun`, it begins unless it is refused
abbrev pub WholeInPieces : Type 0
WholeInPieces = (m : M2N) (μ p : Float) (w : Walking) → begun m μ p ≡ Ok w → walk_of m μ p ≡ outcome_of (advanced m.max_iter w)

-- the kept parameters, moments and error never steer a walk: with any other, the trail, what is visited and the outcome are the same
abbrev pub FitNeverSteers : Type 0
FitNeverSteers = (m : M2N) (f : Fit) (μ p : Float)
    → (walk_trail (with_fit m f) μ p ≡ walk_trail m μ p) × (visited (with_fit m f) μ p ≡ visited m μ p) × ((walk_of (with_fit m f) μ p).outcome ≡ (walk_of m μ p).outcome)

-- ---- a trail in pieces
-- where a trail stands after its entries, if it goes on: with the last one's mu_2 and p_1 as its pair
abbrev pub stands_after : Arguments → List Step → Option Arguments
stands_after a [] = Some a
stands_after a (Inadmissible ∷ t) = None
stands_after a (Admitted r ∷ t) = cond (settled a.epsilon a.weight r.p_1) None (stands_after (record a { mean = r.mu_2; weight = r.p_1 }) t)

-- n entries more, from where it stands
abbrev pub goes_on : ℕ → Option Arguments → List Step
goes_on n (Some a) = trail (record a { max_iter = n })
goes_on n None = []

-- the trail of n + k steps is that of n, and then, unless that has ended, that of k from where it stands
abbrev pub TrailsAdd : Type 0
TrailsAdd = (n k : ℕ) (a : Arguments) → let t = trail (record a { max_iter = n }) in trail (record a { max_iter = n + k }) ≡ t ++ goes_on k (stands_after a t)
