-- What a walk answers: refused, or its trail's length, the reason, and the best of what was met. Definitions only.
use Rattle.std.specs.Prelude.{List, [], ◌∷◌, ◌++◌, Bool, ◌&&◌, not, cond, ℕ, ltb, eqb, length, Float, Option, Some, None}
use Rattle.std.specs.List.{last_or}
use Rattle.std.specs.Result.{is_ok}
use Rattle.std.specs.Float.Ieee.{lt, le}
use Rattle.float.specs.Constants.{nought, one}
use Rattle.moments.specs.Mixture.{get_moments}
use Rattle.moments.specs.declared.Five.{Five}
use Rattle.moments.specs.declared.Params.{Params}
use Rattle.refusal.specs.Numbers.{Checked}
use Rattle.refusal.specs.Rules.{Rule, ◌⇒◌, first_refusal}
use Rattle.refusal.specs.declared.Refusal.TheVariants.{TooFewMoments, TooManyMoments, UnknownVariant, BadWeight}
use Rattle.step.specs.declared.Step.{Step}
use Rattle.step.specs.declared.Step.TheVariants.{Admitted, Inadmissible}
use Rattle.fit_state.specs.Errors.{error_of}
use Rattle.fit_state.specs.State.{answered, fit_part, with_fit}
use Rattle.walk.specs.Trail.{Arguments, trail, trail_from}
use Rattle.walk.specs.Variants.{is_variant}
use Rattle.fit_state.specs.declared.Fit.{Fit}
use Rattle.fit_state.specs.declared.M2N.{M2N}
use Rattle.walk.specs.declared.Reason.{Reason}
use Rattle.walk.specs.declared.Reason.TheVariants as reason
use Rattle.walk.specs.declared.Reason.TheVariants.{Spent, Settled}
use Rattle.fit_state.specs.declared.After.{After}
use Rattle.walk.specs.declared.Ended.{Ended}

-- parameters, and their step error
pub record Visit : Type 0 where
  pub parameters : Params
  pub error : Float

-- of two the one with the strictly smaller error, otherwise the first: a NaN never wins
abbrev pub smaller : Visit → Visit → Visit
smaller v w = cond (lt w.error v.error) w v

-- an iterate, with its error at a state's moments
abbrev pub visit_of : M2N → Params → Visit
visit_of m r = record { parameters = r; error = error_of m (get_moments r) }

-- the best that a fit has; and a fit with moments stored and this as its best
abbrev pub best_of : Fit → Visit
best_of f = record { parameters = f.parameters; error = f.error }

abbrev pub fit_keeping : Five → Visit → Fit
fit_keeping n v = record { new_moments = n; parameters = v.parameters; error = v.error }

-- an admitted iterate: its moments are stored, and it is kept where its error is strictly smaller
unfoldable pub keep_of : M2N → Step → M2N
unfolding error_of
keep_of m Inadmissible = m
keep_of m (Admitted r) = with_fit m (fit_keeping (get_moments r) (smaller (best_of (fit_part m)) (visit_of m r)))

-- the entries of a trail one after another
unfoldable pub keep_all : M2N → List Step → M2N
unfolding keep_of
keep_all m [] = m
keep_all m (r ∷ t) = keep_all (keep_of m r) t

-- what the trail of a walk from a state, a mean and a weight is made from
abbrev pub arguments_of : M2N → Float → Float → Arguments
arguments_of m μ p = record { variant = m.variant; moments = m.moments; mean = μ; weight = p; epsilon = m.epsilon; max_iter = m.max_iter }

unfoldable pub trail_of : M2N → Float → Float → List Step
unfolding trail_from
trail_of m μ p = trail (arguments_of m μ p)

-- what stopped the walk before its limit, by the last entry of its trail: that is inadmissible, or it settled
abbrev pub stopped_at : Option Step → Reason
stopped_at (Some Inadmissible) = reason.Inadmissible
stopped_at (Some (Admitted r)) = Settled
stopped_at None = Spent

abbrev pub stopped : List Step → Reason
stopped t = stopped_at (last_or None t)

-- spent whenever the count equals the limit, otherwise what stopped it
abbrev pub reason_at : ℕ → ℕ → Reason → Reason
reason_at count limit stopped = cond (eqb count limit) Spent stopped

abbrev pub reason_of : ℕ → List Step → Reason
reason_of limit t = reason_at (length t) limit (stopped t)

-- how many moments the variant's step reads
abbrev pub needed_by : ℕ → ℕ
needed_by variant = cond (eqb variant 1) 4 5

-- a starting weight: at least 0 and below 1, so not NaN
abbrev pub is_weight : Float → Bool
is_weight p = le nought p && lt p one

-- for the state: variant not 1 or 2; fewer than 4 moments (variant 2: 5); more than 16
abbrev pub shape_rules : M2N → List Rule
shape_rules m =
    not (is_variant m.variant) ⇒ UnknownVariant
    ∷ ltb m.len (needed_by m.variant) ⇒ TooFewMoments
    ∷ ltb 16 m.len ⇒ TooManyMoments
    ∷ []

unfoldable pub shape_refusal : M2N → Checked
shape_refusal m = first_refusal (shape_rules m)

-- and then for the weight: not at least 0 and below 1
abbrev pub walk_rules : M2N → Float → List Rule
walk_rules m p = shape_rules m ++ (not (is_weight p) ⇒ BadWeight ∷ [])

unfoldable pub walk_refusal : M2N → Float → Checked
walk_refusal m p = first_refusal (walk_rules m p)

-- the trail that document 01 gives a walk: "a refused walk has none"
unfoldable pub walk_trail : M2N → Float → Float → List Step
walk_trail m μ p = cond (is_ok (walk_refusal m p)) (trail_of m μ p) []

-- the state after a walk, and how it went
abbrev pub Walked : Type 0
Walked = After Ended

unfoldable pub walk_of : M2N → Float → Float → Walked
unfolding walk_refusal keep_all trail_of
walk_of m μ p = let t = trail_of m μ p in answered (walk_refusal m p) m (keep_all m t) (record { count = length t; reason = reason_of m.max_iter t })
