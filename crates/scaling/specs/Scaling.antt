-- Demand 3, as one statement about two whole walks and what the two calls return; `walk_both` promises it. Definitions only.
-- "For every whole walk, as 2 defines it, and every whole number s: let a second walk be alike in variant, tolerance, step limit, starting weight and number of moments, but with each k-th moment
-- 2^(k times s) times the first's and the starting mean 2^s times, whatever else either fit state holds, and let each input and rounded result met in the steps of either be from 2^-900 to 2^900 in
-- size, or zero before its own rounding. Then both walks return equally many steps, each its own trail's length, and the same reason, read as document 01 reads it, or are refused by the same number,
-- and their trails, written out in document 01, agree at every step: where one is inadmissible so is the other, and otherwise the weights are the same bit for bit, while both means and both
-- deviations of the second are exactly 2^s times the first's."
use Rattle.std.specs.Prelude.{◌≡◌, List, [], ◌∷◌, map, Bool, true, ◌&&◌, cond, ℕ, zero, suc, ◌<◌, T, eqb, ℤ, pos, ◌*ℤ◌, length, get_or, Float, Ok}
use Rattle.std.specs.Result.{is_ok}
use Rattle.std.specs.Float.{nan}
use Rattle.float.specs.Scale.{scale}
use Rattle.formula.specs.Met.{met_by, all_fair}
use Rattle.moments.specs.declared.Params.{Params}
use Rattle.step.specs.Steps.{iter_4, iter_5, first_four, first_five}
use Rattle.step.specs.declared.Step.{Step}
use Rattle.step.specs.declared.Step.TheVariants.{Admitted, Inadmissible}
use Rattle.walk.specs.Trail.{settled, step_for}
use Rattle.walk.specs.Walk.{Walked, walk_refusal, walk_trail, reason_of}
use Rattle.fit_state.specs.declared.M2N.{M2N}
use Rattle.walk.specs.declared.Ended.{Ended}

-- ---- the second walk
-- "alike in variant, tolerance, step limit, starting weight and number of moments, but with each k-th moment 2^(k times s) times the first's and the starting mean 2^s times": the weight of both is one
-- number, p below, and the k-th moment stands at k - 1, since places are counted from 0
pub record Twins (s : ℤ) (m m' : M2N) (μ μ' : Float) : Type 0 where
  pub variants : m'.variant ≡ m.variant
  pub tolerances : m'.epsilon ≡ m.epsilon
  pub limits : m'.max_iter ≡ m.max_iter
  pub numbers : m'.len ≡ m.len
  pub moments : (k : ℕ) → k < m.len → get_or m'.moments k nan ≡ scale (pos (suc k) *ℤ s) (get_or m.moments k nan)
  pub means : μ' ≡ scale s μ

-- ---- what is met
-- "each input and rounded result met" in the variant's step is "from 2^-900 to 2^900 in size, or zero before its own rounding"
unfoldable pub fair_step : ℕ → List Float → Float → Float → Bool
fair_step variant ms μ p =
    cond (eqb variant 1) (all_fair (met_by iter_4 (μ ∷ p ∷ first_four ms) [])) (all_fair (met_by iter_5 (μ ∷ p ∷ first_five ms) []))

-- and so it is "in the steps" of a trail
unfoldable pub fair_from : (Float → Float → Bool) → (Float → Float → Step) → Float → ℕ → Float → Float → Bool
fair_from fair step ε zero μ p = true
fair_from fair step ε (suc n) μ p =
    fair μ p && elim (step μ p) [
      | Admitted r ↦ cond (settled ε p r.p_1) true (fair_from fair step ε n r.mu_2 r.p_1)
      | Inadmissible ↦ true
    ]

-- a refused walk has no step and no trail
unfoldable pub fair_walk : M2N → Float → Float → Bool
unfolding fair_from fair_step
fair_walk m μ p =
    cond (is_ok (walk_refusal m p)) (fair_from (fair_step m.variant m.moments) (step_for m.variant m.moments) m.epsilon m.max_iter μ p) true

-- ---- how the two compare
-- "the weights are the same bit for bit, while both means and both deviations of the second are exactly 2^s times the first's"
abbrev pub scale_params : ℤ → Params → Params
scale_params s r = record { mu_1 = scale s r.mu_1; mu_2 = scale s r.mu_2; sigma_1 = scale s r.sigma_1; sigma_2 = scale s r.sigma_2; p_1 = r.p_1 }

-- "where one is inadmissible so is the other"
abbrev pub scale_step : ℤ → Step → Step
scale_step s (Admitted r) = Admitted (scale_params s r)
scale_step s Inadmissible = Inadmissible

-- what a walk returned beside its trail t: a count that is "its own trail's length", and the reason that document 01 reads from count and last entry
pub record ReadOff (limit : ℕ) (t : List Step) (w : Walked) : Type 0 where
  pub count : (e : Ended) → w.outcome ≡ Ok e → e.count ≡ length t
  pub reason : (e : Ended) → w.outcome ≡ Ok e → e.reason ≡ reason_of limit t

pub record Compared (s : ℤ) (m m' : M2N) (μ μ' p : Float) (w w' : Walked) : Type 0 where
  -- "both walks return equally many steps and the same reason, or are refused by the same number"
  pub outcomes : w'.outcome ≡ w.outcome
  -- "each its own trail's length", the reason "read as document 01 reads it"
  pub first : ReadOff m.max_iter (walk_trail m μ p) w
  pub second : ReadOff m'.max_iter (walk_trail m' μ' p) w'
  -- "their trails, written out in document 01, agree at every step"
  pub trails : walk_trail m' μ' p ≡ map (scale_step s) (walk_trail m μ p)

-- ---- the demand, of what two walks return: w from m and μ, w' from m' and μ', both from the weight p
abbrev pub WalksScale : (m m' : M2N) (μ μ' p : Float) (w w' : Walked) → Type 0
WalksScale m m' μ μ' p w w' = (s : ℤ) → Twins s m m' μ μ' → T (fair_walk m μ p) → T (fair_walk m' μ' p) → Compared s m m' μ μ' p w w'
