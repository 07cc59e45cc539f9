-- Walks for which what `WalksScale` asks holds, each by computation, so that it is not empty: on M = (1, 4.5, 16, 81.5, 416), on four and on five of them, one that is spent, one that settles and one that ends inadmissible, with a twin or three each. Assumes nothing.
use mathlib.Core.Path.{◌≡◌, refl, sym, ap, ◌∙◌}
use mathlib.Core.List.{List, [], ◌∷◌}
use Prim.Native.Nat.{ℕ, zero, suc, ◌+◌}
use native.Mathlib.Nat.{zero-add, add-zero, add-suc, suc-add}
use mathlib.Core.Bool.{Bool, true, false, ◌&&◌}
use lib.IntN.{ℤ, pos, negsuc, ◌*ℤ◌}
use lib.Dec.{T}
use lib.ListN.{get_or}
use lib.Ieee.{Float, nan, binary64, fits, round, of_int, add, sub, mul, div, neg, eq, lt, le}
use lib.Ieee.Fits.{and_l, and_r}
use Rattle.std.specs.Float.{float_is_finite}
use Rattle.float.specs.Leaves.{abs_of, as_f64}
use Rattle.float.specs.Power.{power_of}
use Rattle.float.specs.Root.{root}
use Rattle.float.specs.Scale.{scale}
use Rattle.formula.specs.Met.{met_by}
use Rattle.formula.specs.Range.{sized, sum_is_zero, difference_is_zero, product_is_zero, quotient_is_zero}
use Rattle.moments.specs.Figures.{half}
use Rattle.moments.specs.declared.Five.{Five}
use Rattle.step.specs.Steps.{step_4, step_5}
use Rattle.scaling.specs.Scaling.{fair_walk, Compared}
use Rattle.fit_state.specs.Figures.{example_state}
use Rattle.walk.specs.Trail.{step_for}
use Rattle.walk.specs.Walk.{walk_of}
use Rattle.fit_state.specs.declared.M2N.{M2N}
use Rattle.walk.specs.declared.Reason.{Reason}
use Rattle.walk.specs.declared.Reason.TheVariants.{Spent, Settled, Inadmissible}
use Rattle.std.specs.Prelude.{Ok}
use Rattle.scaling.proofs.WalkScale.{walks_scale}

-- ---- a state's twin
-- moments of the orders from j + 1 on, each 2 ^ (order * s) times as large
abbrev grown : ℤ → ℕ → List Float → List Float
grown s j [] = []
grown s j (x ∷ l) = scale (pos (suc j) *ℤ s) x ∷ grown s (suc j) l

grown_at : (s : ℤ) (j : ℕ) (l : List Float) (k : ℕ) → get_or (grown s j l) k nan ≡ scale (pos (suc (j + k)) *ℤ s) (get_or l k nan)
grown_at s j [] k = refl
grown_at s j (x ∷ l) zero = rw (add-zero j)
grown_at s j (x ∷ l) (suc k) = grown_at s (suc j) l k ∙ ap (λ (n : ℕ). scale (pos (suc n) *ℤ s) (get_or l k nan)) (suc-add j k ∙ sym (add-suc j k))

abbrev all_fit : List Float → Bool
all_fit [] = true
all_fit (x ∷ l) = fits binary64 x && all_fit l

fit_at : (l : List Float) → T (all_fit l) → (k : ℕ) → T (fits binary64 (get_or l k nan))
unfolding fits
fit_at [] h k = tt
fit_at (x ∷ l) h zero = and_l (fits binary64 x) (all_fit l) h
fit_at (x ∷ l) h (suc k) = fit_at l (and_r (fits binary64 x) (all_fit l) h) k

-- ---- what the theorem asks of a walk and of its twin, as tests
module _ (m : M2N) (μ p : Float) where
  abbrev twin : ℤ → M2N
  twin s = record m { moments = grown s 0 m.moments }

  abbrev Holds : ℤ → Type 0
  Holds s = Compared s m (twin s) μ (scale s μ) p (walk_of m μ p) (walk_of (twin s) (scale s μ) p)

  -- the numbers are values of binary64
  abbrev given : Bool
  given = all_fit m.moments && (fits binary64 μ && fits binary64 p)

  abbrev scaled : ℤ → Bool
  scaled s = all_fit (grown s 0 m.moments) && fits binary64 (scale s μ)

  abbrev fair_twin : ℤ → Bool
  fair_twin s = scaled s && fair_walk (twin s) (scale s μ) p

  asked : T (given && fair_walk m μ p) → (s : ℤ) → T (fair_twin s) → Holds s
  asked f s h =
      let f₁ = and_l given _ f in
      let f₂ = and_r (all_fit m.moments) _ f₁ in
      let weight = and_r (fits binary64 μ) (fits binary64 p) f₂ in
      let h₁ = and_l (scaled s) _ h in
      walks_scale m (twin s) μ (scale s μ) p _ _ refl refl
      (record { moments = λ k _. fit_at m.moments (and_l (all_fit m.moments) _ f₁) k; mean = and_l (fits binary64 μ) (fits binary64 p) f₂; weight = weight })
      (record { moments = λ k _. fit_at (grown s 0 m.moments) (and_l (all_fit (grown s 0 m.moments)) _ h₁) k; mean = and_r (all_fit (grown s 0 m.moments)) _ h₁; weight = weight })
      s
      (record { variants = refl; tolerances = refl; limits = refl; numbers = refl; moments = λ k _. grown_at s 0 m.moments k ∙ ap (λ (n : ℕ). scale (pos (suc n) *ℤ s) (get_or m.moments k nan)) (zero-add k); means = refl })
      (and_r given _ f) (and_r (scaled s) _ h)

  abbrev fair_twins : List ℤ → Bool
  fair_twins [] = true
  fair_twins (s ∷ l) = fair_twin s && fair_twins l

  abbrev AllHold : List ℤ → Type 0
  AllHold [] = Unit {0}
  AllHold (s ∷ l) = Holds s × AllHold l

  all_asked : T (given && fair_walk m μ p) → (l : List ℤ) → T (fair_twins l) → AllHold l
  all_asked f [] h = tt
  all_asked f (s ∷ l) h = (asked f s (and_l (fair_twin s) (fair_twins l) h), all_asked f l (and_r (fair_twin s) (fair_twins l) h))

-- ---- walks on M
-- a / b
abbrev part : ℕ → ℕ → Float
part a b = round binary64 false a b

abbrev M : Five
M = record { m_1 = as_f64 1; m_2 = half 9; m_3 = as_f64 16; m_4 = half 163; m_5 = as_f64 416 }

abbrev on_M : (variant limit : ℕ) (tolerance : Float) → M2N
on_M variant limit tolerance = record (example_state M) { variant = variant; max_iter = limit; epsilon = tolerance }

-- a walk ends after so many steps for this reason, and the theorem holds of it and its twin for each s of the list
pub record Example (m : M2N) (μ p : Float) (count : ℕ) (reason : Reason) (l : List ℤ) : Type 0 where
  pub ends : (walk_of m μ p).outcome ≡ Ok (record { count = count; reason = reason })
  pub twins : AllHold m μ p l

-- by 2; by 1/8; by a large power of two
pub record Examples (variant : ℕ) (large : ℤ) (tolerance μ p : Float) : Type 0 where
  pub spent : Example (on_M variant 2 (part 1 1048576)) (as_f64 2) (part 5 8) 2 Spent (pos 1 ∷ negsuc 2 ∷ large ∷ [])
  pub settled : Example (on_M variant 100 tolerance) μ p 2 Settled (pos 1 ∷ [])
  pub inadmissible : Example (on_M variant 100 (part 1 1048576)) (half 5) (half 1) 2 Inadmissible (negsuc 2 ∷ [])

shown : (m : M2N) (μ p : Float) (count : ℕ) (reason : Reason) (l : List ℤ) → (walk_of m μ p).outcome ≡ Ok (record { count = count; reason = reason })
    → T (given m μ p && fair_walk m μ p) → T (fair_twins m μ p l) → Example m μ p count reason l
shown m μ p count reason l e f h = record { ends = e; twins = all_asked m μ p f l h }

pub on_four : Examples 1 (pos 200) (part 1 8) (half 3) (part 5 8)
unfolding fits fair_walk walk_of step_for step_4 met_by abs_of sized sum_is_zero difference_is_zero product_is_zero quotient_is_zero power_of root round of_int add mul sub div neg eq lt le float_is_finite
on_four = record { spent = shown _ _ _ _ _ _ refl tt tt; settled = shown _ _ _ _ _ _ refl tt tt; inadmissible = shown _ _ _ _ _ _ refl tt tt }

pub on_five : Examples 2 (pos 150) (part 1 64) (half 5) (part 13 16)
unfolding fits fair_walk walk_of step_for step_5 met_by abs_of sized sum_is_zero difference_is_zero product_is_zero quotient_is_zero power_of root round of_int add mul sub div neg eq lt le float_is_finite
on_five = record { spent = shown _ _ _ _ _ _ refl tt tt; settled = shown _ _ _ _ _ _ refl tt tt; inadmissible = shown _ _ _ _ _ _ refl tt tt }
