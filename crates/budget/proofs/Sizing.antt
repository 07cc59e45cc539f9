-- The largest of counts and one more; and the sizes, by their places and as a list. Assumes nothing.
use Prim.Native.Nat.{ℕ, zero, suc, ◌<◌}
use mathlib.Core.Path.{◌≡◌, refl, ap}
use mathlib.Core.List.{List, [], ◌∷◌, ◌++◌, map}
use native.Mathlib.Omega.{arith}
use lib.ListN.{length, get_or}
use lib.IntN.{ℤ}
use lib.Ieee.{Float, nan, binary64, sub}
use Rattle.float.specs.Leaves.{larger_of}
use Rattle.budget.specs.Budget.{largest, largest_from, share}
use Rattle.budget.specs.Sizes.{sizes_by, sizes_of}

-- ---- the largest
pub largest_push : (most : Float) (cs : List Float) (c : Float) → largest_from most (cs ++ c ∷ []) ≡ larger_of (largest_from most cs) c
unfolding largest_from
largest_push most [] c = refl
largest_push most (x ∷ cs) c = largest_push (larger_of most x) cs c

-- ---- the sizes
module _ (a b : Float) where
  by_length : (ls ss : List Float) → length ls ≡ length ss → length (sizes_by a b ls ss) ≡ length ls
  unfolding sizes_by
  by_length [] ss e = refl
  by_length (l ∷ ls) [] e = absurd (omega arith)
  by_length (l ∷ ls) (s ∷ ss) e = ap suc (by_length ls ss (omega arith))

  by_at : (ls ss : List Float) (i : ℕ) → length ls ≡ length ss → i < length ls → sub binary64 (share (get_or ls i nan) a) (share (get_or ss i nan) b) ≡ get_or (sizes_by a b ls ss) i nan
  unfolding sizes_by
  by_at [] ss i e h = absurd (omega arith)
  by_at (l ∷ ls) [] i e h = absurd (omega arith)
  by_at (l ∷ ls) (s ∷ ss) zero e h = refl
  by_at (l ∷ ls) (s ∷ ss) (suc i) e h = by_at ls ss i (omega arith) (omega arith)

  -- of counts that are each a value for each instant
  pub sizes_map : (f g : ℤ → Float) (ts : List ℤ) → sizes_by a b (map f ts) (map g ts) ≡ map (λ t. sub binary64 (share (f t) a) (share (g t) b)) ts
  unfolding sizes_by
  sizes_map f g [] = refl
  sizes_map f g (t ∷ ts) = ap (λ (l : List Float). sub binary64 (share (f t) a) (share (g t) b) ∷ l) (sizes_map f g ts)

module _ (ls ss : List Float) where
  pub sizes_length : length ls ≡ length ss → length (sizes_of ls ss) ≡ length ls
  sizes_length = by_length (largest ls) (largest ss) ls ss

  pub size_at : (i : ℕ) {a b x y : Float} → length ls ≡ length ss → i < length ls → a ≡ largest ls → b ≡ largest ss → x ≡ share (get_or ls i nan) a → y ≡ share (get_or ss i nan) b → sub binary64 x y ≡ get_or (sizes_of ls ss) i nan
  size_at i e h p q u v = rw (u, v, p, q) (by_at (largest ls) (largest ss) ls ss i e h)
