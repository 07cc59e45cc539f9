-- How the counts are made: the starts and ends of a side's spans as sorted keys, whose ranks differ by the live spans. Definitions only, which the private functions promise each other.
use Rattle.std.specs.Prelude.{ℕ, ◌+◌, ◌-◌, ◌≤◌, ◌<◌, ◌≡◌, ◌&&◌, List, [], ◌∷◌, ◌++◌, map, leb, length, take, drop, get_or, ℤ, pos, Float}
use Rattle.std.specs.Int.Signed.{lt_z}
use Rattle.std.specs.List.Sorted.{IsNonDecreasing}
use Rattle.std.specs.Int.{w64}
use Rattle.std.proofs.Common.{SFits}
use Rattle.float.specs.Leaves.{as_f64}
use Rattle.float.specs.Keys.{key_of}
use Rattle.bet_sizing.specs.declared.counts.Side.{Side}
use Rattle.bet_sizing.specs.Counts.{indicator, on_side, concurrent_counts}
use Rattle.bet_sizing.specs.Sorting.{rank}

-- of the spans of a side that end after they start, all others being never live, how many have a start, or an end, up to the key x
unfoldable pub begun : Side → ℕ → List ℤ → List ℤ → List Float → ℕ
begun side x [] es ds = 0
begun side x (s ∷ ss) [] ds = 0
begun side x (s ∷ ss) (e ∷ es) [] = 0
begun side x (s ∷ ss) (e ∷ es) (d ∷ ds) = indicator (lt_z s e && on_side side d && leb (key_of s) x) + begun side x ss es ds

unfoldable pub ended : Side → ℕ → List ℤ → List ℤ → List Float → ℕ
ended side x [] es ds = 0
ended side x (s ∷ ss) [] ds = 0
ended side x (s ∷ ss) (e ∷ es) [] = 0
ended side x (s ∷ ss) (e ∷ es) (d ∷ ds) = indicator (lt_z s e && on_side side d && leb (key_of e) x) + ended side x ss es ds

-- the keys of the starts and ends of the m spans of a side that are ever live
pub record Collected (side : Side) (ss es : List ℤ) (ds : List Float) (s e : List ℕ) (m : ℕ) : Type 0 where
  pub few : m ≤ length ss
  pub starts : (x : ℕ) → rank x (take m s) ≡ begun side x ss es ds
  pub ends : (x : ℕ) → rank x (take m e) ≡ ended side x ss es ds
  pub fit_starts : (k : ℕ) → k < length ss → SFits w64 (get_or ss k (pos 0))
  pub fit_ends : (k : ℕ) → k < length ss → SFits w64 (get_or es k (pos 0))

-- at t, the starts up to then less the ends up to then
abbrev pub net : List ℕ → List ℕ → ℤ → ℕ
net s e t = rank (key_of t) s - rank (key_of t) e

-- sorted keys, few enough, and room for the counts
pub record Nettable (ss : List ℤ) (s e : List ℕ) (out : List Float) : Type 0 where
  pub starts : IsNonDecreasing s
  pub ends : IsNonDecreasing e
  pub few_starts : length s ≤ 16384
  pub few_ends : length e ≤ 16384
  pub room : length ss ≤ length out

-- the net counts at each start, then what was there
pub record Netted (ss : List ℤ) (s e : List ℕ) (old new : List Float) : Type 0 where
  pub list : new ≡ map (λ t. as_f64 (net s e t)) ss ++ drop (length ss) old

-- the counts of a side at each start, then what was there
pub record Counted (side : Side) (ss es : List ℤ) (ds old new : List Float) : Type 0 where
  pub list : new ≡ concurrent_counts side ss es ds ++ drop (length ss) old
