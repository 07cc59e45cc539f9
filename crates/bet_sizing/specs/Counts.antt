-- Spans in time, each with a side: how many of a side are live at an instant (chapter 10 of Advances in Financial Machine Learning; the Rust's get_concurrent_sides). Definitions only.
use Rattle.std.specs.Prelude.{ℕ, ◌+◌, Bool, not, ◌&&◌, cond, List, [], ◌∷◌, map, ℤ, Float}
use Rattle.std.specs.Int.Signed.{le_z, lt_z}
use Rattle.std.specs.Float.Ieee.{lt}
use Rattle.float.specs.Leaves.{as_f64}
use Rattle.float.specs.Constants.{nought}
use Rattle.bet_sizing.specs.declared.counts.Side.{Side}
use Rattle.bet_sizing.specs.declared.counts.Side.TheVariants.{Long, Short}

-- 1 for a test that holds, else 0
abbrev pub indicator : Bool → ℕ
indicator b = cond b 1 0

-- a side above 0 is long; every other, zero and NaN too, is short
abbrev pub on_side : Side → Float → Bool
on_side Long d = lt nought d
on_side Short d = not (lt nought d)

-- a span from s to e is live at t: it starts at t or before, and ends after t
abbrev pub live : ℤ → ℤ → ℤ → Bool
live t s e = le_z s t && lt_z t e

-- how many spans of a side are live at t
unfoldable pub concurrent : Side → ℤ → List ℤ → List ℤ → List Float → ℕ
concurrent side t [] es ds = 0
concurrent side t (s ∷ ss) [] ds = 0
concurrent side t (s ∷ ss) (e ∷ es) [] = 0
concurrent side t (s ∷ ss) (e ∷ es) (d ∷ ds) = indicator (live t s e && on_side side d) + concurrent side t ss es ds

-- for each span, how many of a side are live at its start
abbrev pub concurrent_counts : Side → List ℤ → List ℤ → List Float → List Float
concurrent_counts side ss es ds = map (λ t. as_f64 (concurrent side t ss es ds)) ss
