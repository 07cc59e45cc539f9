-- What owning an array of `f64` tells of its elements: each is a value of binary64. Assumes nothing.
use mathlib.Core.List.{List, [], ◌∷◌}
use Prim.Native.Nat.{ℕ, zero, suc}
use lib.Dec.{T}
use lib.ListN.{get_or}
use lib.Ieee.{Float, nan, binary64, fits}
use mir.Val.{Val}
use denote.Array.{each}
use denote.Builtin.{f64}
use denote.Floats.{passes}
use denote.Shadow.{shadow}

pub held_each : (l : List Float) (us : List Val) → shadow (each f64.Denot f64.own_val l us) → (k : ℕ) → T (fits binary64 (get_or l k nan))
unfolding fits
held_each [] us h k = tt
held_each (x ∷ l) [] h k = absurd h
held_each (x ∷ l) (u ∷ us) h zero = passes (fits binary64 x) h.0.1
held_each (x ∷ l) (u ∷ us) h (suc k) = held_each l us h.1 k
