-- "The walk returns how many steps it took, never more than max_iter": the count is the trail's length. A statement only.
use Rattle.std.specs.Prelude.{◌≤◌, Float, length}
use Rattle.walk.specs.Walk.{trail_of}
use Rattle.fit_state.specs.declared.M2N.{M2N}

abbrev pub WithinLimit : Type 0
WithinLimit = (m : M2N) (μ p : Float) → length (trail_of m μ p) ≤ m.max_iter
