use mathlib.Core.Path.{◌≡◌}
use Prim.Native.Nat.{◌-◌, ◌≤◌}
use Rattle.walk.specs.Machine.{advanced}
use Rattle.walk.proofs.Left.{left_of}
use Rattle.walk.proofs.Rounds.{Since}
use Rattle.walk.proofs.go_on.Given as goal

abbrev pub invariant-loop-count : goal.invariant-loop-count
invariant-loop-count l = (l.count ≤ l.to) × (advanced l.n l.fn.w ≡ left_of l.fn.w l.n l.f l.count l.mu l.p) × Since l.m l.seen l.f l.count l.mu l.p

abbrev pub decreases-loop-count : goal.decreases-loop-count
decreases-loop-count l = l.to - l.count
