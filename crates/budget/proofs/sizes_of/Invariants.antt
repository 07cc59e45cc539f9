use mathlib.Core.Path.{◌≡◌}
use mathlib.Core.List.{◌++◌}
use Prim.Native.Nat.{◌≤◌}
use lib.ListN.{drop, length, take}
use Rattle.budget.specs.Sizes.{sizes_of}
use Rattle.budget.proofs.sizes_of.Given as goal

abbrev pub invariant-loop-i : goal.invariant-loop-i
invariant-loop-i l =
    let left = l.i-iterator in
    (l.size ≡ take left.count (sizes_of l.long l.short) ++ drop left.count l.initial.size) × (left.iter.a.rest.now ≡ drop left.count l.long) × (left.iter.b.rest.now ≡ drop left.count l.short) × (left.count ≤ length l.long)
