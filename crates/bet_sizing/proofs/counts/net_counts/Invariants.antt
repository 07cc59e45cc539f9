use mathlib.Core.Path.{◌≡◌}
use mathlib.Core.List.{◌++◌, map}
use lib.ListN.{drop, take}
use Rattle.float.specs.Leaves.{as_f64}
use Rattle.bet_sizing.specs.Counting.{net}
use Rattle.bet_sizing.proofs.counts.net_counts.Given as goal

abbrev pub invariant-loop-i : goal.invariant-loop-i
invariant-loop-i l = l.out ≡ take l.i (map (λ t. as_f64 (net l.s l.e t)) l.starts) ++ drop l.i l.initial.out
