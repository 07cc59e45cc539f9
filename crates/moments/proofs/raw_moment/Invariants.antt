use mathlib.Core.Path.{◌≡◌}
use Rattle.moments.proofs.Turns.{filled}
use Rattle.moments.proofs.raw_moment.Given as goal

-- before turn i the first i places are written and the others are as they were
abbrev pub invariant-loop-i : goal.invariant-loop-i
invariant-loop-i l = l.out ≡ filled l.central l.mean l.initial.out l.i
