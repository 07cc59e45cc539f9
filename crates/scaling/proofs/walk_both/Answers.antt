use Rattle.std.proofs.Common.{rules}
use Rattle.scaling.proofs.Held.{held_each}
use Rattle.scaling.proofs.WalkScale.{walks_scale}
use Rattle.scaling.proofs.walk_both.Goals as goal

pub returns-clause-alike : goal.returns-clause-alike
returns-clause-alike c = search (rules, held_each, walks_scale)
