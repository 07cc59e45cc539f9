-- `walk::count_rounds` meets its contract: by its tests. Assumes nothing.
use mathlib.Core.Path.{refl}
use Rattle.walk.specs.Parts.{rounds_on}
use Rattle.walk.proofs.Rounds.{whole_rounds}
use Rattle.walk.proofs.count_rounds.Goals as goal

pub returns-then-same-2 : goal.returns-then-same-2
returns-then-same-2 c = rounds_on _ _ (c.same.ensures c.if-same.true) (c.same-then-same.ensures c.if-same-2.true) refl (whole_rounds _ _ _ c.requires.1) refl
