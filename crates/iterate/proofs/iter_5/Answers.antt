-- `iterate::iter_5` meets its contract: refused, or the step on the first moments. Assumes nothing.
use Rattle.iterate.proofs.Refusals.{steps_5}
use Rattle.iterate.proofs.iter_5.Goals as goal

pub returns : goal.returns
returns c = steps_5 _ _ _ _ _ c.in_ok-read.ensures c.five.ensures
