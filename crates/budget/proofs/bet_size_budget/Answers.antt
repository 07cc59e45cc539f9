-- `budget::bet_size_budget` meets its contract: by the counts' answer and the room for the sizes (`Deciding.antt`). Assumes nothing.
use Rattle.budget.proofs.Deciding.{written}
use Rattle.budget.proofs.bet_size_budget.Goals as goal

pub returns : goal.returns
returns c = written c.get_concurrent_sides.ensures c.in_ok-n.was _ _ c.if-size-n.false c.sizes_of.ensures
