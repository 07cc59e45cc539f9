-- `bet_requests::spans::bet_size_budget` meets its contract: by the library's answer (`Columns.antt`). Assumes nothing.
use mathlib.Core.Path.{refl}
use Rattle.bet_requests.proofs.spans.Columns.{sizes_of_all}
use Rattle.bet_requests.proofs.spans.bet_size_budget.Goals as goal

pub returns : goal.returns
returns c =
    let args = c.args in
    sizes_of_all args.a.room args.a.from c.min-places.result args.xs.now c.min-places.ensures c.in_ok-count.ensures refl
