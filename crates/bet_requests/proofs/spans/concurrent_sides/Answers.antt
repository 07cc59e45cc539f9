-- `bet_requests::spans::concurrent_sides` meets its contract: by the library's answer (`Columns.antt`). Assumes nothing.
use mathlib.Core.Path.{refl}
use Rattle.std.proofs.Common.{rules}
use Rattle.bet_requests.proofs.spans.Columns.{sides_of_all, sides_refused}
use Rattle.bet_requests.proofs.spans.concurrent_sides.Goals as goal

pub returns-in_err-count : goal.returns-in_err-count
returns-in_err-count c =
    let args = c.args in
    let r = sides_refused args.a.room args.a.from c.min-places.result args.xs.now c.min-places.ensures c.requires refl c.in_err-count.ensures in
    (rw (← r.0) (search rules), r.1)

pub returns : goal.returns
returns c =
    let args = c.args in
    sides_of_all args.a.room args.a.from c.min-places.result args.xs.now c.min-places.ensures refl c.in_ok-count.ensures refl c.copy_from_slice.ensures.after
