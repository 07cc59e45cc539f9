-- `moment_requests::orders::centered_moment` meets its contract: what has no place is refused alike (`Cut.antt`). Assumes nothing.
use mathlib.Core.Path.{◌∙◌}
use native.Mathlib.Omega.{arith}
use Rattle.std.proofs.Common.{rules}
use Rattle.protocol.specs.Words.{next_fraction}
use Rattle.protocol_lists.proofs.Listing.{list_first, list_got}
use Rattle.replies.proofs.Asking.{only_some}
use Rattle.moment_requests.proofs.Cut.{centred_cut}
use Rattle.moment_requests.proofs.orders.centered_moment.Goals as goal

pub returns : goal.returns
returns c =
    let read = c.read_next_list.ensures.counted ∙ only_some _ c.in_ok-n.ensures in
    let kept = c.kept.ensures ∙ list_first next_fraction _ _ _ read _ 17 c.read_next_list.ensures.kept (omega arith) in
    rw (c.in_ok-order.ensures, list_got next_fraction _ _ _ read, ← centred_cut, ← kept) (search rules)
