-- `moment_requests::orders::raw_moment` meets its contract: what has no place is refused alike (`Cut.antt`). Assumes nothing.
use mathlib.Core.Path.{◌∙◌, refl}
use native.Mathlib.Omega.{arith}
use Rattle.std.proofs.Common.{rules}
use Rattle.std.proofs.lemmas.List.{drop_min, take_min}
use Rattle.protocol.specs.Words.{next_fraction}
use Rattle.protocol_lists.proofs.Listing.{list_first, list_got}
use Rattle.replies.proofs.Asking.{only_some}
use Rattle.moment_requests.proofs.Cut.{out_cut, raw_cut}
use Rattle.moment_requests.proofs.orders.raw_moment.Goals as goal

pub returns : goal.returns
returns c =
    let read = c.read_next_list.ensures.counted ∙ only_some _ c.in_ok-n.ensures in
    let kept = c.kept.ensures ∙ list_first next_fraction _ _ _ read _ 17 c.read_next_list.ensures.kept (omega arith) in (
      rw (c.in_ok-room.ensures, c.in_ok-mean.ensures, list_got next_fraction _ _ _ read, ← raw_cut, ← kept, ← take_min, ← c.min-places.ensures, ← c.raw_moment-written.ensures.0) (search rules),
      rw (c.in_ok-room.ensures, c.in_ok-mean.ensures, list_got next_fraction _ _ _ read, c.raw_moment-written.ensures.1, kept, out_cut, c.min-places.ensures, take_min, drop_min) refl,
    )
