-- `bet_requests::spans::request` meets its contract, by whether each word is there, and nothing after them. Assumes nothing.
use mathlib.Core.Path.{◌∙◌}
use native.Mathlib.Omega.{arith}
use Rattle.std.proofs.Common.{rules}
use Rattle.protocol.specs.Words.{next_fraction, next_instant}
use Rattle.protocol_lists.proofs.Listing.{list_first, list_got}
use Rattle.replies.proofs.Asking.{only_some}
use Rattle.bet_requests.specs.Spans.{asked}
use Rattle.bet_requests.proofs.spans.request.Goals as goal
use Rattle.bet_requests.proofs.spans.request.Goals.{in-ConcurrentSides, in-Budget}

pub returns : goal.returns
unfolding asked
returns c =
    let args = c.args in
    let starts = list_got next_instant _ _ _ c.in_ok-n_starts.ensures.counted in
    let ends = list_got next_instant _ _ _ c.in_ok-n_ends.ensures.counted in
    let read = c.read_next_list-3.ensures.counted ∙ only_some _ c.in_ok-n_sides.ensures in
    let sides = list_got next_fraction _ _ _ read in
    let kept_starts = c.kept.ensures ∙ list_first next_instant _ _ _ c.in_ok-n_starts.ensures.counted _ 4096 c.in_ok-n_starts.ensures.kept (omega arith) in
    let kept_ends = c.kept-2.ensures ∙ list_first next_instant _ _ _ c.in_ok-n_ends.ensures.counted _ 4096 c.in_ok-n_ends.ensures.kept (omega arith) in
    let kept_sides = c.kept-3.ensures ∙ list_first next_fraction _ _ _ read _ 4096 c.read_next_list-3.ensures.kept (omega arith) in
    rw (c.in_ok-room.ensures, starts, ends, sides, ← kept_starts, ← kept_ends, ← kept_sides)
    (elim c.match-kind.branch [
      | in-ConcurrentSides w ↦ search rules
      | in-Budget w ↦ search rules
    ])
