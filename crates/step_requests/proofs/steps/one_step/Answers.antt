-- `step_requests::steps::one_step` meets its contract: what has no place is refused alike (`Cut.antt`). Assumes nothing.
use mathlib.Core.Path.{◌∙◌}
use native.Mathlib.Omega.{arith}
use Rattle.std.proofs.Common.{rules}
use Rattle.protocol.specs.Words.{next_fraction}
use Rattle.protocol_lists.proofs.Listing.{list_first, list_got}
use Rattle.replies.proofs.Asking.{only_some}
use Rattle.step_requests.proofs.Cut.{step_cut}
use Rattle.step_requests.proofs.steps.one_step.Goals as goal

pub returns : goal.returns
returns c =
    let kept = c.kept.ensures ∙ list_first next_fraction _ _ _ c.in_ok-n.ensures.counted _ 17 c.in_ok-n.ensures.kept (omega arith) in
    rw (list_got next_fraction _ _ _ c.in_ok-n.ensures.counted, c.read_next_fractions.ensures ∙ only_some _ c.in_ok-mu_2.ensures, ← step_cut, ← kept) (search rules)
