-- `search_requests::searches::single_fit` meets its contract, by whether the weights are there, and nothing after them. Assumes nothing.
use mathlib.Core.Path.{refl, ◌∙◌}
use native.Mathlib.Omega.{arith}
use lib.Ieee.{of_bits}
use Rattle.protocol.specs.Words.{next_fraction}
use Rattle.protocol_lists.proofs.Listing.{list_first, list_got, list_long}
use Rattle.replies.proofs.Asking.{only_list, only_some}
use Rattle.search_requests.proofs.searches.single_fit.Goals as goal

pub returns-in_err-n : goal.returns-in_err-n
returns-in_err-n c =
    let moments = list_got next_fraction _ _ _ c.in_ok-len.ensures.counted in
    rw (c.from_residual-in_err-n.ensures, c.in_ok-variant.ensures, moments, c.in_ok-epsilon.ensures, c.in_ok-epsilon_override.ensures, c.in_ok-factor.ensures, c.in_ok-max_iter.ensures, c.in_ok-fit.ensures)
    (only_list next_fraction _ _ _ c.read_next_list-2.ensures.counted c.in_err-n.ensures)

pub returns : goal.returns
unfolding of_bits
returns c =
    let moments = list_got next_fraction _ _ _ c.in_ok-len.ensures.counted in
    let long = list_long next_fraction _ _ _ c.in_ok-len.ensures.counted in
    let read = c.read_next_list-2.ensures.counted ∙ only_some _ c.in_ok-n.ensures in
    let weights = list_got next_fraction _ _ _ read in
    let kept = c.kept.ensures ∙ list_first next_fraction _ _ _ read _ 4096 c.read_next_list-2.ensures.kept (omega arith) in
    rw (c.in_ok-variant.ensures, moments, c.in_ok-epsilon.ensures, c.in_ok-epsilon_override.ensures, c.in_ok-factor.ensures, c.in_ok-max_iter.ensures, c.in_ok-fit.ensures, weights, ← kept, long, ← c.in_ok-len.ensures.kept, c.reply.ensures, c.single_fit_through-fitted.ensures, c.from.ensures)
    refl
