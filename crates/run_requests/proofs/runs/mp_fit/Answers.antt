-- `run_requests::runs::mp_fit` meets its contract, by whether the weights are there, and nothing after them. Assumes nothing.
use mathlib.Core.Path.{◌≡◌, refl, ◌∙◌}
use native.Mathlib.Omega.{arith}
use lib.Ieee.{of_bits}
use Rattle.std.proofs.Common.{None}
use Rattle.protocol.specs.Words.{next_fraction, only}
use Rattle.protocol_lists.proofs.Listing.{list_first, list_got, list_long}
use Rattle.replies.proofs.Asking.{only_list, only_none, only_old, only_some}
use Rattle.run_requests.specs.Runs.{asked, rows_in, runs_reply}
use Rattle.run_requests.proofs.runs.mp_fit.Goals as goal

pub returns-in_err-n : goal.returns-in_err-n
unfolding asked
returns-in_err-n c =
    let moments = list_got next_fraction _ _ _ c.in_ok-len.ensures.counted in
    let h : None ≡ only (asked c.args.s.now) =
    rw (c.in_ok-variant.ensures, moments, c.in_ok-epsilon.ensures, c.in_ok-max_iter.ensures, c.in_ok-n_runs.ensures, c.in_ok-places.ensures, c.in_ok-fit.ensures)
    (only_list next_fraction _ _ _ c.read_next_list-2.ensures.counted c.in_err-n.ensures) in
    (c.from_residual-in_err-n.ensures ∙ only_none (runs_reply _) _ h, only_old (rows_in c.args.xs.now) _ _ h)

pub returns : goal.returns
unfolding of_bits asked
returns c =
    let moments = list_got next_fraction _ _ _ c.in_ok-len.ensures.counted in
    let long = list_long next_fraction _ _ _ c.in_ok-len.ensures.counted in
    let read = c.read_next_list-2.ensures.counted ∙ only_some _ c.in_ok-n.ensures in
    let weights = list_got next_fraction _ _ _ read in
    let kept = c.kept.ensures ∙ list_first next_fraction _ _ _ read _ 4096 c.read_next_list-2.ensures.kept (omega arith) in
    let filled = rw c.from.ensures at c.fill.ensures in
    rw (c.in_ok-variant.ensures, moments, c.in_ok-epsilon.ensures, c.in_ok-max_iter.ensures, c.in_ok-n_runs.ensures, c.in_ok-places.ensures, c.in_ok-fit.ensures, weights, ← kept, long, ← c.in_ok-len.ensures.kept, ← filled.0)
    (refl, filled.1)
