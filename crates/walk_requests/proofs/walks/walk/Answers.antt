-- `walk_requests::walks::walk` meets its contract, by whether the state is there and nothing after it. Assumes nothing.
use mathlib.Core.Path.{◌∙◌, refl}
use lib.Ieee.{of_bits}
use Rattle.protocol.specs.Words.{next_fraction}
use Rattle.protocol_lists.proofs.Listing.{list_got, list_long}
use Rattle.replies.proofs.Asking.{only_some}
use Rattle.walk_requests.proofs.walks.walk.Goals as goal

pub returns : goal.returns
unfolding of_bits
returns c =
    let read = c.in_ok-len.ensures.counted in
    let state = c.read_next_state.ensures ∙ only_some _ c.in_ok-fit.ensures in
    rw (c.in_ok-variant.ensures, list_got next_fraction _ _ _ read, list_long next_fraction _ _ _ read, c.in_ok-mu_2.ensures, c.in_ok-max_iter.ensures, state, c.reply.ensures, c.iterate_from.ensures, c.from.ensures, c.in_ok-len.ensures.kept)
    refl
