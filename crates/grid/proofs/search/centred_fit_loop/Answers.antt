use Rattle.grid.proofs.Searching.{centred_is, five_given}
use Rattle.grid.proofs.search.centred_fit_loop.Goals as goal

pub plain_fit-s-requires : goal.plain_fit-s-requires
plain_fit-s-requires c = let h = c.requires in (five_given _ _ c.about_the_mean.ensures, h.1, h.2)

pub returns : goal.returns
returns c = centred_is _ _ _ _ _ _ _ c.about_the_mean.ensures c.plain_fit-s.ensures c.moved_back.ensures c.moved_best.ensures
