-- `protocol_lists::read_next_fractions` meets its contract: what was read into N places is the N fractions. Assumes nothing.
use lib.Ieee.{binary64, of_bits}
use lib.ListN.{replicate, length-replicate}
use Rattle.protocol.specs.Words.{next_fraction}
use Rattle.protocol_lists.proofs.Reading.{all_places}
use Rattle.protocol_lists.proofs.read_next_fractions.Goals as goal

pub returns : goal.returns
returns g c = all_places next_fraction _ _ _ (replicate g.row.N (of_bits binary64 0)) _ (length-replicate _ _) c.in_ok-rest.ensures.counted c.in_ok-rest.ensures.kept
