-- `printing_values::rows::entry` meets its contract: the pattern of NAN is NaN's. Assumes nothing.
use Rattle.std.proofs.Common.{arith}
use Rattle.std.specs.Float.Ieee.{of_bits, of_fields}
use Rattle.printing_values.proofs.rows.entry.Goals as goal

pub returns : goal.returns
unfolding of_bits of_fields
returns c = rw (c.unwrap_or.ensures, c.copied.ensures) (c.get.ensures.lookup.4 (omega arith) _)
