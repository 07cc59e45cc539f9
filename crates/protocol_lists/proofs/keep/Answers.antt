-- `protocol_lists::keep` meets its contract: past the end of a list a store changes nothing. Assumes nothing.
use mathlib.Core.Path.{sym}
use native.Mathlib.Omega.{arith}
use lib.Seq.{set_out}
use Rattle.protocol_lists.proofs.keep.Goals as goal

pub returns-else-i-xs : goal.returns-else-i-xs
returns-else-i-xs g c = sym (set_out _ _ _ (omega arith))
