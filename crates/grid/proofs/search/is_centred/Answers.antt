use native.Mathlib.Omega.{arith}
use lib.Ieee.{ne, of_bits}
use Rattle.std.proofs.lemmas.Grind.{common_steps}
use Rattle.grid.proofs.search.is_centred.Goals as goal

pub returns-then-eq : goal.returns-then-eq
unfolding ne of_bits
returns-then-eq c = grind (arith, common_steps)
