use Rattle.std.proofs.Common.{◌≡◌, length}
use Rattle.text.specs.Decode.{numeral}
use Rattle.text_read.proofs.read_digits.Given as goal

abbrev pub invariant-loop-b : goal.invariant-loop-b
invariant-loop-b l = numeral l.first l.s ≡ numeral l.value l.rest

abbrev pub decreases-loop-b : goal.decreases-loop-b
decreases-loop-b l = length l.rest
