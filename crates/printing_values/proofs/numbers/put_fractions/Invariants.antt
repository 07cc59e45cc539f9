-- the fractions before x are put, and the rest of the list is left
use lib.ListN.{drop}
use Rattle.printing_values.specs.Texts.{fractions}
use Rattle.text_write.proofs.Putting.{Left}
use Rattle.printing_values.proofs.numbers.put_fractions.Given as goal

abbrev pub invariant-loop-x : goal.invariant-loop-x
invariant-loop-x l = Left l.initial.text (fractions l.xs) l.text (fractions (drop l.x-index l.xs))
