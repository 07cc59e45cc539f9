-- `printing::put` meets its contract: it puts one text after another. Assumes nothing.
use Rattle.text_write.proofs.Putting.{puts_first, puts_one, puts_then}
use Rattle.printing.proofs.put.Goals as goal
use Rattle.printing.proofs.put.Goals.{in-Some, in_default}

pub returns : goal.returns
returns c = elim c.match-r.branch [
  | in-Some w ↦ rw (w.in-Some.is, ← w.head.ensures) (puts_first w.put.ensures (puts_then w.put_values.ensures (puts_one (rw w.text-is at c.put-2.ensures))))
  | in_default w ↦ rw w.in_default.is (puts_first w.put-in_default.ensures (puts_one (rw w.text-is at c.put-2.ensures)))
]
