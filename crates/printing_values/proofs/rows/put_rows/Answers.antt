-- `printing_values::rows::put_rows` meets its contract and ends: a turn reads one start and puts its row (`Spans.antt`). Assumes nothing.
use native.Mathlib.Omega.{arith}
use borrow.Author.Rules.{rules}
use mir.Syntax.{w64}
use mir.ValLaws.{to_z-of_z}
use Rattle.printing_values.specs.Rows.{rows_from}
use Rattle.text_write.proofs.Putting.{puts_none}
use Rattle.printing_values.proofs.Spans.{left_row, no_row, no_start}
use Rattle.printing_values.proofs.rows.put_rows.Goals as goal

pub returns-in_default : goal.returns-in_default
unfolding rows_from
returns-in_default c = rw c.in_default.ensures puts_none

pub returns-in_default-read_next : goal.returns-in_default-read_next
returns-in_default-read_next c =
    rw c.in-Some.ensures (no_start _ _ _ _ _ (omega arith) c.in_default-read_next.ensures c.loop-i.invariant)

pub loop-i-preserved : goal.loop-i-preserved
loop-i-preserved c =
    let p = rw (to_z-of_z w64 c.in-Some-read_next.t (search rules)) at c.put_instant.ensures in
    left_row _ _ _ _ _ (omega arith) c.in-Some-read_next.ensures c.loop-i.invariant p c.put_entries.ensures

pub returns : goal.returns
returns c = rw c.in-Some.ensures (no_row _ _ _ _ _ (omega arith) c.loop-i.invariant)
