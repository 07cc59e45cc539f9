-- of n rows, i are put, and the starts of n - i stand in what is left of the request
use Prim.Native.Nat.{◌-◌}
use Rattle.protocol.specs.Words.{next_instant}
use Rattle.protocol_lists.specs.Lists.{values_of}
use Rattle.printing_values.specs.Rows.{rows_from}
use Rattle.text_write.proofs.Putting.{Left}
use Rattle.printing_values.proofs.rows.put_rows.Given as goal

abbrev pub invariant-loop-i : goal.invariant-loop-i
invariant-loop-i l =
    Left l.initial.text (rows_from l.columns l.xs 0 (values_of next_instant l.n l.initial.rest)) l.text (rows_from l.columns l.xs l.i (values_of next_instant (l.n - l.i) l.rest))
