-- of n entries, i are read and kept, and n - i stand in what is left
use Rattle.std.proofs.Common.{◌≡◌, ◌-◌}
use Rattle.std.proofs.lemmas.List.Edits.{sets}
use Rattle.protocol.specs.Words.{next}
use Rattle.protocol_lists.specs.Lists.{entries_of, values_of}
use Rattle.protocol_lists.proofs.read_next_list.Given as goal

abbrev pub invariant-loop-i : goal.invariant-loop-i
invariant-loop-i g l = record {
  left : entries_of (next g.T.Entry.form) l.count l.initial.rest ≡ entries_of (next g.T.Entry.form) (l.count - l.i) l.rest;
  stored : sets l.initial.xs 0 (values_of (next g.T.Entry.form) l.count l.initial.rest) ≡ sets l.xs l.i (values_of (next g.T.Entry.form) (l.count - l.i) l.rest);
}
