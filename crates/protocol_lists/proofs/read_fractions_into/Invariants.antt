-- of n fractions, i are read and stored, and n - i stand in what is left
use Rattle.std.proofs.Common.{◌≡◌, ◌-◌, length}
use Rattle.std.proofs.lemmas.List.Edits.{sets}
use Rattle.protocol.specs.Words.{next_fraction}
use Rattle.protocol_lists.specs.Lists.{entries_of, values_of}
use Rattle.protocol_lists.proofs.read_fractions_into.Given as goal

abbrev pub invariant-loop-i : goal.invariant-loop-i
invariant-loop-i l = record {
  long : length l.xs ≡ l.n;
  left : entries_of next_fraction l.n l.s ≡ entries_of next_fraction (l.n - l.i) l.rest;
  stored : sets l.initial.xs 0 (values_of next_fraction l.n l.s) ≡ sets l.xs l.i (values_of next_fraction (l.n - l.i) l.rest);
}
