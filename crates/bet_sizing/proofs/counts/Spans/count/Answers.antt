-- `bet_sizing::counts::Spans::count` meets its contract: sorting keeps ranks, and ranks of starts less ranks of ends are the live spans (`Netting.antt`). Assumes nothing.
use native.Mathlib.Omega.{arith}
use lib.ListN.{length-take}
use Rattle.std.proofs.lemmas.List.Sorted.{IsNonDecreasingBy-from_sort}
use Rattle.bet_sizing.proofs.Netting.{netted}
use Rattle.bet_sizing.proofs.counts.Spans.count.Goals as goal

pub net_counts-requires : goal.net_counts-requires
net_counts-requires c = record {
  starts = IsNonDecreasingBy-from_sort (λ k. k) c.sort_unstable.new.self c.sort_unstable.ensures.sorted;
  ends = IsNonDecreasingBy-from_sort (λ k. k) c.sort_unstable-2.new.self c.sort_unstable-2.ensures.sorted;
  few_starts = omega (arith, c.sort_unstable.ensures.len, length-take c.collect-m.result c.collect-m.new.s);
  few_ends = omega (arith, c.sort_unstable-2.ensures.len, length-take c.collect-m.result c.collect-m.new.e);
  room = c.requires;
}

pub returns : goal.returns
returns c = netted c.collect-m.ensures c.sort_unstable.ensures.permutation c.sort_unstable-2.ensures.permutation c.net_counts.ensures
