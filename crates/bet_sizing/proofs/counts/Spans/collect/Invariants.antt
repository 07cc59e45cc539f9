use Rattle.std.proofs.Common.{length}
use Rattle.bet_sizing.proofs.Collecting.{Gathered}
use Rattle.bet_sizing.proofs.counts.Spans.collect.Given as goal

abbrev pub invariant-loop-start : goal.invariant-loop-start
invariant-loop-start l =
    let spans = l.self in
    let left = l.start-iterator in
    Gathered l.side spans.starts.now spans.ends.now spans.sides.now l.s l.e l.m (length l.yielded) left.a.a.rest.now left.a.b.rest.now left.b.rest.now
