-- `bet_sizing::counts::Spans::collect` meets its contract: after each turn, the ranks in the keys so far and what is left of the spans add up to all (`Collecting.antt`). Assumes nothing.
use borrow.Author.Rules.{rules}
use mathlib.Core.Logic.{inl, inr}
use native.Mathlib.Omega.{arith}
use Rattle.std.proofs.lemmas.List.{length_push}
use Rattle.bet_sizing.proofs.Collecting.{gathered_more, gathered_all}
use Rattle.bet_sizing.proofs.counts.Spans.collect.Goals as goal

pub loop-start-preserved : goal.loop-start-preserved
loop-start-preserved c =
    let l = c.loop-start in
    let step = c.in-Some.ensures.steps in
    rw (c.from-m.ensures, length_push l.yielded ((c.in-Some.start, c.in-Some.end), c.in-Some.number))
    (gathered_more (omega (arith, c.requires.0, l.auto.s)) (omega (arith, c.requires.1, l.auto.e)) l.invariant step.0.0 step.0.1 step.1
    (record { sfits = search rules }) (record { sfits = search rules }) c.key.ensures c.key-in-loop-start.ensures c.ever_live.ensures)

pub returns : goal.returns
returns c =
    let spans = c.args.self.now in
    gathered_all spans.ends_as_many spans.sides_as_many c.loop-start.invariant
    (elim c.in-None.ensures.steps [ inl p ↦ elim p.1 [ inl q ↦ inl q.1.0 | inr q ↦ inr (inl q.1.0) ] | inr q ↦ inr (inr q.1.0) ])
