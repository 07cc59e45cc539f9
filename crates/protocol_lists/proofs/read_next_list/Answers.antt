-- `protocol_lists::read_next_list` meets its contract: a turn reads and keeps one entry, and those that are left stand in what is left (`Reading.antt`). Assumes nothing.
use mathlib.Core.Path.{sym, ◌∙◌}
use native.Mathlib.Omega.{arith}
use Rattle.protocol.specs.Words.{next}
use Rattle.protocol_lists.proofs.Reading.{all_stored, no_more, none_stored, none_yet, not_one, not_stored, one_more, one_stored}
use Rattle.protocol_lists.proofs.read_next_list.Goals as goal

pub loop-i-init : goal.loop-i-init
loop-i-init g c = record { left = none_yet (next g.T.Entry.form) _ _; stored = none_stored (next g.T.Entry.form) _ _ _ }

pub returns-in_err-x : goal.returns-in_err-x
returns-in_err-x g c =
    let l = c.loop-i in
    let form = next g.T.Entry.form in
    record {
      counted = rw (c.from_residual-in_err-x.ensures, c.in_ok-count.ensures, l.invariant.left ∙ not_one form _ _ _ (omega arith) c.in_err-x.ensures);
      kept = rw c.in_ok-count.ensures (sym (l.invariant.stored ∙ not_stored form _ _ _ _ (omega arith) c.in_err-x.ensures));
    }

pub loop-i-preserved : goal.loop-i-preserved
loop-i-preserved g c =
    let l = c.loop-i in
    let form = next g.T.Entry.form in
    record {
      left = l.invariant.left ∙ one_more form _ _ _ _ _ (omega arith) c.in_ok-x.ensures;
      stored = rw c.keep.ensures (l.invariant.stored ∙ one_stored form _ _ _ _ _ _ (omega arith) c.in_ok-x.ensures);
    }

pub returns : goal.returns
returns g c =
    let l = c.loop-i in
    let form = next g.T.Entry.form in
    record {
      counted = rw (c.in_ok-count.ensures, l.invariant.left ∙ no_more form _ _ _ (omega arith));
      kept = rw c.in_ok-count.ensures (sym (l.invariant.stored ∙ all_stored form _ _ _ _ (omega arith)));
    }
