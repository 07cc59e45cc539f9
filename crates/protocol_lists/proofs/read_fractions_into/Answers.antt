-- `protocol_lists::read_fractions_into` meets its contract: a turn reads and stores one fraction, and those that are left stand in what is left (`Reading.antt`). Assumes nothing.
use mathlib.Core.Path.{refl, sym, ◌∙◌}
use native.Mathlib.Omega.{arith}
use lib.ListN.{length-set}
use Rattle.protocol.specs.Words.{next_fraction}
use Rattle.protocol_lists.proofs.Reading.{all_stored, no_more, none_stored, none_yet, not_one, not_stored, one_more, one_stored}
use Rattle.protocol_lists.proofs.read_fractions_into.Goals as goal

pub loop-i-init : goal.loop-i-init
loop-i-init c = record { long = refl; left = none_yet next_fraction _ _; stored = none_stored next_fraction _ _ _ }

pub returns-in_err-value : goal.returns-in_err-value
returns-in_err-value c =
    let l = c.loop-i in
    record {
      counted = rw c.from_residual.ensures (l.invariant.left ∙ not_one next_fraction _ _ _ (omega arith) c.in_err-value.ensures);
      kept = sym (l.invariant.stored ∙ not_stored next_fraction _ _ _ _ (omega arith) c.in_err-value.ensures);
    }

pub loop-i-preserved : goal.loop-i-preserved
loop-i-preserved c =
    let l = c.loop-i in
    record {
      long = length-set _ _ _ ∙ l.invariant.long;
      left = l.invariant.left ∙ one_more next_fraction _ _ _ _ _ (omega arith) c.in_ok-value.ensures;
      stored = l.invariant.stored ∙ one_stored next_fraction _ _ _ _ _ _ (omega arith) c.in_ok-value.ensures;
    }

pub returns : goal.returns
returns c =
    let l = c.loop-i in
    record {
      counted = l.invariant.left ∙ no_more next_fraction _ _ _ (omega arith);
      kept = sym (l.invariant.stored ∙ all_stored next_fraction _ _ _ _ (omega arith));
    }
