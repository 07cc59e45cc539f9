-- `budget::sizes_of` meets its contract: after i turns the first i sizes are written (`Sizing.antt`, and bet_sizing's `Filling.antt`). Assumes nothing.
use mathlib.Core.Logic.{inl, inr}
use mathlib.Core.Path.{◌≡◌, sym, ◌∙◌}
use native.Mathlib.Omega.{arith}
use Prim.Native.Nat.{◌≤◌}
use lib.Ieee.{nan}
use lib.ListN.{length}
use Rattle.bet_sizing.proofs.Filling.{fill_all, fill_more, front, all_given}
use Rattle.budget.specs.Sizes.{sizes_of}
use Rattle.budget.proofs.Sizing.{sizes_length, size_at}
use Rattle.budget.proofs.sizes_of.Goals as goal

pub loop-i-preserved : goal.loop-i-preserved
loop-i-preserved c =
    let long = c.args.long.now in
    let short = c.args.short.now in
    let l = c.loop-i in
    let step = c.in-Some.ensures.steps in
    let i = l.i-iterator.count in
    let (its, h, left) = front long _ i _ nan (sym step.0.0 ∙ l.invariant.1) in
    let (other, _, left_other) = front short _ i _ nan (sym step.0.1 ∙ l.invariant.2) in
    rw (step.1, step.2) (
      fill_more (sizes_of long short) c.args.size.now l.size i l.invariant.0 _ (omega (arith, h, sizes_length long short c.requires.0)) (omega (arith, c.requires.1, sizes_length long short c.requires.0))
          (size_at long short i c.requires.0 h c.largest-max_long.ensures c.largest-max_short.ensures (rw its at c.share_of.ensures) (rw other at c.share_of-in-loop-i.ensures)),
      left,
      left_other,
      omega (arith, h),
    )

pub returns : goal.returns
returns c =
    let long = c.args.long.now in
    let short = c.args.short.now in
    let l = c.loop-i in
    let i = l.i-iterator.count in
    let done : length long ≤ i = elim c.in-None.ensures.steps.0 [ inl a ↦ all_given long _ i l.invariant.1 a.1.0 | inr b ↦ omega (arith, all_given short _ i l.invariant.2 b.1.0, c.requires.0) ] in
    let all : i ≡ length long = omega (arith, done, l.invariant.3) in
    rw all at (fill_all (sizes_of long short) c.args.size.now l.size i l.invariant.0 (all ∙ sym (sizes_length long short c.requires.0)))
