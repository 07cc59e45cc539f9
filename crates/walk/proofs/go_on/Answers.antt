-- `walk::go_on` meets its contract: after k turns, what is left of the piece (`Left.antt`) is the whole piece, and whole rounds change nothing (`Rounds.antt`). Assumes nothing.
use mathlib.Core.Path.{◌≡◌, sym, ap, ◌∙◌}
use Prim.Native.Nat.{◌+◌}
use mathlib.Core.Bool.{true, false}
use native.Mathlib.Omega.{arith}
use Rattle.walk.proofs.Left.{left_of, begins, goes_on, turned_away, settles, spent}
use Rattle.walk.proofs.Pieces.{goes}
use Rattle.walk.proofs.Rounds.{since_now, since_on, turns}
use Rattle.walk.proofs.Trails.{stepped_on, fit_on, settled_on}
use Rattle.walk.proofs.go_on.Goals as goal

pub overflow_sub-m : goal.overflow_sub-m
overflow_sub-m c = omega (arith, (goes c.args.w c.requires.going).below)

pub loop-count-init : goal.loop-count-init
loop-count-init c =
    let w = c.args.w in
    (omega arith, begins w c.args.n (goes w c.requires.going).unstopped ∙ ap (λ f. left_of w c.args.n f 0 w.mu_2 w.p_1) (sym c.from-f.ensures), since_now _ _ _ _ _)

pub returns-in_default : goal.returns-in_default
returns-in_default c =
    let w = c.args.w in
    let g = goes w c.requires.going in
    let e = stepped_on w.state _ _ _ _ _ _ c.requires.its_variant c.first_five-a.ensures c.step-s.ensures c.in_default.is in
    rw (c.steps_on.ensures, c.loop-count.invariant.1, turned_away w c.args.n _ g.shape (omega (arith, g.below)) c.min-to.ensures _ _ _ _ c.loop-count-test.true e)

pub returns-then-settled : goal.returns-then-settled
returns-then-settled c =
    let w = c.args.w in
    let g = goes w c.requires.going in
    let a = c.first_five-a.ensures in
    let e = stepped_on w.state _ _ _ _ _ _ c.requires.its_variant a c.step-s.ensures c.in-Admitted.is in
    let f = fit_on w.state _ _ _ _ a c.fit_after-f.ensures in
    let s = settled_on _ _ _ _ true c.abs.ensures c.if-settled.true in
    rw (c.steps_on-then-settled.ensures, f, c.loop-count.invariant.1, settles w c.args.n _ g.shape (omega (arith, g.below)) c.min-to.ensures _ _ _ _ _ c.loop-count-test.true e s)

pub count_rounds-t-requires : goal.count_rounds-t-requires
count_rounds-t-requires c = (omega (arith, c.loop-count.invariant.2.counted), omega arith)

pub loop-count-preserved : goal.loop-count-preserved
loop-count-preserved c =
    let w = c.args.w in
    let n = c.args.n in
    let g = goes w c.requires.going in
    let a = c.first_five-a.ensures in
    let e = stepped_on w.state _ _ _ _ _ _ c.requires.its_variant a c.step-s.ensures c.in-Admitted.is in
    let f = fit_on w.state _ _ _ _ a c.fit_after-f.ensures in
    let s = settled_on _ _ _ _ false c.abs.ensures c.if-settled.false in
    let on = goes_on w n c.min-to.result g.shape (omega (arith, g.below)) c.min-to.ensures in
    let t = turns w.state (left_of w n) c.min-to.result on _ _ _ _ _ _ (omega arith) (since_on w.state _ _ _ _ _ _ _ c.loop-count.invariant.2 e f s) c.count_rounds-t.ensures in
    (t.within, c.loop-count.invariant.1 ∙ on _ _ _ _ _ c.loop-count-test.true e s ∙ ap (λ x. left_of w n x (c.loop-count.count + 1) c.in-Admitted.r.mu_2 c.in-Admitted.r.p_1) (sym f) ∙ t.the_same, t.since)

pub steps_on-requires-2 : goal.steps_on-requires-2
steps_on-requires-2 c = omega (arith, c.loop-count.invariant.0, (goes c.args.w c.requires.going).below)

pub returns : goal.returns
returns c =
    let w = c.args.w in
    let g = goes w c.requires.going in
    let e : c.loop-count.count ≡ c.min-to.result = omega (arith, c.loop-count.invariant.0) in
    rw (c.steps_on-2.ensures, c.loop-count.invariant.1, e, spent w c.args.n _ g.shape (omega (arith, g.below)) c.min-to.ensures c.loop-count.f c.loop-count.mu c.loop-count.p)
