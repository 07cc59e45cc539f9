-- With n lines read, the sheet's lines are those and then the lines of what is left (`Going`).
use Prim.Native.Nat.{◌+◌, ◌<◌}
use native.Mathlib.Omega.{arith}
use lib.ListN.{length}
use Rattle.sheet_forms.proofs.Further.{further}
use Rattle.sheet_read.proofs.Going.{some_left, none_left, more, fault, whole, sheet_wrong, sheet_many, sheet_good}
use Rattle.sheet_read.proofs.check.Goals as goal

pub returns-in_default : goal.returns-in_default
returns-in_default c =
    let l = c.loop-rest in
    let s = c.args.s.now in
    rw (sheet_wrong s (l.n + 1) (omega arith) (fault s l.rest.now l.n l.invariant (some_left _ c.is_empty.ensures c.loop-rest-test.true) c.in_default.ensures))

pub loop-rest-smaller : goal.loop-rest-smaller
loop-rest-smaller c =
    let p : length c.in-Some.after.now < length c.loop-rest.rest.now = further _ _ _ c.in-Some.ensures in
    omega (arith, p)

pub loop-rest-preserved : goal.loop-rest-preserved
loop-rest-preserved c = more c.args.s.now c.loop-rest.rest.now c.loop-rest.n c.loop-rest.invariant c.in-Some.field-0-0 c.in-Some.after.now (some_left _ c.is_empty.ensures c.loop-rest-test.true) c.in-Some.ensures

pub returns-then-n-gt1024 : goal.returns-then-n-gt1024
returns-then-n-gt1024 c =
    let l = c.loop-rest in
    let s = c.args.s.now in
    let w = whole s l.rest.now l.n l.invariant (none_left _ c.is_empty.ensures c.loop-rest-test.false) in
    rw (sheet_many s l.invariant.done (omega arith) w (omega (arith, l.invariant.size)), c.into-then-n-gt1024.ensures)

pub returns : goal.returns
returns c =
    let l = c.loop-rest in
    let s = c.args.s.now in
    let w = whole s l.rest.now l.n l.invariant (none_left _ c.is_empty.ensures c.loop-rest-test.false) in
    rw (sheet_good s l.invariant.done (omega arith) w (omega (arith, l.invariant.size)), l.invariant.size)
