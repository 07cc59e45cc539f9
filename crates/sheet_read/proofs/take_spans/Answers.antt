-- With i lines read, their spans are in front of the lists (`Filling`); the sheet is accepted, so no line is at fault.
use borrow.Author.Rules.{rules}
use mir.Syntax.{w64}
use mir.ValLaws.{to_z-of_z}
use Rattle.sheet_read.proofs.Filling.{begin, put, filled, faultless}
use Rattle.sheet_read.proofs.take_spans.Goals as goal

pub loop-i-init : goal.loop-i-init
loop-i-init c = begin _ _ _ _

pub returns-in_default : goal.returns-in_default
returns-in_default c =
    let l = c.loop-i in
    let a = c.args in
    faultless a.s.now l.rest.now l.i a.starts.now l.starts a.ends.now l.ends a.sides.now l.sides c.requires l.invariant c.loop-i-test.true c.in_default.ensures

pub loop-i-preserved : goal.loop-i-preserved
loop-i-preserved c =
    let l = c.loop-i in
    let a = c.args in
    let v = c.in-Some in
    rw (to_z-of_z w64 v.span.from (search rules), to_z-of_z w64 v.span.to (search rules), c.f64_from_bits_with_nan.ensures)
    (put a.s.now l.rest.now l.i a.starts.now l.starts a.ends.now l.ends a.sides.now l.sides c.requires l.invariant c.loop-i-test.true v.span v.after.now v.ensures)

pub returns : goal.returns
returns c =
    let l = c.loop-i in
    let a = c.args in
    filled a.s.now l.rest.now l.i a.starts.now l.starts a.ends.now l.ends a.sides.now l.sides c.requires l.invariant c.loop-i-test.false
