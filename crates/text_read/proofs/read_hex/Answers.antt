-- `text_read::read_hex` meets its contract: the digits left, after those that made value, decode as all sixteen do (`Steps.antt`), and value keeps within its digits (`Digits.antt`).
-- Assumes nothing.
use mathlib.Core.Path.{◌∙◌}
use native.Mathlib.Omega.{arith}
use lib.ListN.{take-append-drop}
use Rattle.text.proofs.Digits.{hex_room, hex_fits}
use Rattle.text.proofs.Steps.{hexes_end, hexes_short, hexes_more, hexes_other}
use Rattle.text_read.proofs.read_hex.Goals as goal

pub returns-in_err-digits : goal.returns-in_err-digits
returns-in_err-digits c = rw (c.from_residual.ensures, hexes_short 16 0 c.args.s.now c.in_err-digits.ensures.cases)

pub loop-b-init : goal.loop-b-init
loop-b-init c =
    let p = c.in_ok-digits.ensures.cases in
    (rw (p.1, p.2, take-append-drop), omega arith)

pub overflow_mul-value : goal.overflow_mul-value
overflow_mul-value c = let l = c.loop-b in
    omega (arith, hex_fits l.value 0 l.b-index l.invariant.1 (omega arith) (omega (arith, c.in_ok-digits.ensures.cases.3, c.loop-b-test.true)))

pub returns-in_err-value : goal.returns-in_err-value
returns-in_err-value c = let l = c.loop-b in
    let p = c.in_ok-digits in
    rw c.from_residual-in_err-value.ensures
    (l.invariant.0 ∙ hexes_other p.digits.now p.rest.now l.b-index l.value p.ensures.cases.3 (omega (arith, p.ensures.cases.3, c.loop-b-test.true)) c.in_err-value.ensures)

pub overflow_add-value : goal.overflow_add-value
overflow_add-value c = let l = c.loop-b in
    let d = c.in_ok-value in
    record { fits = hex_fits l.value d.field-0 l.b-index l.invariant.1 d.ensures.1 (omega (arith, c.in_ok-digits.ensures.cases.3, c.loop-b-test.true)) }

pub loop-b-preserved : goal.loop-b-preserved
loop-b-preserved c = let l = c.loop-b in
    let p = c.in_ok-digits in
    let d = c.in_ok-value in (
      l.invariant.0 ∙ hexes_more p.digits.now p.rest.now l.b-index l.value p.ensures.cases.3 (omega (arith, p.ensures.cases.3, c.loop-b-test.true)) d.ensures.0 d.ensures.1,
      hex_room l.value d.field-0 l.b-index l.invariant.1 d.ensures.1,
    )

pub returns : goal.returns
returns c = let l = c.loop-b in
    let p = c.in_ok-digits in
    l.invariant.0 ∙ hexes_end p.digits.now p.rest.now l.b-index l.value p.ensures.cases.3 (omega (arith, p.ensures.cases.3, c.loop-b-test.false))
