-- `text_read::read_natural` meets its contract, by its first byte (`Steps.antt`). Assumes nothing.
use mathlib.Core.Path.{◌∙◌, ap}
use native.Mathlib.Omega.{arith}
use Rattle.text.specs.Decode.{up_to}
use Rattle.text.proofs.Steps.{natural_none, natural_zero, natural_other, natural_more, up_to_in}
use Rattle.text_read.proofs.read_natural.Goals as goal

pub returns-in_err-b : goal.returns-in_err-b
returns-in_err-b c = rw (c.from_residual.ensures, natural_none c.args.s.now c.in_err-b.ensures.cases)

pub returns-in_err-first : goal.returns-in_err-first
returns-in_err-first c = rw (c.from_residual-in_err-first.ensures, natural_other c.in_ok-b.ensures.cases.0 c.in_err-first.ensures)

pub returns-then-first-eq0 : goal.returns-then-first-eq0
returns-then-first-eq0 c =
    ap (up_to c.args.limit) (natural_zero c.in_ok-b.ensures.cases.0 (omega arith))
    ∙ up_to_in c.args.limit 0 c.in_ok-b.rest.now (omega arith)

pub returns : goal.returns
returns c =
    let d = c.in_ok-first.ensures in
    ap (up_to c.args.limit) (natural_more c.in_ok-b.ensures.cases.0 d.0 c.if-first-eq0.false d.1) ∙ c.read_digits.ensures
