-- Each call's answer is rewritten into the chain of decoders, in order.
use mir.Syntax.{w64}
use mir.ValLaws.{to_z-of_z}
use borrow.Author.Rules.{rules}
use Rattle.sheet_forms.specs.Forms.{span_form}
use Rattle.sheet_forms.proofs.read_span.Goals as goal

pub returns : goal.returns
unfolding span_form
returns c = rw (
  c.in_ok-s.ensures,
  c.in_ok-from.ensures,
  c.in_ok-s-2.ensures,
  c.in_ok-to.ensures,
  c.in_ok-s-3.ensures,
  c.in_ok-side.ensures,
  c.in_ok-s-4.ensures,
)
    (rw (to_z-of_z w64 c.in_ok-from.from (search rules), to_z-of_z w64 c.in_ok-to.to (search rules)))
