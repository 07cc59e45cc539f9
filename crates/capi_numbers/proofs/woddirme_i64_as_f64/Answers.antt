-- `capi_numbers::woddirme_i64_as_f64` meets its contract: the call hands n on as bits, and reads them back as n. Assumes nothing.
use mathlib.Core.Path.{ap, ◌∙◌}
use lib.Ieee.{binary64, of_int}
use mir.Syntax.{w64}
use mir.ValLaws.{to_z-of_z}
use Rattle.capi_numbers.proofs.woddirme_i64_as_f64.Goals as goal

pub returns : goal.returns
returns c = c.i64_as_f64.ensures ∙ ap (of_int binary64) (to_z-of_z w64 c.args.n c.ranges.n)
