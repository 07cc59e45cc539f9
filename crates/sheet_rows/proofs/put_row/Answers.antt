-- The texts are the parts of a row (`row_made`).
use native.Mathlib.Omega.{arith}
use mathlib.Core.Path.{refl}
use borrow.Author.Rules.{rules}
use mir.Syntax.{w64}
use mir.ValLaws.{to_z-of_z}
use Rattle.sheet_rows.proofs.Rows.{row_made}
use Rattle.sheet_rows.proofs.put_row.Goals as goal

pub returns : goal.returns
returns c =
    let at = rw (to_z-of_z w64 c.args.row.at (search rules)) at c.put_instant.ensures in
    rw (c.as_bytes.ensures, row_made c.args.row refl (omega arith) (rw c.new-line.ensures at c.put.ensures) at c.put-2.ensures c.put_decimal.ensures c.put-3.ensures c.put_decimal-2.ensures c.put-4.ensures c.put_hex.ensures c.put-5.ensures)
    at c.put-6.ensures
