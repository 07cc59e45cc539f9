-- Document 01's row form. Definitions only.
use Rattle.std.specs.Prelude.{ℕ, List, ◌++◌}
use Rattle.text.specs.Bytes.{bytes}
use Rattle.text.specs.Print.{decimal, hex, shown}
use Rattle.sheet_rows.specs.declared.Row.{Row}

-- a row's line: an instant, the counts live then, and the bits of the size
unfoldable pub row_line : Row → List ℕ
row_line r =
    bytes "(row (at " ++ (shown r.at ++ (bytes ") (long " ++ (decimal r.long ++ (bytes ") (short " ++ (decimal r.short ++ (bytes ") (size " ++ (hex r.size ++ bytes "))\n")))))))
