-- The count sheet as a whole, bytes in to bytes out. Definitions only.
use Rattle.std.specs.Prelude.{ℕ, List, [], ◌∷◌, map, ◌++◌, Ok, Err}
use Rattle.text.specs.Bytes.{bytes}
use Rattle.text.specs.Print.{decimal}
use Rattle.sheet_read.specs.Meaning.{from_of, to_of, side_of}
use Rattle.sheet_read.specs.Sheet.{Reading, sheet}
use Rattle.sheet_read.specs.SheetErrors.{numbers_of}
use Rattle.sheet_read.specs.declared.SheetError.{SheetError}
use Rattle.sheet.specs.Rows.{row_lines}

-- numbers, with a blank between two
abbrev pub spaced : List ℕ → List ℕ
spaced [] = []
spaced (n ∷ []) = decimal n
spaced (n ∷ m ∷ l) = decimal n ++ (bytes " " ++ spaced (m ∷ l))

-- why a sheet is refused
unfoldable pub reason : SheetError → List ℕ
reason e = spaced (numbers_of e)

-- the only line where a sheet is refused
unfoldable pub refusal : SheetError → List ℕ
refusal e = bytes "(refused " ++ (reason e ++ bytes ")\n")

abbrev pub printed : Reading → List ℕ
printed (Ok l) = row_lines (map from_of l) (map to_of l) (map side_of l)
printed (Err e) = refusal e

-- the rows of its spans, or the line that refuses it
abbrev pub count_sheet : List ℕ → List ℕ
count_sheet s = printed (sheet s)
