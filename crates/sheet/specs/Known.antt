-- Document 01's worked sheet, and the smallest faults, computed through the definitions.
use Rattle.std.specs.Prelude.{ℕ, ◌≡◌, refl, List, [], ◌∷◌, ◌++◌, pos, negsuc, Ok}
use Prim.Native.String.{String}
use Rattle.std.specs.Float.Ieee.{of_bits, to_bits, of_int, lt, div, sub, round, units, odd, size, sum, add, neg, span, climb}
use Rattle.float.specs.Leaves.{larger_of}
use Rattle.bet_sizing.specs.Counts.{concurrent}
use Rattle.budget.specs.Budget.{largest_from}
use Rattle.text.specs.Bytes.{bytes}
use Rattle.text.specs.Decode.{word, nibble, numeral, natural, instant, hexes}
use Rattle.text.specs.Print.{width, decimal, hex, shown}
use Rattle.sheet_forms.specs.Forms.{span_form, line_form, span_text, span_lines}
use Rattle.sheet_rows.specs.Rows.{row_line}
use Rattle.sheet_read.specs.Sheet.{lines, sheet}
use Rattle.sheet.specs.CountSheet.{count_sheet, reason, refusal}
use Rattle.sheet.specs.Rows.{row_at}

worked : count_sheet
    (bytes "(span (from 0) (to 10) (side 3ff0000000000000))\n"
    ++ bytes "(span (from 5) (to 15) (side bff0000000000000))\n"
    ++ bytes "(span (from 10) (to 20) (side 3ff0000000000000))\n")
    ≡ bytes "(row (at 0) (long 1) (short 0) (size 3ff0000000000000))\n"
    ++ bytes "(row (at 5) (long 1) (short 1) (size 0000000000000000))\n"
    ++ bytes "(row (at 10) (long 1) (short 1) (size 0000000000000000))\n"
unfolding word nibble numeral natural instant hexes span_form line_form lines sheet width decimal hex shown row_line row_at concurrent largest_from larger_of lt of_bits to_bits of_int div sub add neg sum round units odd size span climb
worked = refl

empty : count_sheet [] ≡ []
unfolding sheet lines
empty = refl

-- a line that is not a span form, by its number; the first line of each is good
abbrev refusals : List String → List (List ℕ)
refusals [] = []
refusals (t ∷ ts) = count_sheet (bytes "(span (from 0) (to 10) (side 3ff0000000000000))\n" ++ bytes t) ∷ refusals ts

abbrev all : List ℕ → List String → List (List ℕ)
all r [] = []
all r (t ∷ ts) = r ∷ all r ts

abbrev faults : List String
faults =
    "\n"
    ∷ "(span (from 00) (to 10) (side 3ff0000000000000))\n"
    ∷ "(span (from -0) (to 10) (side 3ff0000000000000))\n"
    ∷ "(span (from +1) (to 10) (side 3ff0000000000000))\n"
    ∷ "(span (from 9223372036854775808) (to 10) (side 3ff0000000000000))\n"
    ∷ "(span (from 0) (to 10) (side 3FF0000000000000))\n"
    ∷ "(span (from 0) (to 10) (side 3ff000000000000))\n"
    ∷ "(span  (from 0) (to 10) (side 3ff0000000000000))\n"
    ∷ "(span (from 0) (to 10) (side 3ff0000000000000)) \n"
    ∷ "(span (from 0) (to 10) (side 3ff0000000000000))"
    ∷ []

known_faults : refusals faults ≡ all (bytes "(refused 15 2)\n") faults
unfolding word nibble numeral natural instant hexes span_form line_form lines sheet width decimal reason refusal
known_faults = refl

-- instants at the ends of i64, printed and read back
ends : sheet (span_lines (record { from = negsuc 9223372036854775807; to = pos 9223372036854775807; side = 0x7ff8_0000_0000_0001 } ∷ []))
    ≡ Ok (record { from = negsuc 9223372036854775807; to = pos 9223372036854775807; side = 0x7ff8_0000_0000_0001 } ∷ [])
unfolding word nibble numeral natural instant hexes span_form line_form lines sheet width decimal hex shown span_text
ends = refl
