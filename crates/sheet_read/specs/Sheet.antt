-- What a sheet is: its spans, or document 01's refusal. Definitions only.
use Rattle.std.specs.Prelude.{ℕ, zero, suc, List, [], ◌∷◌, ltb, length, Result, Ok, Err}
use Rattle.std.specs.Result.{is_err}
use Rattle.text.specs.Decode.{Got, got, bad}
use Rattle.refusal.specs.Numbers.{Checked}
use Rattle.refusal.specs.Rules.{Rule, ◌⇒◌, first_refusal}
use Rattle.refusal.specs.declared.Refusal.{Refusal}
use Rattle.refusal.specs.declared.Refusal.TheVariants as refusals
use Rattle.refusal.specs.declared.Refusal.TheVariants.{TooLarge}
use Rattle.sheet_forms.specs.Forms.{line_form}
use Rattle.sheet_forms.specs.declared.Span.{Span}
use Rattle.sheet_read.specs.declared.SheetError.{SheetError}
use Rattle.sheet_read.specs.declared.SheetError.TheVariants.{Refused, NotASpan}

-- what a sheet's lines are: span forms all, or the number of the first that is none
abbrev pub Lines : Type 0
Lines = Result (List Span) ℕ

abbrev pub also : Span → Lines → Lines
also a (Ok l) = Ok (a ∷ l)
also a (Err n) = Err n

-- a line, and then more; n is its number
abbrev pub onward : ℕ → (List ℕ → Lines) → Got Span → Lines
onward n more (got a s) = also a (more s)
onward n more bad = Err n

-- The lines of s, the first of them numbered n. A line has a byte at least, so the number k of the bytes is enough turns.
unfoldable pub lines : ℕ → ℕ → List ℕ → Lines
lines zero n [] = Ok []
lines zero n (b ∷ s) = Err n
lines (suc k) n [] = Ok []
lines (suc k) n (b ∷ s) = onward n (lines k (suc n)) (line_form (b ∷ s))

-- a sheet's spans, or why it is turned away
abbrev pub Reading : Type 0
Reading = Result (List Span) SheetError

-- the spans that are read, none where a line is at fault; and the number of that line
abbrev pub spans_of : Lines → List Span
spans_of (Ok l) = l
spans_of (Err n) = []

abbrev pub fault_of : Lines → ℕ
fault_of (Ok l) = 0
fault_of (Err n) = n

-- document 01's entry "Sheet", for bytes s with these lines
abbrev pub sheet_rules : List ℕ → Lines → List Rule
sheet_rules s ls =
    ltb 65536 (length s) ⇒ TooLarge
    ∷ is_err ls ⇒ refusals.NotASpan
    ∷ ltb 1024 (length (spans_of ls)) ⇒ TooLarge
    ∷ []

-- what is told of a refusal: of a line that is no span form which one it is, as the reader has it
abbrev pub told : Refusal → Lines → SheetError
told refusals.NotASpan ls = NotASpan (fault_of ls)
told refusal ls = Refused refusal

abbrev pub reading : Checked → Lines → Reading
reading (Ok u) ls = Ok (spans_of ls)
reading (Err refusal) ls = Err (told refusal ls)

unfoldable pub sheet : List ℕ → Reading
sheet s = let ls = lines (length s) 1 s in reading (first_refusal (sheet_rules s ls)) ls
