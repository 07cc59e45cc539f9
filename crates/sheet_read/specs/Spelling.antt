-- Each span has one spelling: the sheets that are accepted are the printed ones, within the limits. Definitions only.
use Rattle.std.specs.Prelude.{ℕ, ◌≤◌, ◌<◌, ◌^◌, ◌≡◌, List, [], ◌∷◌, length, Ok}
use Rattle.std.specs.Int.Signed.{mag}
use Rattle.sheet_forms.specs.Forms.{span_lines}
use Rattle.sheet_forms.specs.declared.Span.{Span}
use Rattle.sheet_read.specs.Sheet.{sheet}

-- a span that a sheet can hold: its instants within i64, its side of 64 bits
pub record InRange (a : Span) : Type 0 where
  pub from_fits : mag a.from < 2 ^ 63
  pub to_fits : mag a.to < 2 ^ 63
  pub side_fits : a.side < 2 ^ 64

abbrev pub AllInRange : List Span → Type 0
AllInRange [] = Unit
AllInRange (a ∷ l) = InRange a × AllInRange l

-- spans within the limits of a sheet
pub record Holdable (l : List Span) : Type 0 where
  pub in_range : AllInRange l
  pub few_lines : length l ≤ 1024
  pub few_bytes : length (span_lines l) ≤ 65536

-- what is accepted as some spans is their printed form, and their printed form is accepted as them
pub record OneSpelling (s : List ℕ) : Type 0 where
  pub only : (l : List Span) → sheet s ≡ Ok l → (s ≡ span_lines l) × Holdable l
  pub all : (l : List Span) → Holdable l → s ≡ span_lines l → sheet s ≡ Ok l
