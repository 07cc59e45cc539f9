-- A row for each span: its start, then a fraction of each column. Definitions only.
use Rattle.std.specs.Prelude.{ℕ, suc, ◌-◌, ◌/◌, ◌^◌, List, [], ◌∷◌, ◌++◌, ℤ, Float, drop, get_or, length}
use Rattle.std.specs.Float.{nan}
use Rattle.protocol.specs.Words.{next_instant, next_natural}
use Rattle.protocol_lists.specs.Lists.{or_none, values_of}
use Rattle.replies.specs.declared.forms.Columns.{Columns}
use Rattle.replies.specs.declared.forms.Columns.TheVariants.{Zero, One, Two}
use Rattle.replies.specs.declared.forms.SpanRows.{SpanRows}
use Rattle.printing_values.specs.Texts.{fractions, instant}

-- the fractions of row i, one of each column: the first column begins where the list does, the second in its middle
abbrev pub entries : Columns → List Float → ℕ → List Float
entries Zero xs i = []
entries One xs i = get_or xs i nan ∷ []
entries Two xs i = get_or xs i nan ∷ get_or (drop (length xs / 2) xs) i nan ∷ []

-- row i, of the span that starts at t
abbrev pub row : Columns → List Float → ℕ → ℤ → List (List ℕ)
row columns xs i t = instant t ++ fractions (entries columns xs i)

-- a row for each start, from row i on
unfoldable pub rows_from : Columns → List Float → ℕ → List ℤ → List (List ℕ)
rows_from columns xs i [] = []
rows_from columns xs i (t ∷ ts) = row columns xs i t ++ rows_from columns xs (suc i) ts

-- the starts, as a request lists them: how many, then so many
abbrev pub starts : List ℕ → List ℤ
starts s = or_none (next_natural (2 ^ 64 - 1) s) (values_of next_instant)

-- a row for each start, which are read from the request s again
abbrev pub rows : SpanRows → List ℕ → List Float → List (List ℕ)
rows r s xs = rows_from r.columns xs 0 (starts (drop r.starts s))
