-- Document 01's span form: what one decodes to, and how spans are printed. Definitions only.
use Rattle.std.specs.Prelude.{ℕ, List, [], ◌∷◌, ◌++◌}
use Rattle.text.specs.Bytes.{bytes}
use Rattle.text.specs.Decode.{Got, got, ◌▷◌, word, instant, hexes}
use Rattle.text.specs.Print.{hex, shown}
use Rattle.sheet_forms.specs.declared.Span.{Span}

-- a span form
unfoldable pub span_form : List ℕ → Got Span
span_form s =
    word (bytes "(span (from ") s ▷ λ _ s.
    instant s ▷ λ a s.
    word (bytes ") (to ") s ▷ λ _ s.
    instant s ▷ λ b s.
    word (bytes ") (side ") s ▷ λ _ s.
    hexes 16 0 s ▷ λ x s.
    word (bytes "))") s ▷ λ _ s.
    got (record { from = a; to = b; side = x }) s

-- one that a newline closes
unfoldable pub line_form : List ℕ → Got Span
line_form s = span_form s ▷ λ a s. word (bytes "\n") s ▷ λ _ s. got a s

-- a span, printed
unfoldable pub span_text : Span → List ℕ
span_text a =
    bytes "(span (from " ++ (shown a.from ++ (bytes ") (to " ++ (shown a.to ++ (bytes ") (side " ++ (hex a.side ++ bytes "))")))))

-- each of some spans, printed on a line of its own
abbrev pub span_lines : List Span → List ℕ
span_lines [] = []
span_lines (a ∷ l) = span_text a ++ (bytes "\n" ++ span_lines l)
