-- A form takes a byte at least, since its first word does and nothing after gives one back. Assumes nothing.
use Prim.Native.Nat.{ℕ, suc, ◌≤◌, ◌<◌}
use mathlib.Core.Path.{◌≡◌}
use mathlib.Core.List.{List, [], ◌∷◌}
use native.Mathlib.Omega.{arith}
use lib.ListN.{length}
use Rattle.text.specs.Bytes.{bytes}
use Rattle.text.specs.Decode.{got, word, instant, hexes}
use Rattle.text.proofs.Shorter.{Leaves, leaves_le, leaves_then, leaves_word, leaves_instant, leaves_hexes, leaves_first}
use Rattle.sheet_forms.specs.Forms.{span_form, line_form}
use Rattle.sheet_forms.specs.declared.Span.{Span}

leaves_span : (b : ℕ) (s : List ℕ) → Leaves (length s) (span_form (b ∷ s))
unfolding span_form
leaves_span b s =
    leaves_then (length s) (word (bytes "(span (from ") (b ∷ s)) _ (leaves_first _ _ b s) λ _ s₁ l₁.
    leaves_then (length s) (instant s₁) _ (leaves_le (instant s₁) l₁ (leaves_instant s₁)) λ x s₂ l₂.
    leaves_then (length s) (word (bytes ") (to ") s₂) _ (leaves_le (word (bytes ") (to ") s₂) l₂ (leaves_word _ s₂)) λ _ s₃ l₃.
    leaves_then (length s) (instant s₃) _ (leaves_le (instant s₃) l₃ (leaves_instant s₃)) λ y s₄ l₄.
    leaves_then (length s) (word (bytes ") (side ") s₄) _ (leaves_le (word (bytes ") (side ") s₄) l₄ (leaves_word _ s₄)) λ _ s₅ l₅.
    leaves_then (length s) (hexes 16 0 s₅) _ (leaves_le (hexes 16 0 s₅) l₅ (leaves_hexes 16 0 s₅)) λ z s₆ l₆.
    leaves_then (length s) (word (bytes "))") s₆) _ (leaves_le (word (bytes "))") s₆) l₆ (leaves_word _ s₆)) λ _ s₇ l₇.
    l₇

leaves_line : (b : ℕ) (s : List ℕ) → Leaves (length s) (line_form (b ∷ s))
unfolding line_form
leaves_line b s =
    leaves_then (length s) (span_form (b ∷ s)) _ (leaves_span b s) λ a s₁ l₁.
    leaves_then (length s) (word (bytes "\n") s₁) _ (leaves_le (word (bytes "\n") s₁) l₁ (leaves_word _ s₁)) λ _ s₂ l₂.
    l₂

-- so what is left after a line is shorter
pub further : (s t : List ℕ) (a : Span) → line_form s ≡ got a t → length t < length s
unfolding line_form span_form word
further [] t a e = absurd cc
further (b ∷ s) t a e =
    let l = leaves_line b s in
    let m : length t ≤ length s = rw e at l in
    omega (arith, m)
