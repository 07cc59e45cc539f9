-- A span, then a line, then a sheet: each part reads back and was printed by the laws of `text`, so the whole does and was. Assumes nothing.
use Prim.Native.Nat.{ℕ, zero, suc, ◌≤◌}
use mathlib.Core.Path.{◌≡◌, refl, ◌∙◌, ap}
use mathlib.Core.List.{List, [], ◌∷◌, ◌++◌, append_assoc}
use native.Mathlib.Omega.{arith}
use borrow.Author.Tests.{le-ltb}
use lib.ListN.{length, length-append}
use Rattle.std.specs.Prelude.{Ok, Err}
use Rattle.text.specs.Bytes.{bytes}
use Rattle.text.specs.Decode.{Got, got, bad, word, instant, hexes}
use Rattle.text.specs.Print.{hex, shown}
use Rattle.text.proofs.Spelling.{
  parts,
  word_spelled,
  instant_back,
  instant_spelled,
  instant_range,
  hex_back,
  hex_spelled,
  hex_range,
}
use Rattle.sheet_forms.specs.Forms.{span_form, line_form, span_text, span_lines}
use Rattle.sheet_read.specs.Sheet.{Lines, also, onward, lines, sheet}
use Rattle.sheet_read.specs.Spelling.{InRange, AllInRange, Holdable, OneSpelling}
use Rattle.sheet_forms.specs.declared.Span.{Span}
use Rattle.sheet_read.proofs.Going.{accepts}

-- ---- what is printed reads back
span_back : (a : Span) (s : List ℕ) → InRange a → span_form (span_text a ++ s) ≡ got a s
unfolding span_form span_text word
span_back a s r =
    rw (
      append_assoc,
      instant_back a.from _ r.from_fits,
      append_assoc,
      instant_back a.to _ r.to_fits,
      append_assoc,
      hex_back a.side _ r.side_fits,
    )

line_back : (a : Span) (s : List ℕ) → InRange a → line_form (span_text a ++ (bytes "\n" ++ s)) ≡ got a s
unfolding line_form word
line_back a s r = rw (span_back a (bytes "\n" ++ s) r)

lines_on : (a : Span) (s : List ℕ) (k n : ℕ) → lines (suc k) n (span_text a ++ s) ≡ onward n (lines k (suc n)) (line_form (span_text a ++ s))
unfolding lines span_text
lines_on a s k n = refl

lines_back : (l : List Span) (k n : ℕ) → AllInRange l → length (span_lines l) ≤ k → lines k n (span_lines l) ≡ Ok l
unfolding lines
lines_back [] zero n r h = refl
lines_back [] (suc k) n r h = refl
lines_back (a ∷ l) zero n r h = absurd (omega (arith, simp length-append at h))
lines_back (a ∷ l) (suc k) n r h =
    let e : length (span_lines l) ≤ k = omega (arith, simp length-append at h) in
    lines_on a (bytes "\n" ++ span_lines l) k n ∙ rw (line_back a (span_lines l) r.0, lines_back l k (suc n) r.1 e)

sheet_back : (l : List Span) → Holdable l → sheet (span_lines l) ≡ Ok l
unfolding sheet
sheet_back l h =
    rw (
      le-ltb 65536 (length (span_lines l)) h.few_bytes,
      lines_back l (length (span_lines l)) 1 h.in_range (omega arith),
      le-ltb 1024 (length l) h.few_lines,
    )

-- ---- what reads was printed, and is in range
regroup : (w₁ a w₂ b w₃ c w₄ t : List ℕ)
    → w₁ ++ (a ++ (w₂ ++ (b ++ (w₃ ++ (c ++ (w₄ ++ t)))))) ≡ (w₁ ++ (a ++ (w₂ ++ (b ++ (w₃ ++ (c ++ w₄)))))) ++ t
regroup w₁ a w₂ b w₃ c w₄ t = simp append_assoc

span_spelled : (s : List ℕ) (a : Span) (t : List ℕ) → span_form s ≡ got a t → (s ≡ span_text a ++ t) × InRange a
unfolding span_form span_text
span_spelled s a t e =
    parts (word (bytes "(span (from ") s) _ a t e λ _ s₁ p₁ e.
    parts (instant s₁) _ a t e λ x s₂ p₂ e.
    parts (word (bytes ") (to ") s₂) _ a t e λ _ s₃ p₃ e.
    parts (instant s₃) _ a t e λ y s₄ p₄ e.
    parts (word (bytes ") (side ") s₄) _ a t e λ _ s₅ p₅ e.
    parts (hexes 16 0 s₅) _ a t e λ z s₆ p₆ e.
    parts (word (bytes "))") s₆) _ a t e λ _ s₇ p₇ e.
    let q : record { from = x; to = y; side = z } ≡ a = cc in
    let r : s₇ ≡ t = cc in
    rw (
      word_spelled _ s s₁ p₁,
      instant_spelled x s₁ s₂ p₂,
      word_spelled _ s₂ s₃ p₃,
      instant_spelled y s₃ s₄ p₄,
      word_spelled _ s₄ s₅ p₅,
      hex_spelled z s₅ s₆ p₆,
      word_spelled _ s₆ s₇ p₇,
      ← q,
      r,
    ) (
      regroup (bytes "(span (from ") (shown x) (bytes ") (to ") (shown y) (bytes ") (side ") (hex z) (bytes "))") t,
      record { from_fits = instant_range x s₁ s₂ p₂; to_fits = instant_range y s₃ s₄ p₄; side_fits = hex_range z s₅ s₆ p₆ },
    )

line_spelled : (s : List ℕ) (a : Span) (t : List ℕ) → line_form s ≡ got a t → (s ≡ span_text a ++ (bytes "\n" ++ t)) × InRange a
unfolding line_form
line_spelled s a t e =
    parts (span_form s) _ a t e λ b s₁ p₁ e.
    parts (word (bytes "\n") s₁) _ a t e λ _ s₂ p₂ e.
    let q : b ≡ a = cc in
    let r : s₂ ≡ t = cc in
    let l = span_spelled s b s₁ p₁ in
    rw (← q, ← r) (l.0 ∙ ap (◌++◌ (span_text b)) (word_spelled _ s₁ s₂ p₂), l.1)

abbrev Printed : List ℕ → List Span → Type 0
Printed s l = (s ≡ span_lines l) × AllInRange l

lines_none : (l : List Span) → ◌≡◌ {A = Lines} (Ok []) (Ok l) → Printed [] l
lines_none l e = let p : [] ≡ l = cc in rw (← p) (refl, tt)

lines_also : (a : Span) (s t : List ℕ) (g : Lines) (l : List Span) → (s ≡ span_text a ++ (bytes "\n" ++ t)) × InRange a
    → ((m : List Span) → g ≡ Ok m → Printed t m) → also a g ≡ Ok l → Printed s l
lines_also a s t (Ok m) l p f e =
    let q : a ∷ m ≡ l = cc in
    let r = f m refl in
    rw (← q) (p.0 ∙ ap (λ (u : List ℕ). span_text a ++ (bytes "\n" ++ u)) r.0, (p.1, r.1))
lines_also a s t (Err n) l p f e = absurd cc

lines_spelled : (k n : ℕ) (s : List ℕ) (l : List Span) → lines k n s ≡ Ok l → Printed s l
unfolding lines
lines_spelled zero n [] l e = lines_none l e
lines_spelled zero n (b ∷ s) l e = absurd cc
lines_spelled (suc k) n [] l e = lines_none l e
lines_spelled (suc k) n (b ∷ s) l e = by (line_form (b ∷ s)) refl e (λ t m f. lines_spelled k (suc n) t m f)
  where
    by : (g : Got Span) → line_form (b ∷ s) ≡ g → onward n (lines k (suc n)) g ≡ Ok l
        → ((t : List ℕ) (m : List Span) → lines k (suc n) t ≡ Ok m → Printed t m)
        → Printed (b ∷ s) l
    by (got a t) p e f = lines_also a (b ∷ s) t (lines k (suc n) t) l (line_spelled (b ∷ s) a t p) (f t) e
    by bad p e f = absurd cc

-- ---- a sheet
sheet_spelled : (s : List ℕ) (l : List Span) → sheet s ≡ Ok l → (s ≡ span_lines l) × Holdable l
sheet_spelled s l e =
    let a = accepts l s e in
    let r = lines_spelled (length s) 1 s l a.is in
    (r.0, record { in_range = r.1; few_lines = a.few_lines; few_bytes = rw (← r.0) a.few_bytes })

pub one_spelling : (s : List ℕ) → OneSpelling s
one_spelling s = record { only = sheet_spelled s; all = λ l h e. rw e (sheet_back l h) }
