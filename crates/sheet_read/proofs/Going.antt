-- The loops over a sheet's lines: what is known with n lines read and the bytes t left. Assumes nothing.
use Prim.Native.Nat.{ℕ, zero, suc, ◌+◌, ◌-◌, ◌≤◌, ◌<◌}
use mathlib.Core.Path.{◌≡◌, refl, sym, ◌∙◌}
use mathlib.Core.Bool.{Bool, true, false}
use mathlib.Core.List.{List, [], ◌∷◌, ◌++◌, append_assoc, append-nil}
use native.Mathlib.Omega.{arith}
use native.Mathlib.Numerals.{add-one}
use borrow.Author.Tests.{eqb-true, le-ltb, lt-ltb, ltb-false}
use lib.Dec.{eqb}
use lib.ListN.{length, length-append}
use Rattle.std.specs.Prelude.{Ok, Err}
use Rattle.std.specs.Result.{is_err}
use Rattle.text.specs.Decode.{got, bad}
use Rattle.refusal.proofs.Rules.{none_holds}
use Rattle.refusal.specs.Numbers.{Checked}
use Rattle.refusal.specs.Rules.{first_refusal}
use Rattle.refusal.specs.declared.Refusal.TheVariants.{TooLarge}
use Rattle.sheet_forms.specs.declared.Span.{Span}
use Rattle.sheet_forms.specs.Forms.{line_form}
use Rattle.sheet_forms.proofs.Further.{further}
use Rattle.sheet_read.specs.Sheet.{Lines, also, onward, lines, reading, sheet, sheet_rules, spans_of}
use Rattle.sheet_read.specs.declared.SheetError.TheVariants.{Refused, NotASpan}

-- ---- the spans l, and then what the lines after them are
abbrev pub prepend : List Span → Lines → Lines
prepend l (Ok m) = Ok (l ++ m)
prepend l (Err n) = Err n

pub prepend_none : (g : Lines) → g ≡ prepend [] g
prepend_none (Ok l) = refl
prepend_none (Err n) = refl

pub prepend_also : (l : List Span) (a : Span) (g : Lines) → prepend l (also a g) ≡ prepend (l ++ (a ∷ [])) g
prepend_also l a (Ok m) = rw append_assoc
prepend_also l a (Err n) = refl

lines_end : (k n : ℕ) → lines k n [] ≡ Ok []
unfolding lines
lines_end zero n = refl
lines_end (suc k) n = refl

lines_more : (k n : ℕ) (t : List ℕ) → 0 < length t → lines (suc k) n t ≡ onward n (lines k (suc n)) (line_form t)
unfolding lines
lines_more k n [] h = absurd (omega arith)
lines_more k n (b ∷ t) h = refl

lines_out : (k n : ℕ) (t : List ℕ) → length t ≡ 0 → lines k n t ≡ Ok []
lines_out k n [] h = lines_end k n
lines_out k n (b ∷ t) h = absurd (omega arith)

-- ---- whether bytes are left, as `is_empty` answers b
module _ (n : ℕ) {b : Bool} (is : b ≡ eqb n 0) where
  pub some_left : b ≡ false → 0 < n
  some_left e = by n (sym is ∙ e)
    where
      by : (n : ℕ) → eqb n 0 ≡ false → 0 < n
      by zero e = absurd cc
      by (suc n) e = omega arith

  pub none_left : b ≡ true → n ≡ 0
  none_left e = eqb-true n 0 (sym is ∙ e)

-- ---- with n lines read
pub record Going (s t : List ℕ) (n : ℕ) : Type 0 where
  pub done : List Span
  pub size : length done ≡ n
  pub ahead : n + length t ≤ length s
  pub rest : lines (length s) 1 s ≡ prepend done (lines (length s - n) (n + 1) t)

unfoldable pub start : (s : List ℕ) → Going s s 0
start s =
    let p : length s - 0 ≡ length s = omega arith in
    record { done = []; size = refl; ahead = omega arith; rest = rw p (prepend_none (lines (length s) 1 s)) }

module _ (s t : List ℕ) (n : ℕ) (g : Going s t n) where
  pub turn : 0 < length t → lines (length s) 1 s ≡ prepend g.done (onward (n + 1) (lines (length s - (n + 1)) (suc (n + 1))) (line_form t))
  turn h =
      let p : length s - n ≡ suc (length s - (n + 1)) = omega (arith, g.ahead) in
      g.rest ∙ rw (p, lines_more (length s - (n + 1)) (n + 1) t h)

  -- one more
  unfoldable pub more : (a : Span) (u : List ℕ) → 0 < length t → line_form t ≡ got a u → Going s u (n + 1)
  more a u h e = record {
    done = g.done ++ (a ∷ []);
    size = rw length-append (omega (arith, g.size));
    ahead = omega (arith, further t u a e, g.ahead);
    rest = turn h ∙ rw (e, add-one (n + 1)) (prepend_also g.done a (lines (length s - (n + 1)) (suc (n + 1)) u));
  }

  -- the first that is none
  pub fault : 0 < length t → line_form t ≡ bad → lines (length s) 1 s ≡ Err (n + 1)
  fault h e = turn h ∙ rw e

  -- the end
  pub whole : length t ≡ 0 → lines (length s) 1 s ≡ Ok g.done
  whole h = g.rest ∙ rw (lines_out (length s - n) (n + 1) t h, append-nil)

-- ---- what the lines say of the sheet
module _ (s : List ℕ) where
  pub sheet_long : 65536 < length s → sheet s ≡ Err (Refused TooLarge)
  unfolding sheet
  sheet_long h = rw (lt-ltb _ _ h)

  pub sheet_wrong : (n : ℕ) → length s ≤ 65536 → lines (length s) 1 s ≡ Err n → sheet s ≡ Err (NotASpan n)
  unfolding sheet
  sheet_wrong n h e = rw (le-ltb _ _ h, e)

  pub sheet_many : (l : List Span) → length s ≤ 65536 → lines (length s) 1 s ≡ Ok l → 1024 < length l → sheet s ≡ Err (Refused TooLarge)
  unfolding sheet
  sheet_many l h e m = rw (le-ltb _ _ h, e, lt-ltb _ _ m)

  pub sheet_good : (l : List Span) → length s ≤ 65536 → lines (length s) 1 s ≡ Ok l → length l ≤ 1024 → sheet s ≡ Ok l
  unfolding sheet
  sheet_good l h e m = rw (le-ltb _ _ h, e, le-ltb _ _ m)

-- and what an accepted sheet says of its lines
pub record Accepts (s : List ℕ) (l : List Span) : Type 0 where
  pub is : lines (length s) 1 s ≡ Ok l
  pub few_lines : length l ≤ 1024
  pub few_bytes : length s ≤ 65536

-- a reading that is no refusal, by the check behind it
read_by : (c : Checked) (ls : Lines) (l : List Span) → reading c ls ≡ Ok l → (c ≡ Ok tt) × (spans_of ls ≡ l)
read_by (Ok u) ls l e = (refl, cc)
read_by (Err r) ls l e = absurd cc

faultless_lines : (ls : Lines) → is_err ls ≡ false → ls ≡ Ok (spans_of ls)
faultless_lines (Ok l) e = refl
faultless_lines (Err n) e = absurd cc

pub accepts : (l : List Span) (s : List ℕ) → sheet s ≡ Ok l → Accepts s l
unfolding sheet
accepts l s e =
    let ls : Lines = lines (length s) 1 s in
    let p = read_by (first_refusal (sheet_rules s ls)) ls l e in
    let none = none_holds (sheet_rules s ls) p.0 in
    rw (← p.1) (record { is = faultless_lines ls none.1.0; few_lines = search ltb-false; few_bytes = search ltb-false })
