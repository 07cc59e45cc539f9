-- The spans of an accepted sheet in three lists, as they are taken: each list has one law, over the field that it holds. Assumes nothing.
use Prim.Native.Nat.{ℕ, ◌+◌, ◌-◌, ◌≤◌, ◌<◌}
use mathlib.Core.Path.{◌≡◌, refl, sym, ◌∙◌, ap}
use mathlib.Core.List.{List, [], ◌∷◌, ◌++◌, map, map-append, append-nil}
use native.Mathlib.Decide.{dec_le}
use native.Mathlib.Omega.{arith}
use native.Mathlib.Numerals.{add-one}
use lib.IntN.{ℤ}
use lib.Ieee.{Float}
use lib.ListN.{length, take, set, length-append, length-set}
use lib.Seq.{take-suc-set, take_all}
use Rattle.std.specs.Prelude.{Ok, Err}
use Rattle.text.specs.Decode.{got, bad}
use Rattle.sheet_forms.specs.declared.Span.{Span}
use Rattle.sheet_forms.specs.Forms.{line_form}
use Rattle.sheet_read.specs.Meaning.{from_of, to_of, side_of, Fillable, HeldBy}
use Rattle.sheet_read.specs.Sheet.{Lines, lines, sheet}
use Rattle.sheet_read.proofs.Going.{Going, accepts, start, more, fault, whole, prepend}

-- ---- one list: a field of each of the spans d is in front of it
module _ {A : Type 0} (f : Span → A) where
  pub record Held (d : List Span) (n : ℕ) (old new : List A) : Type 0 where
    pub front : take n new ≡ map f d
    pub same : length new ≡ length old

  held_none : (old : List A) → Held [] 0 old old
  held_none old = record { front = refl; same = refl }

  held_one : (d : List Span) (n : ℕ) (old new : List A) (a : Span) → n < length old → Held d n old new → Held (d ++ (a ∷ [])) (n + 1) old (set new n (f a))
  held_one d n old new a h e =
      let k : n < length new = omega (arith, e.same) in
      record { front = rw (add-one n, take-suc-set new n (f a) k, map-append, e.front); same = length-set new n (f a) ∙ e.same }

  held_all : (d : List Span) (n : ℕ) (old new : List A) → length old ≤ n → Held d n old new → new ≡ map f d
  held_all d n old new h e = sym (take_all n new (omega (arith, e.same))) ∙ e.front

-- ---- the three
pub record Filling (s t : List ℕ) (n : ℕ) (a a' b b' : List ℤ) (c c' : List Float) : Type 0 where
  pub going : Going s t n
  pub starts : Held from_of going.done n a a'
  pub ends : Held to_of going.done n b b'
  pub sides : Held side_of going.done n c c'

pub begin : (s : List ℕ) (a b : List ℤ) (c : List Float) → Filling s s 0 a a b b c c
unfolding start
begin s a b c = record { going = start s; starts = held_none from_of a; ends = held_none to_of b; sides = held_none side_of c }

-- what is left of an accepted sheet's lines
prepended : (d : List Span) (g : Lines) (l : List Span) → prepend d g ≡ Ok l → (m : List Span) × (g ≡ Ok m) × (d ++ m ≡ l)
prepended d (Ok m) l e = (m, refl, cc)
prepended d (Err n) l e = absurd cc

empty : (m : List Span) → length m ≡ 0 → m ≡ []
empty [] e = refl
empty (a ∷ m) e = absurd (omega arith)

module _ (s t : List ℕ) (n : ℕ) (a a' b b' : List ℤ) (c c' : List Float) (p : Fillable s a b c) (f : Filling s t n a a' b b' c c') where
  lines_left : (m : List Span) × (lines (length s - n) (n + 1) t ≡ Ok m) × (f.going.done ++ m ≡ p.read)
  lines_left = prepended f.going.done _ p.read (sym f.going.rest ∙ (accepts p.read s p.is).is)

  -- a place with no span in it yet has one to come
  pub unread : n < length a → 0 < length t
  unread h = by (dec_le (length t) 0)
    where
      by : Dec (length t ≤ 0) → 0 < length t
      by (yes k) =
          let e = whole s t n f.going (omega arith) in
          let r = (accepts p.read s p.is).is in
          let q : f.going.done ≡ p.read = cc in
          absurd (omega (arith, ap length q, f.going.size, p.starts))
      by (no k) = omega arith

  -- and no line is at fault
  pub faultless : {A : Type 0} → n < length a → line_form t ≡ bad → A
  faultless h e =
      let q = fault s t n f.going (unread h) e in
      let r = (accepts p.read s p.is).is in
      absurd cc

  pub put : n < length a → (v : Span) (u : List ℕ) → line_form t ≡ got v u
      → Filling s u (n + 1) a (set a' n v.from) b (set b' n v.to) c (set c' n (side_of v))
  unfolding more
  put h v u e = record {
    going = more s t n f.going v u (unread h) e;
    starts = held_one from_of f.going.done n a a' v h f.starts;
    ends = held_one to_of f.going.done n b b' v (omega (arith, p.starts, p.ends)) f.ends;
    sides = held_one side_of f.going.done n c c' v (omega (arith, p.starts, p.sides)) f.sides;
  }

  -- with each place filled
  pub filled : length a ≤ n → HeldBy (sheet s) a' b' c'
  filled h =
      let l = lines_left in
      let z : length l.0 ≡ 0 = omega (arith, simp length-append at (ap length l.2), f.going.size, p.starts) in
      let e : f.going.done ≡ p.read = rw (empty l.0 z, append-nil) at l.2 in
      record {
        spans = f.going.done;
        is = rw e p.is;
        starts = held_all from_of f.going.done n a a' h f.starts;
        ends = held_all to_of f.going.done n b b' (omega (arith, p.starts, p.ends)) f.ends;
        sides = held_all side_of f.going.done n c c' (omega (arith, p.starts, p.sides)) f.sides;
      }
