-- A text put into a buffer: what it comes to, one text after another (`placed_then`), and a text at the front. Assumes nothing.
use Prim.Native.Nat.{ℕ, ◌+◌, ◌≤◌, ◌<◌}
use mathlib.Core.Path.{◌≡◌, ◌∙◌, ap}
use mathlib.Core.List.{List, ◌++◌, append_assoc}
use native.Mathlib.Omega.{arith}
use native.Mathlib.Decide.{dec_le}
use borrow.Author.Tests.{le-leb, lt-leb}
use lib.ListN.{length, take, drop, length-append, length-drop}
use lib.Seq.{take_at, drop_at, drop-drop, length-take-le}
use Rattle.text.specs.Print.{placed, place_after, Placed, Fronts}

-- ---- a text t put at `at` where it has room up to e, or left out where it has none
module _ (o : List ℕ) (at : ℕ) (t : List ℕ) where
  pub place_all : (k e : ℕ) (u : List ℕ) → u ≡ t → k ≡ length t → e ≡ at + length t → e ≤ length o → Placed o (take at o ++ (u ++ drop k (drop at o))) at e t
  unfolding placed place_after
  place_all k e u same long end room =
      let fits : at + length t ≤ length o = omega arith in
      record {
        is = rw (same, long, le-leb _ _ fits, drop-drop (length t) at o);
        next = rw (end, le-leb _ _ fits);
      }

  pub place_not : length o < at + length t → Placed o o at at t
  unfolding placed place_after
  place_not h = record { is = rw (lt-leb _ _ h); next = rw (lt-leb _ _ h) }

-- ---- what it comes to, where there is room
module _ (o o' : List ℕ) (at r : ℕ) (t : List ℕ) (h : at + length t ≤ length o) (p : Placed o o' at r t) where
  pub placed_next : r ≡ at + length t
  unfolding place_after
  placed_next = p.next ∙ rw (le-leb _ _ h)

  whole : o' ≡ (take at o ++ t) ++ drop (at + length t) o
  unfolding placed
  whole = p.is ∙ rw (le-leb _ _ h, append_assoc)

  long : length (take at o ++ t) ≡ at + length t
  long = length-append (take at o) t ∙ ap (λ (k : ℕ). k + length t) (length-take-le at o (omega arith))

  pub placed_front : take r o' ≡ take at o ++ t
  placed_front = rw (placed_next, whole) (take_at (take at o ++ t) (drop (at + length t) o) (at + length t) long)

  pub placed_rest : drop r o' ≡ drop r o
  placed_rest = rw (placed_next, whole) (drop_at (take at o ++ t) (drop (at + length t) o) (at + length t) long)

  pub placed_length : length o' ≡ length o
  placed_length = rw (whole, length-append, long, length-drop) (omega arith)

-- ---- where there is none
placed_not : (o o' : List ℕ) (at r : ℕ) (t : List ℕ) → length o < at + length t → Placed o o' at r t → (o' ≡ o) × (r ≡ at)
unfolding placed place_after
placed_not o o' at r t l p = (p.is ∙ rw (lt-leb _ _ l), p.next ∙ rw (lt-leb _ _ l))

-- the place after it is never past the end
pub placed_within : (o o' : List ℕ) (at r : ℕ) (t : List ℕ) → at ≤ length o → Placed o o' at r t → (r ≤ length o') × (length o' ≡ length o)
placed_within o o' at r t h p = by (dec_le (at + length t) (length o))
  where
    by : Dec (at + length t ≤ length o) → (r ≤ length o') × (length o' ≡ length o)
    by (yes l) = let e = placed_length o o' at r t l p in (omega (arith, placed_next o o' at r t l p), e)
    by (no g) = let q = placed_not o o' at r t (omega arith) p in (omega (arith, ap length q.0, q.1), ap length q.0)

-- ---- one text after another: t and then u is t ++ u
pub placed_then : (o o' o'' : List ℕ) (a b c : ℕ) (t u : List ℕ) → a + length t + length u ≤ length o → Placed o o' a b t → Placed o' o'' b c u
    → Placed o o'' a c (t ++ u)
unfolding placed place_after
placed_then o o' o'' a b c t u h p q =
    let hp : a + length t ≤ length o = omega arith in
    let n : b ≡ a + length t = placed_next o o' a b t hp p in
    let l : length o' ≡ length o = placed_length o o' a b t hp p in
    let hq : b + length u ≤ length o' = omega arith in
    let hb : b + length u ≤ length o = omega arith in
    let e : a + length (t ++ u) ≡ b + length u = rw length-append (omega arith) in
    let d : drop (b + length u) o' ≡ drop (b + length u) o = rw (← drop-drop (length u) b o', ← drop-drop (length u) b o, placed_rest o o' a b t hp p) in
    record {
      is =
          rw (e, le-leb _ _ hb)
          (whole o' o'' b c u hq q ∙ rw (placed_front o o' a b t hp p, d) (simp append_assoc));
      next = rw (e, le-leb _ _ hb) (placed_next o' o'' b c u hq q);
    }

-- ---- a text at the front of a buffer
pub fronts : (o o' : List ℕ) (r : ℕ) (t : List ℕ) → length t ≤ length o → Placed o o' 0 r t → Fronts o' r t
fronts o o' r t h p =
    let k : 0 + length t ≤ length o = omega arith in
    record {
      within = omega (arith, placed_next o o' 0 r t k p, placed_length o o' 0 r t k p);
      is = placed_front o o' 0 r t k p;
    }
