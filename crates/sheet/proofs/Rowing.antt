-- Rows put one after another: a count read back from its float is the count, a row is short, and each row put is the next of the text. Assumes nothing.
use Prim.Native.Nat.{ℕ, ◌+◌, ◌*◌, ◌≤◌, ◌<◌}
use mathlib.Core.Path.{◌≡◌, refl, ◌∙◌, ap}
use mathlib.Core.Bool.{◌&&◌}
use mathlib.Core.List.{List, [], ◌∷◌, ◌++◌, append-nil}
use native.Mathlib.Omega.{arith}
use borrow.Author.Tests.{le-leb}
use lib.IntN.{ℤ, pos}
use lib.Ieee.{Float, nan, binary64, to_bits, to_unsigned, in_float}
use lib.Ieee.Back.{unsigned_back}
use lib.ListN.{length, length-append, take, get_or}
use Rattle.std.specs.List.{flat_map}
use Rattle.std.proofs.lemmas.Grind.{flat_map-append}
use Rattle.std.proofs.lemmas.List.{take_more}
use Rattle.float.specs.Leaves.{as_f64}
use Rattle.bet_sizing.specs.declared.counts.Side.{Side}
use Rattle.bet_sizing.specs.declared.counts.Side.TheVariants.{Long, Short}
use Rattle.bet_sizing.specs.Counts.{concurrent, live, on_side}
use Rattle.bet_sizing.proofs.Ranks.{indicator_le}
use Rattle.budget.specs.Budget.{budget_size}
use Rattle.text.specs.Print.{Placed}
use Rattle.text.proofs.Placing.{placed_front, placed_length, placed_next}
use Rattle.text_write.specs.Appending.{Appended}
use Rattle.text_write.specs.declared.Text.{Text}
use Rattle.sheet_rows.proofs.Rows.{row_short}
use Rattle.sheet_rows.specs.Rows.{row_line}
use Rattle.sheet.specs.Meaning.{Countable}
use Rattle.sheet.specs.Rows.{row_at}

-- ---- a count, read back from its float
concurrent_few : (side : Side) (t : ℤ) (ss es : List ℤ) (ds : List Float) → concurrent side t ss es ds ≤ length ss
unfolding concurrent
concurrent_few side t [] es ds = omega arith
concurrent_few side t (s ∷ ss) [] ds = omega arith
concurrent_few side t (s ∷ ss) (e ∷ es) [] = omega arith
concurrent_few side t (s ∷ ss) (e ∷ es) (d ∷ ds) = omega (arith, indicator_le (live t s e && on_side side d), concurrent_few side t ss es ds)

whole_back : (n : ℕ) → n ≤ 1024 → to_unsigned 64 (as_f64 n) ≡ n
unfolding in_float
whole_back n h = (unsigned_back binary64 64 n (rw (le-leb n 9007199254740992 (omega arith)) tt) (omega arith)).1

-- ---- texts one after another, from the front of a buffer of n bytes: t so far, at most k bytes of it
pub record Front (n : ℕ) (o : List ℕ) (r : ℕ) (t : List ℕ) (k : ℕ) : Type 0 where
  pub size : length o ≡ n
  pub place : r ≡ length t
  pub short : length t ≤ k
  pub is : take r o ≡ t

pub front_none : (o : List ℕ) → Front (length o) o 0 [] 0
front_none o = record { size = refl; place = refl; short = omega arith; is = refl }

front_then : {n : ℕ} {o o' : List ℕ} {a b : ℕ} {t u : List ℕ} {k : ℕ} (m : ℕ) → k + m ≤ n → length u ≤ m → Front n o a t k → Placed o o' a b u
    → Front n o' b (t ++ u) (k + m)
front_then {n} {o} {o'} {a} {b} {t} {u} {k} m h l f p =
    let room : a + length u ≤ length o = omega (arith, f.size, f.place, f.short) in
    record {
      size = placed_length o o' a b u room p ∙ f.size;
      place = rw length-append (omega (arith, placed_next o o' a b u room p, f.place));
      short = rw length-append (omega (arith, f.short));
      is = placed_front o o' a b u room p ∙ ap (λ (x : List ℕ). x ++ u) f.is;
    }

-- ---- one row more
-- with i rows put
abbrev pub Rowed : ℕ → List ℤ → List ℤ → List Float → Text → ℕ → Type 0
Rowed n ss es ds t i = Front n t.out.now t.end (flat_map (row_at ss es ds) (take i ss)) (128 * i)

-- the counts and sizes at each start beside them
pub record Beside (ss es : List ℤ) (ds long short size : List Float) : Type 0 where
  pub longs : (i : ℕ) → i < length ss → get_or long i nan ≡ as_f64 (concurrent Long (get_or ss i (pos 0)) ss es ds)
  pub shorts : (i : ℕ) → i < length ss → get_or short i nan ≡ as_f64 (concurrent Short (get_or ss i (pos 0)) ss es ds)
  pub sizes : (i : ℕ) → i < length ss → get_or size i nan ≡ budget_size ss es ds (get_or ss i (pos 0))

module _ (ss es : List ℤ) (ds long short size : List Float) (t₀ : Text) (h : Countable ss es ds t₀) (b : Beside ss es ds long short size) where
  pub row_one : (u u' : Text) (i : ℕ) → i < length ss → Rowed (length t₀.out.now) ss es ds u i
      → Appended u u' (row_line (record {
        at = get_or ss i (pos 0);
        long = to_unsigned 64 (get_or long i nan);
        short = to_unsigned 64 (get_or short i nan);
        size = to_bits binary64 (get_or size i nan);
      }))
      → Rowed (length t₀.out.now) ss es ds u' (i + 1)
  unfolding row_at
  row_one u u' i below w p =
      let t = get_or ss i (pos 0) in
      let few = h.few in
      let back : (side : Side) → to_unsigned 64 (as_f64 (concurrent side t ss es ds)) ≡ concurrent side t ss es ds = λ side. whole_back (concurrent side t ss es ds) (omega (arith, few, concurrent_few side t ss es ds)) in
      let q : Appended u u' (row_at ss es ds t) = rw (b.longs i below, b.shorts i below, b.sizes i below, back Long, back Short) at p in
      let k : 128 * (i + 1) ≡ 128 * i + 128 = omega arith in
      rw (take_more ss i (pos 0) below, flat_map-append, append-nil, k)
      (front_then 128 (omega (arith, h.blank.room)) (row_short _) w q.placed)
