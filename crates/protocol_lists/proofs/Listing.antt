-- A list in a request, as it was read into places that may be fewer: its values, and those that had a place. By cases on what was read, and by induction on the values. Assumes nothing.
use Prim.Native.Nat.{ℕ, suc, ◌-◌, ◌^◌, ◌<◌}
use mathlib.Core.Path.{◌≡◌, refl, sym, ◌∙◌, ap}
use mathlib.Core.Bool.{Bool, true, false}
use mathlib.Core.List.{List, [], ◌∷◌}
use native.Mathlib.Omega.{arith}
use borrow.Author.Tests.{leb-true, leb-false}
use lib.Dec.{leb}
use lib.ListN.{length, set, take}
use lib.Seq.{length-sets, length-take-le, sets, take_all, take-nil}
use Rattle.text.specs.Decode.{Got, got, bad, ◌▷◌}
use Rattle.protocol.specs.Words.{next_natural}
use Rattle.protocol_lists.specs.Lists.{a_list, entries_of, in_front, list_in, list_of, many, or_none, values_of}
use Rattle.protocol_lists.proofs.Reading.{all_values}

-- ---- the values that have a place
module _ {A : Type 0} where
  behind : (vs : List A) (o : A) (old : List A) (i : ℕ) → sets (o ∷ old) (suc i) vs ≡ o ∷ sets old i vs
  behind [] o old i = refl
  behind (a ∷ vs) o old i = behind vs o (set old i a) (suc i)

  no_place : (vs : List A) (i : ℕ) → sets [] i vs ≡ []
  no_place [] i = refl
  no_place (a ∷ vs) i = no_place vs (suc i)

  front : (vs old : List A) → take (length vs) (in_front vs old) ≡ take (length old) vs
  front [] old = sym (take-nil (length old))
  front (a ∷ vs) [] = rw (no_place vs 1)
  front (a ∷ vs) (o ∷ old) = rw (behind vs a old 0) (ap (λ (l : List A). a ∷ l) (front vs old))

-- ---- what is the same for every list of more than n entries can be asked of n + 1 of them
module _ {A B : Type 0} (n : ℕ) (f : List A → B) (x : B) (same : (m : List A) → n < length m → f m ≡ x) where
  by_length : (m : List A) (fits : Bool) → leb (length m) (suc n) ≡ fits → f (take (suc n) m) ≡ f m
  by_length m true h = ap f (take_all (suc n) m (leb-true (length m) (suc n) h))
  by_length m false h =
      let l = leb-false (length m) (suc n) h in
      same (take (suc n) m) (omega (arith, length-take-le (suc n) m (omega arith))) ∙ sym (same m (omega arith))

  pub cut : (m : List A) → f (take (suc n) m) ≡ f m
  cut m = by_length m (leb (length m) (suc n)) refl

-- ---- the list from t on, as protocol_lists::read_next_list reads it
module _ {A : Type 0} (form : List ℕ → Got A) where
  -- its values
  abbrev pub listed : List ℕ → List A
  listed t = or_none (next_natural (2 ^ 64 - 1) t) (values_of form)

  abbrev Read : ℕ → List A → Got (List A) → List ℕ → Type 0
  Read n vs g u = (length vs ≡ n) × (g ≡ got vs u)

  by_entries : (n k : ℕ) (u v : List ℕ) (g : Got (Unit {0})) → entries_of form k u ≡ g → g ▷ (λ x w. got k w) ≡ got n v
      → Read n (values_of form k u) (many form k u) v
  by_entries n k u v (got x w) e h =
      let same : k ≡ n = cc in
      let left : w ≡ v = cc in
      (all_values form k u w e ∙ same, rw (e, left))
  by_entries n k u v bad e h = let z : ◌≡◌ {A = ℕ} 0 1 = cc in absurd (omega arith)

  by_count : (n : ℕ) (v : List ℕ) (g : Got ℕ) → g ▷ (λ k u. entries_of form k u ▷ (λ x w. got k w)) ≡ got n v
      → Read n (or_none g (values_of form)) (g ▷ many form) v
  by_count n v (got k u) h = by_entries n k u v (entries_of form k u) refl h
  by_count n v bad h = let z : ◌≡◌ {A = ℕ} 0 1 = cc in absurd (omega arith)

  no_entries : (k : ℕ) (u : List ℕ) (g : Got (Unit {0})) → entries_of form k u ≡ g → g ▷ (λ x w. got k w) ≡ bad → many form k u ≡ bad
  no_entries k u (got x w) e h = let z : ◌≡◌ {A = ℕ} 0 1 = cc in absurd (omega arith)
  no_entries k u bad e h = rw e

  no_count : (g : Got ℕ) → g ▷ (λ k u. entries_of form k u ▷ (λ x w. got k w)) ≡ bad → g ▷ many form ≡ bad
  no_count (got k u) h = no_entries k u (entries_of form k u) refl h
  no_count bad h = refl

  pub no_list : (t : List ℕ) → list_of form t ≡ bad → a_list form t ≡ bad
  no_list t h = no_count (next_natural (2 ^ 64 - 1) t) h

  module _ (n : ℕ) (t u : List ℕ) (is : list_of form t ≡ got n u) where
    pub list_long : length (listed t) ≡ n
    list_long = (by_count n u (next_natural (2 ^ 64 - 1) t) is).0

    pub list_got : a_list form t ≡ got (listed t) u
    list_got = (by_count n u (next_natural (2 ^ 64 - 1) t) is).1

    -- of what was read into the list old, v after it, those that had one of its places
    pub list_first : (old : List A) (places : ℕ) {v : List A} → v ≡ list_in form old t → places ≡ length v → take n v ≡ take places (listed t)
    list_first old places e long =
        let same : length old ≡ places = sym (long ∙ ap length e ∙ (simp length-sets)) in
        rw (e, ← same, ← list_long) (front (listed t) old)
