-- Words of a form as a loop reads and stores them: of n, i are read and stored, and n - i stand in what is left. Assumes nothing.
use Prim.Native.Nat.{ℕ, zero, suc, ◌+◌, ◌-◌, ◌≤◌, ◌<◌}
use mathlib.Core.Path.{◌≡◌, refl, sym, ◌∙◌, ap}
use mathlib.Core.List.{List, ◌∷◌, append-nil}
use native.Mathlib.Omega.{arith}
use native.Mathlib.Numerals.{add-one}
use lib.ListN.{length, set, drop_of_length-le}
use lib.Seq.{sets, sets-eq}
use Rattle.text.specs.Decode.{Got, got, bad, ◌▷◌}
use Rattle.protocol_lists.specs.Lists.{entries_of, in_front, many, or_none, values_of}

module _ {A : Type 0} (form : List ℕ → Got A) where
  pub none_yet : (n : ℕ) (s : List ℕ) → entries_of form n s ≡ entries_of form (n - 0) s
  none_yet n s = let m : n ≡ n - 0 = omega arith in ap (λ (k : ℕ). entries_of form k s) m

module _ {A : Type 0} (form : List ℕ → Got A) (n i : ℕ) (s : List ℕ) where
  pub one_more : (t : List ℕ) (x : A) → i < n → form s ≡ got x t → entries_of form (n - i) s ≡ entries_of form (n - (i + 1)) t
  unfolding entries_of
  one_more t x h e = let m : n - i ≡ suc (n - (i + 1)) = omega arith in rw (m, e)

  pub not_one : i < n → form s ≡ bad → entries_of form (n - i) s ≡ bad
  unfolding entries_of
  not_one h e = let m : n - i ≡ suc (n - (i + 1)) = omega arith in rw (m, e)

  pub no_more : n ≤ i → entries_of form (n - i) s ≡ got tt s
  unfolding entries_of
  no_more h = let m : n - i ≡ 0 = omega arith in rw m

-- ---- the list that they are stored into: from the place i on it still gets those that are left
module _ {A : Type 0} (form : List ℕ → Got A) where
  pub none_stored : (n : ℕ) (s : List ℕ) (xs : List A) → sets xs 0 (values_of form n s) ≡ sets xs 0 (values_of form (n - 0) s)
  none_stored n s xs = let m : n ≡ n - 0 = omega arith in ap (λ (k : ℕ). sets xs 0 (values_of form k s)) m

module _ {A : Type 0} (form : List ℕ → Got A) (n i : ℕ) (s : List ℕ) (xs : List A) where
  pub one_stored : (t : List ℕ) (x : A) → i < n → form s ≡ got x t
      → sets xs i (values_of form (n - i) s) ≡ sets (set xs i x) (i + 1) (values_of form (n - (i + 1)) t)
  unfolding values_of
  one_stored t x h e = let m : n - i ≡ suc (n - (i + 1)) = omega arith in rw (m, e, add-one i)

  pub not_stored : i < n → form s ≡ bad → sets xs i (values_of form (n - i) s) ≡ xs
  unfolding values_of
  not_stored h e = let m : n - i ≡ suc (n - (i + 1)) = omega arith in rw (m, e)

  pub all_stored : n ≤ i → sets xs i (values_of form (n - i) s) ≡ xs
  unfolding values_of
  all_stored h = let m : n - i ≡ 0 = omega arith in rw m

-- ---- all of n
no : {A : Type 0} → ◌≡◌ {A = ℕ} 0 1 → A
no e = absurd (omega arith)

module _ {A : Type 0} (form : List ℕ → Got A) where
  more_values : (n : ℕ) (g : Got A) (t : List ℕ) → ((v : List ℕ) → entries_of form n v ≡ got tt t → length (values_of form n v) ≡ n)
      → g ▷ (λ x v. entries_of form n v) ≡ got tt t → length (or_none g (λ x v. x ∷ values_of form n v)) ≡ suc n
  more_values n (got x v) t ih e = ap suc (ih v e)
  more_values n bad t ih e = no cc

  pub all_values : (n : ℕ) (s t : List ℕ) → entries_of form n s ≡ got tt t → length (values_of form n s) ≡ n
  unfolding entries_of values_of
  all_values zero s t e = refl
  all_values (suc n) s t e = more_values n (form s) t (λ v. all_values n v t) e

-- a list that is stored over all of another
pub over_all : {A : Type 0} (vs xs : List A) → length vs ≡ length xs → sets xs 0 vs ≡ vs
over_all vs xs h = sets-eq vs xs 0 (omega arith) ∙ rw (drop_of_length-le xs {i = 0 + length vs} (omega arith)) (append-nil vs)

-- ---- n of a form, read into a list old of n places, v after it
module _ {A : Type 0} (form : List ℕ → Got A) (n : ℕ) (s : List ℕ) where
  pub not_many : entries_of form n s ≡ bad → many form n s ≡ bad
  not_many e = rw e

  pub all_many : (t : List ℕ) (old v : List A) → length old ≡ n → entries_of form n s ≡ got tt t → v ≡ in_front (values_of form n s) old → many form n s ≡ got v t
  all_many t old v o e is = rw (e, is ∙ over_all (values_of form n s) old (all_values form n s t e ∙ sym o))

  -- the same, where their number is told by the places
  pub all_places : (t : List ℕ) (old v : List A) → length old ≡ n → entries_of form (length old) s ≡ got tt t → v ≡ in_front (values_of form (length old) s) old → many form n s ≡ got v t
  all_places t old v o e is =
      all_many t old v o (ap (λ (k : ℕ). entries_of form k s) (sym o) ∙ e) (is ∙ ap (λ (k : ℕ). in_front (values_of form k s) old) o)
