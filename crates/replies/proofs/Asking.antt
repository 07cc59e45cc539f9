-- How a request is read: what its line is by its name, and what its last word is. By cases. Assumes nothing.
use Prim.Native.Nat.{ℕ}
use mathlib.Core.Path.{◌≡◌, refl}
use mathlib.Core.Bool.{Bool, true, false, cond}
use mathlib.Core.List.{List, [], ◌∷◌, ◌++◌}
use borrow.Author.Tests.{eqb-true}
use lib.Dec.{eqb}
use Rattle.std.specs.Prelude.{Some, None}
use Rattle.text.specs.Bytes.{bytes}
use Rattle.text.specs.Decode.{Got, got, bad, ◌▷◌, word}
use Rattle.protocol.specs.Words.{only, words_after}
use Rattle.protocol_lists.specs.Lists.{a_list, list_of}
use Rattle.protocol_lists.proofs.Listing.{list_got, no_list}
use Rattle.replies.specs.Requests.{only_or}

-- the last word, where nothing follows it
module _ {A : Type 0} where
  pub only_some : (g : Got A) {a : A} → Some a ≡ only g → g ≡ got a []
  only_some (got x []) e = cc
  only_some (got x (b ∷ s)) e = cc
  only_some bad e = cc

  pub only_none : {B : Type 0} (f : A → B) (g : Got A) → None ≡ only g → None ≡ only (g ▷ (λ a s. got (f a) s))
  only_none f (got x []) e = cc
  only_none f (got x (b ∷ s)) e = refl
  only_none f bad e = refl

  pub only_old : {B : Type 0} (f : A → B) (old : B) (g : Got A) → None ≡ only g → old ≡ only_or old (g ▷ (λ a s. got (f a) s))
  only_old f old (got x []) e = cc
  only_old f old (got x (b ∷ s)) e = refl
  only_old f old bad e = refl

  -- where the last is a list, as it was read
  pub only_list : {B : Type 0} (form : List ℕ → Got A) (f : List A → B) (s : List ℕ) (g : Got ℕ) → list_of form s ≡ g → None ≡ only g
      → None ≡ only (a_list form s ▷ (λ v t. got (f v) t))
  only_list form f s (got n []) is e = cc
  only_list form f s (got n (b ∷ t)) is e = rw (list_got form n s (b ∷ t) is) refl
  only_list form f s bad is e = rw (no_list form s is) refl

-- ---- a line that begins with a name is the name and what follows it
abbrev left : List ℕ → Got (Unit {0})
left t = got tt t

by_byte : (c b : ℕ) (w s t : List ℕ) (is : Bool) → eqb b c ≡ is → (word w s ≡ left t → s ≡ w ++ t) → cond is (word w s) bad ≡ left t
    → b ∷ s ≡ c ∷ (w ++ t)
by_byte c b w s t true e more h = let same = eqb-true b c e in cc (more h)
by_byte c b w s t false e more h = cc

begun : (w s t : List ℕ) → word w s ≡ left t → s ≡ w ++ t
unfolding word
begun [] s t h = cc
begun (c ∷ w) [] t h = cc
begun (c ∷ w) (b ∷ s) t h = by_byte c b w s t (eqb b c) refl (begun w s t) h

module _ (w s t : List ℕ) where
  by_blank : (words : List ℕ) (g : Got (Unit {0})) → s ≡ w ++ words → g ▷ (λ v u. left words) ≡ left t → s ≡ w ++ t
  by_blank words (got v u) is h = let same : words ≡ t = cc in rw (← same) is
  by_blank words bad is h = cc

  by_word : (g : Got (Unit {0})) → word w s ≡ g → g ▷ (λ u words. word (bytes " ") words ▷ (λ v x. left words)) ≡ left t → s ≡ w ++ t
  by_word (got u words) e h = by_blank words (word (bytes " ") words) (begun w s words e) h
  by_word bad e h = cc

  named_is : words_after w s ≡ left t → s ≡ w ++ t
  named_is h = by_word (word w s) refl h

-- what is the same for every line that begins with a name
pub by_name : {A : Type 0} (f : List ℕ → A) {x : A} (w s t : List ℕ) → words_after w s ≡ left t → ((u : List ℕ) → x ≡ f (w ++ u)) → x ≡ f s
by_name f w s t h same = rw (named_is w s t h) (same t)
