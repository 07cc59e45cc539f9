-- Fractions of a list as a loop puts them. Assumes nothing.
use Prim.Native.Nat.{ℕ, ◌+◌, ◌≤◌, ◌<◌}
use mathlib.Core.Path.{◌≡◌, refl}
use mathlib.Core.List.{List, [], ◌∷◌, ◌++◌}
use native.Mathlib.Numerals.{add-one}
use lib.Ieee.{Float, binary64, nan, to_bits}
use lib.ListN.{drop, drop_of_length-le, get_or, length}
use lib.Seq.{drop-cons}
use Rattle.text.specs.Bytes.{bytes}
use Rattle.text.specs.Print.{hex}
use Rattle.text_write.specs.Appending.{Appended, Puts}
use Rattle.text_write.specs.declared.Text.{Text}
use Rattle.printing_values.specs.Texts.{fractions}
use Rattle.text_write.proofs.Putting.{Left, left_none, left_some, puts_first, puts_one, puts_then}

module _ {t : Text} {ts : List (List ℕ)} (xs : List Float) (i : ℕ) where
  -- one fraction more
  pub left_fraction : {t₁ t₂ t₃ : Text} {b : ℕ} → i < length xs → Left t ts t₁ (fractions (drop i xs))
      → Appended t₁ t₂ (bytes " ") → b ≡ to_bits binary64 (get_or xs i nan) → Appended t₂ t₃ (hex b)
      → Left t ts t₃ (fractions (drop (i + 1) xs))
  unfolding fractions
  left_fraction h l p e q =
      let d : drop i xs ≡ get_or xs i nan ∷ drop (i + 1) xs = rw (add-one i) (drop-cons xs i nan h) in
      left_some {us = bytes " " ∷ hex (to_bits binary64 (get_or xs i nan)) ∷ []} (rw d at l) (puts_first p (puts_one (rw e at q)))

  -- none is left
  pub no_fraction : {t₁ : Text} → length xs ≤ i → Left t ts t₁ (fractions (drop i xs)) → Puts t t₁ ts
  unfolding fractions
  no_fraction h l = left_none (rw (drop_of_length-le xs h) at l)

-- ---- the fractions of one list after those of another
fractions_then : (xs ys : List Float) → fractions (xs ++ ys) ≡ fractions xs ++ fractions ys
unfolding fractions
fractions_then [] ys = refl
fractions_then (x ∷ xs) ys = rw (fractions_then xs ys)

pub puts_more : {t t₁ t₂ : Text} (xs ys : List Float) → Puts t t₁ (fractions xs) → Puts t₁ t₂ (fractions ys) → Puts t t₂ (fractions (xs ++ ys))
puts_more xs ys p q = rw (fractions_then xs ys) (puts_then p q)
