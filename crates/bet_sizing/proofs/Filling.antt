-- A loop that fills a list from the front: after i turns it has the first i of the new elements, and past them what was there. And what an iterator over a list gives. Assumes nothing.
use Prim.Native.Nat.{ℕ, zero, suc, ◌+◌, ◌≤◌, ◌<◌}
use mathlib.Core.Path.{◌≡◌, sym, ap, ◌∙◌}
use mathlib.Core.List.{List, [], ◌∷◌, ◌++◌}
use native.Mathlib.Numerals.{add-one}
use native.Mathlib.Omega.{arith}
use lib.ListN.{length, length-drop, take, drop, get_or, set}
use lib.Seq.{append_snoc, drop-cons, length-take-le, set_at, take-length, take-suc}
use lib.Ieee.{Float, nan}

module _ (new old list : List Float) (i : ℕ) (h : list ≡ take i new ++ drop i old) where
  pub fill_more : (v : Float) → i < length new → length new ≤ length old → v ≡ get_or new i nan → set list i v ≡ take (i + 1) new ++ drop (i + 1) old
  fill_more v l room e =
      rw add-one
      (ap (λ (x : List Float). set x i v) (h ∙ ap (λ (x : List Float). take i new ++ x) (drop-cons old i nan (omega arith)))
      ∙ set_at (take i new) (get_or old i nan) (drop (suc i) old) v i (length-take-le i new (omega arith))
      ∙ ap (λ x. take i new ++ x ∷ drop (suc i) old) e
      ∙ sym (append_snoc (take i new) (get_or new i nan) (drop (suc i) old))
      ∙ ap (λ (x : List Float). x ++ drop (suc i) old) (sym (take-suc new i nan l)))

  pub fill_all : i ≡ length new → list ≡ new ++ drop i old
  fill_all e = h ∙ ap (λ (x : List Float). x ++ drop i old) (ap (λ (k : ℕ). take k new) e ∙ take-length new)

-- what an iterator over a list gives after i items, and what it has left then
module _ {A : Type 0} where
  given : (l rest : List A) (i : ℕ) (x d : A) → x ∷ rest ≡ drop i l → (x ≡ get_or l i d) × (i < length l) × (rest ≡ drop (suc i) l)
  given [] rest zero x d e = absurd cc
  given [] rest (suc i) x d e = absurd cc
  given (y ∷ l) rest zero x d e = (cc, omega arith, cc)
  given (y ∷ l) rest (suc i) x d e = let (a, b, c) = given l rest i x d e in (a, omega (arith, b), c)

  pub front : (l rest : List A) (i : ℕ) (x d : A) → x ∷ rest ≡ drop i l → (x ≡ get_or l i d) × (i < length l) × (rest ≡ drop (i + 1) l)
  front l rest i x d e = rw add-one (given l rest i x d e)

  -- it has given all where nothing is left
  pub all_given : (l rest : List A) (i : ℕ) → rest ≡ drop i l → length rest ≡ 0 → length l ≤ i
  all_given l rest i e n = omega (arith, n, ap length e, length-drop i l)
