-- A decoder hands on no more bytes than it was handed, and a word that has a byte fewer. By cases of the decoders. Assumes nothing.
use Prim.Native.Nat.{ℕ, zero, suc, ◌+◌, ◌-◌, ◌*◌, ◌^◌, ◌≤◌}
use mathlib.Core.Bool.{Bool, cond, true, false}
use mathlib.Core.List.{List, [], ◌∷◌}
use native.Mathlib.Omega.{arith}
use lib.Dec.{leb, eqb}
use lib.ListN.{length}
use Rattle.text.specs.Decode.{
  Got,
  got,
  bad,
  ◌▷◌,
  word,
  nibble,
  numeral,
  natural,
  up_to,
  minus,
  plus,
  hexes,
  instant,
}

-- what is left of the bytes, if anything was decoded, is at most n bytes
module _ {A : Type 0} where
  abbrev pub Leaves : ℕ → Got A → Type 0
  Leaves n (got a s) = length s ≤ n
  Leaves n bad = Unit {0}

  pub leaves_le : {m n : ℕ} (g : Got A) → m ≤ n → Leaves m g → Leaves n g
  leaves_le (got a s) h l = omega arith
  leaves_le bad h l = tt

  leaves_cond : (n : ℕ) (b : Bool) (g h : Got A) → Leaves n g → Leaves n h → Leaves n (cond b g h)
  leaves_cond n true g h p q = p
  leaves_cond n false g h p q = q

module _ {A B : Type 0} where
  pub leaves_then : (n : ℕ) (g : Got A) (f : A → List ℕ → Got B) → Leaves n g → ((a : A) (s : List ℕ) → length s ≤ n → Leaves n (f a s)) → Leaves n (g ▷ f)
  leaves_then n (got a s) f l h = h a s l
  leaves_then n bad f l h = tt

pub leaves_word : (w s : List ℕ) → Leaves (length s) (word w s)
unfolding word
leaves_word [] s = omega arith
leaves_word (c ∷ w) [] = tt
leaves_word (c ∷ w) (b ∷ s) = leaves_cond _ (eqb b c) (word w s) bad (leaves_le (word w s) (omega arith) (leaves_word w s)) tt

leaves_numeral : (n : ℕ) (s : List ℕ) → Leaves (length s) (numeral n s)
unfolding numeral
leaves_numeral n [] = omega arith
leaves_numeral n (b ∷ s) =
    leaves_cond _ (leb 10 (nibble b)) (got n (b ∷ s)) (numeral (n * 10 + nibble b) s) (omega arith)
    (leaves_le (numeral (n * 10 + nibble b) s) (omega arith) (leaves_numeral (n * 10 + nibble b) s))

leaves_natural : (s : List ℕ) → Leaves (length s) (natural s)
unfolding natural
leaves_natural [] = tt
leaves_natural (b ∷ s) =
    leaves_cond _ (eqb (nibble b) 0) (got 0 s) (cond (leb 10 (nibble b)) bad (numeral (nibble b) s)) (omega arith)
    (leaves_cond _ (leb 10 (nibble b)) bad (numeral (nibble b) s) tt
    (leaves_le (numeral (nibble b) s) (omega arith) (leaves_numeral (nibble b) s)))

leaves_up_to : (m n : ℕ) (g : Got ℕ) → Leaves n g → Leaves n (up_to m g)
leaves_up_to m n (got x s) l = leaves_cond n (leb x m) (got x s) bad l tt
leaves_up_to m n bad l = tt

leaves_minus : (n m : ℕ) (s : List ℕ) → length s ≤ n → Leaves n (minus m s)
leaves_minus n zero s l = tt
leaves_minus n (suc m) s l = l

pub leaves_instant : (s : List ℕ) → Leaves (length s) (instant s)
unfolding instant
leaves_instant [] = tt
leaves_instant (b ∷ s) =
    leaves_cond _ (eqb b 45) (up_to (2 ^ 63) (natural s) ▷ minus) (up_to (2 ^ 63 - 1) (natural (b ∷ s)) ▷ plus)
    (leaves_then _ (up_to (2 ^ 63) (natural s)) minus
    (leaves_up_to (2 ^ 63) _ (natural s) (leaves_le (natural s) (omega arith) (leaves_natural s))) (leaves_minus _))
    (leaves_then _ (up_to (2 ^ 63 - 1) (natural (b ∷ s))) plus (leaves_up_to (2 ^ 63 - 1) _ (natural (b ∷ s)) (leaves_natural (b ∷ s)))
    (λ a t l. l))

pub leaves_hexes : (k n : ℕ) (s : List ℕ) → Leaves (length s) (hexes k n s)
unfolding hexes
leaves_hexes zero n s = omega arith
leaves_hexes (suc k) n [] = tt
leaves_hexes (suc k) n (b ∷ s) =
    leaves_cond _ (leb 16 (nibble b)) bad (hexes k (n * 16 + nibble b) s) tt
    (leaves_le (hexes k (n * 16 + nibble b) s) (omega arith) (leaves_hexes k (n * 16 + nibble b) s))

-- a word with a byte at least
pub leaves_first : (c : ℕ) (w : List ℕ) (b : ℕ) (s : List ℕ) → Leaves (length s) (word (c ∷ w) (b ∷ s))
unfolding word
leaves_first c w b s = leaves_cond _ (eqb b c) (word w s) bad (leaves_word w s) tt
