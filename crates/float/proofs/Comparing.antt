-- `compare` by what it says, and that a common factor does not change it. Assumes nothing.
use mathlib.Core.Path.{◌≡◌, refl, sym, ap, subst}
use Prim.Native.Nat.{ℕ, ◌*◌, ◌≤◌, ◌<◌, compare, Ordering}
use native.Mathlib.Nat.{mul-lt-mul_of_pos_right}
use native.Mathlib.Omega.{arith}
use mathlib.Core.Bool.{not}
use lib.Dec.{T, is_le, compare_is_eq, eqb, leb→le, nleb→lt, eqb→eq, eqb_refl}
use lib.Arith.{lt_of_le-ne}

abbrev pub Cmp : Ordering → ℕ → ℕ → Type 0
Cmp Ordering.lt a b = a < b
Cmp Ordering.eq a b = a ≡ b
Cmp Ordering.gt a b = b < a

pub cmp : (a b : ℕ) → Cmp (compare a b) a b
cmp a b = go (compare a b) (leb→le a b) (nleb→lt a b) (eqb→eq a b) (λ (e : a ≡ b). subst (λ (x : ℕ). T (eqb a x)) e (eqb_refl a))
  where
    go : (o : Ordering) → (T (is_le o) → a ≤ b) → (T (not (is_le o)) → b < a) → (T (compare_is_eq o) → a ≡ b) → (a ≡ b → T (compare_is_eq o)) → Cmp o a b
    go Ordering.lt h k e n = lt_of_le-ne (h tt) n
    go Ordering.eq h k e n = e tt
    go Ordering.gt h k e n = k tt

both : (a b : ℕ) → a < b → a ≡ b → ⊥
both a b h e = omega arith

twice : (a b : ℕ) → a < b → b < a → ⊥
twice a b h k = omega arith

only : (o p : Ordering) (a b : ℕ) → Cmp o a b → Cmp p a b → o ≡ p
only Ordering.lt Ordering.lt a b h k = refl
only Ordering.lt Ordering.eq a b h k = absurd (both a b h k)
only Ordering.lt Ordering.gt a b h k = absurd (twice a b h k)
only Ordering.eq Ordering.lt a b h k = absurd (both a b k h)
only Ordering.eq Ordering.eq a b h k = refl
only Ordering.eq Ordering.gt a b h k = absurd (both b a k (sym h))
only Ordering.gt Ordering.lt a b h k = absurd (twice a b k h)
only Ordering.gt Ordering.eq a b h k = absurd (both b a h (sym k))
only Ordering.gt Ordering.gt a b h k = refl

pub compare_is : (o : Ordering) (a b : ℕ) → Cmp o a b → compare a b ≡ o
compare_is o a b h = only (compare a b) o a b (cmp a b) h

pub compare_scale : (a b c : ℕ) → 0 < c → compare (a * c) (b * c) ≡ compare a b
compare_scale a b c C = compare_is (compare a b) (a * c) (b * c) (go (compare a b) (cmp a b))
  where
    go : (o : Ordering) → Cmp o a b → Cmp o (a * c) (b * c)
    go Ordering.lt h = mul-lt-mul_of_pos_right h C
    go Ordering.eq h = ap (λ (x : ℕ). x * c) h
    go Ordering.gt h = mul-lt-mul_of_pos_right h C
