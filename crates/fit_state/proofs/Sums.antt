-- Squares summed by an iterator, one after another; and the error as the sum of the squares of five differences. Assumes nothing.
use mathlib.Core.Path.{◌≡◌, refl, sym, ap, ◌∙◌}
use mathlib.Core.List.{List, [], ◌∷◌}
use Prim.Native.Nat.{ℕ, zero, suc, ◌≤◌, min}
use lib.ListN.{get_or, length, take}
use lib.Seq.{get_or-take, length-take-le}
use lib.Ieee.{Float, nan, binary64, add, mul, sub, neg, of_bits}
use native.Mathlib.Numerals.{add-one}
use native.Mathlib.Omega.{arith}
use Rattle.std.specs.List.{fold}
use Rattle.std.proofs.Common.{map, ◌<◌}
use Rattle.std.proofs.lemmas.List.{get_or-map, length-map, take_all}
use Rattle.std.proofs.lemmas.List.Sums.{fold_more}
use Rattle.float.specs.Constants.{minus_nought}
use Rattle.moments.specs.Lists.{five_of, listed}
use Rattle.moments.specs.declared.Five.{Five}
use Rattle.fit_state.specs.Errors.{sum_of_squares, squares_summed, squares, error_of}
use Rattle.fit_state.specs.declared.M2N.{M2N}

-- ---- the squares of a list, folded
abbrev square : Float → Float
square x = mul binary64 x x

abbrev plus : Float → Float → Float
plus a x = add binary64 a x

folded_to : (l : List Float) (k : ℕ) → k ≤ length l → fold plus minus_nought (take k (map square l)) ≡ sum_of_squares l k
unfolding sum_of_squares
folded_to l zero h = refl
folded_to l (suc k) h =
    let lt : k < length (map square l) = omega (arith, h, length-map l square) in
    ap (λ i. fold plus minus_nought (take i (map square l))) (sym (add-one k)) ∙ fold_more plus minus_nought (map square l) k nan lt
    ∙ ap (plus (fold plus minus_nought (take k (map square l)))) (get_or-map square l k nan nan (omega (arith, h)))
    ∙ ap (λ a. plus a (square (get_or l k nan))) (folded_to l k (omega (arith, h)))

in_turn : (l : List Float) → squares_summed l ≡ sum_of_squares l (length l)
unfolding neg of_bits
in_turn l = ap (fold plus minus_nought) (sym (take_all (length l) (map square l) (omega (arith, length-map l square)))) ∙ folded_to l (length l) (omega arith)

-- of the first n, as of the whole list's first n
up_to : (l : List Float) (n k : ℕ) → k ≤ n → sum_of_squares (take n l) k ≡ sum_of_squares l k
unfolding sum_of_squares
up_to l n zero h = refl
up_to l n (suc k) h = rw (up_to l n k (omega (arith, h)), get_or-take n l k nan (omega (arith, h)))

pub first_squares : (l : List Float) (n : ℕ) → n ≤ length l → squares_summed (take n l) ≡ sum_of_squares l n
first_squares l n h = in_turn (take n l) ∙ ap (sum_of_squares (take n l)) (length-take-le n l h) ∙ up_to l n n (omega arith)

-- ---- differences
abbrev differences : Five → Five → List Float
differences a b =
    sub binary64 a.m_1 b.m_1 ∷ sub binary64 a.m_2 b.m_2 ∷ sub binary64 a.m_3 b.m_3 ∷ sub binary64 a.m_4 b.m_4 ∷ sub binary64 a.m_5 b.m_5 ∷ []

squares_of : (a b : Five) (k : ℕ) → k ≤ 5 → sum_of_squares (differences a b) k ≡ squares (listed a) (listed b) k
unfolding sum_of_squares squares
squares_of a b zero h = refl
squares_of a b (suc zero) h = refl
squares_of a b (suc (suc zero)) h = refl
squares_of a b (suc (suc (suc zero))) h = refl
squares_of a b (suc (suc (suc (suc zero)))) h = refl
squares_of a b (suc (suc (suc (suc (suc zero))))) h = refl
squares_of a b (suc (suc (suc (suc (suc (suc k)))))) h = absurd (omega (arith, h))

pub squares_are : (a b : Five) (k : ℕ) → k ≤ 5 → squares_summed (take k (differences a b)) ≡ squares (listed a) (listed b) k
squares_are a b k h = first_squares (differences a b) k (omega (arith, h)) ∙ squares_of a b k h

-- ---- the error of a state, by its first five moments
squares_five : (l : List Float) (n : Five) (c : ℕ) → c ≤ 5 → squares l (listed n) c ≡ squares (listed (five_of l)) (listed n) c
unfolding squares
squares_five l n zero h = refl
squares_five l n (suc zero) h = refl
squares_five l n (suc (suc zero)) h = refl
squares_five l n (suc (suc (suc zero))) h = refl
squares_five l n (suc (suc (suc (suc zero)))) h = refl
squares_five l n (suc (suc (suc (suc (suc zero))))) h = refl
squares_five l n (suc (suc (suc (suc (suc (suc c)))))) h = absurd (omega (arith, h))

pub error_is : (m : M2N) (n : Five) → error_of m n ≡ squares (listed (five_of m.moments)) (listed n) (min m.len 5)
unfolding error_of
error_is m n = squares_five m.moments n (min m.len 5) (omega arith)
