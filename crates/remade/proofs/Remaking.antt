-- Raw moments remade from their mean and their centred ones of order 1 upward are the first ones, as numbers; and those lists are what the two functions answer. Over the integers both sums are repeated differences, which undo each other.
use mathlib.Core.Path.{◌≡◌, refl, sym, ap, ◌∙◌, subst}
use mathlib.Core.List.{List, [], ◌∷◌, ◌++◌}
use mathlib.Core.Logic.{inl, inr}
use mathlib.Core.Bool.{Bool}
use Prim.Native.Nat.{ℕ, zero, suc, ◌-◌, ◌≤◌, ◌<◌}
use native.Mathlib.Nat.{eq-or-lt_of_le, le_of_suc-le-suc, max-eq_left, sub-zero}
use native.Mathlib.Omega.{arith}
use lib.Dec.{T}
use lib.ListN.{length, get_or, drop, get_or-append}
use lib.Seq.{get_or_at}
use lib.IntN.{ℤ, pos, negsuc, neg_ℤ, ◌+ℤ◌, ◌*ℤ◌, +ℤ_invl}
use lib.Ieee.{Float, nan, eq}
use lib.Ieee.Fits.{and_l, and_r}
use borrow.Author.Tests.{le-ltb}
use Rattle.float.specs.Power.{power}
use Rattle.formula.specs.Exact as exact
use Rattle.formula.specs.Exact.{number, product, ints}
use Rattle.formula.specs.Formula.{given, const, ◌⊗◌, ◌↑◌}
use Rattle.formula.specs.Met.{met, all_whole}
use Rattle.formula.specs.Whole.{is_whole, int_of}
use Rattle.formula.proofs.Ring.{Ring, pw, pw_times, unit_times, sorts}
use Rattle.formula.proofs.Integers.{integers, neg_times}
use Rattle.formula.proofs.Exact.{same_number}
use Rattle.formula.proofs.Values.{one_value, sum_value, power_value}
use Rattle.formula.proofs.WholeRuns.{given_value, parts, run_exact, sum_parts}
use Rattle.moments.specs.Comb.{choose}
use Rattle.moments.specs.Constants.{minus_one}
use Rattle.moments.specs.Orders.{numbered, centred_term, centred, centred_sum, raw_term, raw, raw_sum, raw_value, firsts}
use Rattle.moments.specs.Refusals.{at_least_one, centred_moment, raw_moment, raw_out}
use Rattle.remade.specs.Remade.{every, centreds, remade, whole_throughout, RemadeAreFirst}
use Rattle.std.specs.Prelude.{Ok}
use Rattle.remade.proofs.Binomial.{binomial, bsum, bsum_same, diff, centred_is, raw_is, undone}
use Rattle.remade.proofs.CombTable.{every_at, choose_exact, comb_whole, sign_exact, sign_whole, centred_constants, raw_constants, centred_roots, raw_roots}
use Rattle.moments.proofs.Turns.{length_firsts}

-- ---- the two sums over the integers
module _ {Z : Type 0} (R : Ring Z) where
  infixl 80 ◌·◌
  open R use {times as ◌·◌}

  order_4 : (x b y z : Z) → x · b · y · z ≡ b · (x · y · z)
  order_4 x b y z = simp sorts

  order_3 : (b z y : Z) → b · z · y ≡ b · (y · z)
  order_3 b z y = simp sorts

abbrev less : ℤ → ℤ
less x = negsuc 0 *ℤ x

less_is : (x : ℤ) → less x +ℤ x ≡ pos 0
less_is x = ap (λ i. i +ℤ x) (neg_times (pos 1) x ∙ ap neg_ℤ (unit_times integers x)) ∙ +ℤ_invl x

abbrev int : List Float → ℕ → ℤ
int g k = int_of (get_or g k nan)

centred_value : (g : List Float) (n : ℕ) → n ≤ 16 → 1 < length g → n < length g → exact.Value (ints g) [] (centred n) (diff integers (less (int g 1)) n (int g))
unfolding centred centred_term bsum
centred_value g n h one most =
    subst (λ i. exact.Value (ints g) [] (centred n) i) (centred_is integers (less (int g 1)) n (int g))
    (sum_value (centred_term n) (λ j. pos (binomial n j) *ℤ (pw integers (less (int g 1)) j *ℤ int g (n - j))) (suc n) term)
  where
    term : (j : ℕ) → j < suc n → exact.Value (ints g) [] (centred_term n j) (pos (binomial n j) *ℤ (pw integers (less (int g 1)) j *ℤ int g (n - j)))
    term j l =
        let e : int_of (power minus_one j) *ℤ int_of (choose n j) *ℤ pw integers (int g 1) j *ℤ int g (n - j) ≡ pos (binomial n j) *ℤ (pw integers (less (int g 1)) j *ℤ int g (n - j)) = cc (
          sign_exact j (omega arith),
          choose_exact n h j (omega arith),
          pw_times integers (negsuc 0) (int g 1) j,
          order_4 integers (pw integers (negsuc 0) j) (pos (binomial n j)) (pw integers (int g 1) j) (int g (n - j)),
        ) in
        subst (λ i. exact.Value (ints g) [] (centred_term n j) i) e
        (product (product (product (number (sign_whole j (omega arith))) (number (comb_whole n h j (omega arith)))) (power_value j (given_value g [] 1 one))) (given_value g [] (n - j) (omega arith)))

raw_value_lem : (g : List Float) (n : ℕ) → n ≤ 16 → suc n < length g → exact.Value (ints g) [] (raw n) (bsum integers n (λ i k. pw integers (int g 0) i *ℤ int g (suc k)))
unfolding raw raw_term bsum
raw_value_lem g n h most = sum_value (raw_term n) (λ k. pos (binomial n k) *ℤ (pw integers (int g 0) (n - k) *ℤ int g (suc k))) (suc n) term
  where
    term : (k : ℕ) → k < suc n → exact.Value (ints g) [] (raw_term n k) (pos (binomial n k) *ℤ (pw integers (int g 0) (n - k) *ℤ int g (suc k)))
    term k l =
        let e : int_of (choose n k) *ℤ int g (suc k) *ℤ pw integers (int g 0) (n - k) ≡ pos (binomial n k) *ℤ (pw integers (int g 0) (n - k) *ℤ int g (suc k)) = cc (
          choose_exact n h k (omega arith),
          order_3 integers (pos (binomial n k)) (int g (suc k)) (pw integers (int g 0) (n - k)),
        ) in
        subst (λ i. exact.Value (ints g) [] (raw_term n k) i) e
        (product (product (number (comb_whole n h k (omega arith))) (given_value g [] (suc k) (omega arith))) (power_value (n - k) (given_value g [] 0 (omega arith))))

-- ---- the lists
pub firsts_at : (f : ℕ → Float) (n i : ℕ) → i < n → get_or (firsts f n) i nan ≡ f i
firsts_at f zero i h = absurd (omega arith)
firsts_at f (suc n) i h = elim (eq-or-lt_of_le (le_of_suc-le-suc h)) [
  | inl e ↦ get_or_at (firsts f n) (f n) [] nan i (length_firsts f n ∙ sym e) ∙ ap f (sym e)
  | inr l ↦ let k : i < length (firsts f n) = rw (length_firsts f n) l in get_or-append (firsts f n) (f n ∷ []) nan i k ∙ firsts_at f n i l
]

length_centreds : (m : List Float) → length (centreds m) ≡ length m
unfolding centreds
length_centreds m = length_firsts _ (length m)

-- the inputs of the way there, and of the way back
abbrev there : List Float → List Float
there m = numbered m

abbrev back : List Float → List Float
back m = get_or m 0 nan ∷ numbered (centreds m)

abbrev met_there : List Float → ℕ → Bool
met_there m i = all_whole (met (there m) [] (centred (suc i)))

abbrev met_back : List Float → ℕ → Bool
met_back m i = all_whole (met (back m) [] (raw (suc (suc i))))

module _ (m : List Float) (short : length m ≤ 16) (w : T (whole_throughout m)) where
  whole_there : (i : ℕ) → i < length m → T (met_there m i)
  unfolding whole_throughout
  whole_there i h = every_at (met_there m) (length m) i h (and_l (every (met_there m) (length m)) (every (met_back m) (length m - 1)) w)

  whole_back : (i : ℕ) → suc i < length m → T (met_back m i)
  unfolding whole_throughout
  whole_back i h = every_at (met_back m) (length m - 1) i (omega arith) (and_r (every (met_there m) (length m)) (every (met_back m) (length m - 1)) w)

  -- the first term of the sum of order i + 1 reads the raw moment of that order
  input_whole : (i : ℕ) → i < length m → T (is_whole (get_or m i nan))
  unfolding centred centred_term met
  input_whole i h =
      let t = sum_parts (there m) (centred_term (suc i)) (suc (suc i)) 0 (omega arith) (whole_there i h) in
      let p = parts (met (there m) [] (const (power minus_one 0) ⊗ const (choose (suc i) 0) ⊗ given 1 ↑ 0)) (met (there m) [] (given (suc i - 0))) _ t in
      and_l (is_whole (get_or m i nan)) (all_whole []) (rw (sub-zero (suc i)) at p.1)

  -- centred moments are repeated differences
  abbrev M : ℕ → ℤ
  M = int (there m)

  centred_int : (k : ℕ) → k ≤ length m → int (back m) (suc k) ≡ diff integers (less (M 1)) k M
  unfolding centreds centred_sum diff
  centred_int zero h = refl
  centred_int (suc k) h =
      ap int_of (firsts_at (λ i. centred_sum m (suc i)) (length m) k h)
      ∙ one_value (run_exact (there m) [] tt (centred (suc k)) (centred_constants (suc k) (omega arith)) (whole_there k h) (centred_roots (suc k) (omega arith) (there m))).value
      (centred_value (there m) (suc k) (omega arith) (omega arith) (omega arith))

  -- and remade ones are the first ones
  raw_int : (i : ℕ) → suc i < length m → int_of (raw_sum (centreds m) (get_or m 0 nan) (suc (suc i))) ≡ M (suc (suc i))
  unfolding raw_sum
  raw_int i h =
      let n = suc (suc i) in
      one_value (run_exact (back m) [] tt (raw n) (raw_constants n (omega arith)) (whole_back i h) (raw_roots n (omega arith) (back m))).value (raw_value_lem (back m) n (omega arith) (omega (arith, length_centreds m)))
      ∙ bsum_same integers n (λ i k. pw integers (M 1) i *ℤ int (back m) (suc k)) (λ i k. pw integers (M 1) i *ℤ diff integers (less (M 1)) k M) (λ k l. ap (λ x. pw integers (M 1) (n - k) *ℤ x) (centred_int k (omega arith)))
      ∙ raw_is integers (M 1) n (λ k. diff integers (less (M 1)) k M)
      ∙ undone integers (M 1) (less (M 1)) (less_is (M 1)) n M

  same_value : (i : ℕ) → i < length m → T (eq (raw_value (centreds m) (get_or m 0 nan) i) (get_or m i nan))
  unfolding raw_value
  same_value zero h = same_number (get_or m 0 nan) (get_or m 0 nan) (input_whole 0 h) (input_whole 0 h) refl
  same_value (suc i) h =
      let whole = (run_exact (back m) [] tt (raw (suc (suc i))) (raw_constants (suc (suc i)) (omega arith)) (whole_back i h) (raw_roots (suc (suc i)) (omega arith) (back m))).whole in
      same_number (raw_sum (centreds m) (get_or m 0 nan) (suc (suc i))) (get_or m (suc i) nan) (unfold raw_sum in whole) (input_whole (suc i) h) (raw_int i h)

pub remade_are_first : RemadeAreFirst
unfolding remade
remade_are_first m s w i h = rw (firsts_at (raw_value (centreds m) (get_or m 0 nan)) (length m) i h) (same_value m s w i h)

-- ---- and the functions answer just that
pub centred_answer_lem : (m : List Float) (k : ℕ) → k < length m → length m ≤ 16 → centred_moment m (suc k) ≡ Ok (get_or (centreds m) k nan)
unfolding centred_moment centreds
centred_answer_lem m k h s =
    let a : suc k ≤ 16 = omega arith in
    let b : at_least_one (suc k) ≤ length m = rw (max-eq_left {n = suc k} {m = 1} (omega arith)) h in
    rw (le-ltb 16 (suc k) a, le-ltb (length m) (at_least_one (suc k)) b, le-ltb 16 (length m) s) (ap Ok (sym (firsts_at (λ i. centred_sum m (suc i)) (length m) k h)))

pub remade_answer : (m out : List Float) → 1 ≤ length m → length m ≤ 16 → length m ≤ length out
    → (raw_moment (centreds m) out ≡ Ok (length m)) × (raw_out (centreds m) (get_or m 0 nan) out ≡ remade m ++ drop (length m) out)
unfolding raw_moment raw_out remade
remade_answer m out p s r =
    let n : at_least_one (length m) ≡ length m = max-eq_left p in
    let b : at_least_one (length m) ≤ length out = rw n r in (
      rw (length_centreds m, le-ltb 16 (length m) s, le-ltb (length out) (at_least_one (length m)) b) (ap Ok n),
      rw (length_centreds m, le-ltb 16 (length m) s, le-ltb (length out) (at_least_one (length m)) b) (rw n),
    )
