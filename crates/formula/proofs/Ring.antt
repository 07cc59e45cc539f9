-- A commutative ring as a record, and in any such ring sums, powers, and that squaring and multiplying gives the power. Equations of ring terms are closed by `simp` with the laws that sort sums and products.
use mathlib.Core.Path.{◌≡◌, refl, sym, ap, ◌∙◌}
use mathlib.Core.Bool.{Bool, true, false, cond}
use Prim.Native.Nat.{ℕ, zero, suc, ◌+◌, ◌/◌, ◌%◌, ◌≤◌, ◌<◌}
use native.Mathlib.Nat.{le_refl, add-zero, add-suc}
use native.Mathlib.Omega.{arith}
use lib.Arith.{half_le}
use lib.Dec.{eqb}
use borrow.Author.Tests.{eqb-true, eqb-false}
use Rattle.float.specs.Power.{Product, none, some, also, total, pow_by, power_of}

-- what the proofs ask of a ring, with the embedding of ℕ; negatives are not asked for
pub record Ring (Z : Type 0) : Type 0 where
  pub plus : Z → Z → Z
  pub times : Z → Z → Z
  pub nought : Z
  pub unit : Z
  pub nat : ℕ → Z
  pub plus_assoc : (a b c : Z) → plus (plus a b) c ≡ plus a (plus b c)
  pub plus_comm : (a b : Z) → plus a b ≡ plus b a
  pub plus_nought : (a : Z) → plus a nought ≡ a
  pub times_assoc : (a b c : Z) → times (times a b) c ≡ times a (times b c)
  pub times_comm : (a b : Z) → times a b ≡ times b a
  pub times_unit : (a : Z) → times a unit ≡ a
  pub times_nought : (a : Z) → times a nought ≡ nought
  pub times_plus : (a b c : Z) → times a (plus b c) ≡ plus (times a b) (times a c)
  pub nat_nought : nat 0 ≡ nought
  pub nat_unit : nat 1 ≡ unit
  pub nat_plus : (a b : ℕ) → nat (a + b) ≡ plus (nat a) (nat b)

-- t 0 + .. + t (n - 1), and the n-th power of a
unfoldable pub sum : {Z : Type 0} → Ring Z → (ℕ → Z) → ℕ → Z
sum R t zero = R.nought
sum R t (suc n) = R.plus (sum R t n) (t n)

unfoldable pub pw : {Z : Type 0} → Ring Z → Z → ℕ → Z
pw R a zero = R.unit
pw R a (suc n) = R.times (pw R a n) a

module _ {Z : Type 0} (R : Ring Z) where
  infixl 70 ◌⊕◌
  infixl 80 ◌⊗◌
  open R use {plus as ◌⊕◌, times as ◌⊗◌, nought, unit, plus_nought, times_unit}

  -- laws of the record by their own names, for a set of them
  pub plus_assoc : (a b c : Z) → a ⊕ b ⊕ c ≡ a ⊕ (b ⊕ c)
  plus_assoc = R.plus_assoc

  pub plus_comm : (a b : Z) → a ⊕ b ≡ b ⊕ a
  plus_comm = R.plus_comm

  pub times_assoc : (a b c : Z) → a ⊗ b ⊗ c ≡ a ⊗ (b ⊗ c)
  times_assoc = R.times_assoc

  pub times_comm : (a b : Z) → a ⊗ b ≡ b ⊗ a
  times_comm = R.times_comm

  pub times_plus : (a b c : Z) → a ⊗ (b ⊕ c) ≡ a ⊗ b ⊕ a ⊗ c
  times_plus = R.times_plus

  -- and those that follow
  pub plus_left : (a b c : Z) → a ⊕ (b ⊕ c) ≡ b ⊕ (a ⊕ c)
  plus_left a b c = rw (← plus_assoc a b c, plus_comm a b, plus_assoc b a c)

  pub times_left : (a b c : Z) → a ⊗ (b ⊗ c) ≡ b ⊗ (a ⊗ c)
  times_left a b c = rw (← times_assoc a b c, times_comm a b, times_assoc b a c)

  pub plus_times : (a b c : Z) → (a ⊕ b) ⊗ c ≡ a ⊗ c ⊕ b ⊗ c
  plus_times a b c = simp (times_comm, times_plus)

  pub nought_plus : (a : Z) → nought ⊕ a ≡ a
  nought_plus a = plus_comm nought a ∙ plus_nought a

  pub unit_times : (a : Z) → unit ⊗ a ≡ a
  unit_times a = times_comm unit a ∙ times_unit a

  pub nought_times : (a : Z) → nought ⊗ a ≡ nought
  nought_times a = times_comm nought a ∙ R.times_nought a

  pub ruleset sorts = (plus_assoc, plus_comm, plus_left, times_assoc, times_comm, times_left, times_plus, plus_times)

  four : (a b c d : Z) → (a ⊕ b) ⊕ (c ⊕ d) ≡ (a ⊕ c) ⊕ (b ⊕ d)
  four a b c d = simp sorts

  -- ---- sums
  pub sum_same : (s t : ℕ → Z) (n : ℕ) → ((k : ℕ) → k < n → s k ≡ t k) → sum R s n ≡ sum R t n
  unfolding sum
  sum_same s t zero h = refl
  sum_same s t (suc n) h = cc (sum_same s t n (λ k l. h k (omega arith)), h n (omega arith))

  pub sum_plus : (s t : ℕ → Z) (n : ℕ) → sum R s n ⊕ sum R t n ≡ sum R (λ k. s k ⊕ t k) n
  unfolding sum
  sum_plus s t zero = plus_nought nought
  sum_plus s t (suc n) = cc (sum_plus s t n, four (sum R s n) (s n) (sum R t n) (t n))

  pub sum_first : (t : ℕ → Z) (n : ℕ) → sum R t (suc n) ≡ t 0 ⊕ sum R (λ k. t (suc k)) n
  unfolding sum
  sum_first t zero = plus_comm nought (t 0)
  sum_first t (suc n) = cc (sum_first t n, plus_assoc (t 0) (sum R (λ k. t (suc k)) n) (t (suc n)))

  -- ---- powers
  pub pw_plus : (a : Z) (i j : ℕ) → pw R a (i + j) ≡ pw R a i ⊗ pw R a j
  unfolding pw
  pw_plus a i zero = cc (add-zero i, times_unit (pw R a i))
  pw_plus a i (suc j) = cc (add-suc i j, pw_plus a i j, times_assoc (pw R a i) (pw R a j) a)

  swap : (a b c d : Z) → (a ⊗ b) ⊗ (c ⊗ d) ≡ (a ⊗ c) ⊗ (b ⊗ d)
  swap a b c d = simp sorts

  pub pw_times : (a b : Z) (n : ℕ) → pw R (a ⊗ b) n ≡ pw R a n ⊗ pw R b n
  unfolding pw
  pw_times a b zero = sym (times_unit unit)
  pw_times a b (suc n) = cc (pw_times a b n, swap (pw R a n) (pw R b n) a b)

  -- squaring and multiplying gives the power
  abbrev held : Product Z → Z
  held r = total unit r

  held_also : (r : Product Z) (a : Z) → held (also R.times r a) ≡ held r ⊗ a
  held_also none a = sym (unit_times a)
  held_also (some r) a = refl

  halves : (b : ℕ) → b % 2 ≡ 1 → b ≡ suc (b / 2 + b / 2)
  halves b h = omega arith

  evens : (b : ℕ) → (b % 2 ≡ 1 → ⊥) → b ≡ b / 2 + b / 2
  evens b h = omega arith

  square : (a : Z) (h : ℕ) → pw R (a ⊗ a) h ≡ pw R a (h + h)
  square a h = pw_times a a h ∙ sym (pw_plus a h h)

  once : (t : Bool) (r : Product Z) (a : Z) (b : ℕ) → eqb (b % 2) 1 ≡ t → held (cond t (also R.times r a) r) ⊗ pw R (a ⊗ a) (b / 2) ≡ held r ⊗ pw R a b
  unfolding pw
  once true r a b e =
      let h = b / 2 in
      cc (held_also r a, square a h, ap (pw R a) (halves b (eqb-true (b % 2) 1 e)), times_assoc (held r) a (pw R a (h + h)), times_comm a (pw R a (h + h)))
  once false r a b e = cc (square a (b / 2), ap (pw R a) (evens b (eqb-false (b % 2) 1 e)))

  at_zero : (r : Z) (a : Z) (b : ℕ) → b ≡ 0 → r ≡ r ⊗ pw R a b
  unfolding pw
  at_zero r a b e = cc (times_unit r)

  steps : (d : ℕ) (r : Product Z) (a : Z) (b : ℕ) → b ≤ d → held (pow_by R.times d (eqb b 0) r a b) ≡ held r ⊗ pw R a b
  unfolding pow_by
  steps zero r a b h = at_zero (held r) a b (omega arith)
  steps (suc d) r a b h =
      go (eqb b 0) (eqb-true b 0) (steps d (cond (eqb (b % 2) 1) (also R.times r a) r) (a ⊗ a) (b / 2) (half_le h) ∙ once (eqb (b % 2) 1) r a b refl)
    where
      go : (t : Bool) → (t ≡ true → b ≡ 0) → held (pow_by R.times (suc d) false r a b) ≡ held r ⊗ pw R a b → held (pow_by R.times (suc d) t r a b) ≡ held r ⊗ pw R a b
      go true f g = at_zero (held r) a b (f refl)
      go false f g = g

  pub power_is : (a : Z) (n : ℕ) → power_of R.times unit a n ≡ pw R a n
  unfolding power_of
  power_is a n = steps n none a n (le_refl n) ∙ unit_times (pw R a n)
