-- The integers are a commutative ring: the laws that `lib.IntN` lacks, by induction on the first factor; and differences of natural numbers.
use mathlib.Core.Path.{◌≡◌, refl, sym, ap, ◌∙◌}
use Prim.Native.Nat.{ℕ, zero, suc, ◌+◌, ◌-◌, ◌*◌, ◌≤◌}
use native.Mathlib.Omega.{arith}
use lib.IntN.{ℤ, pos, negsuc, suc_ℤ, pred_ℤ, neg_ℤ, one, ◌+ℤ◌, ◌*ℤ◌, +ℤ_idl, +ℤ_idr, +ℤ_assoc, +ℤ_comm, suc_ℤ-+ℤ, pred_ℤ-+ℤ, suc_ℤ-*ℤ, pred_ℤ-*ℤ, zero-*ℤ, *ℤ-zero, *ℤ_comm, *ℤ-one, neg_ℤ-+ℤ, neg_ℤ-neg_ℤ, +ℤ-neg_ℤ_cancel}
use Rattle.formula.proofs.Ring.{Ring}

swap : (a b c : ℤ) → (a +ℤ b) +ℤ c ≡ (a +ℤ c) +ℤ b
swap a b c = +ℤ_assoc a b c ∙ ap (λ x. a +ℤ x) (+ℤ_comm b c) ∙ sym (+ℤ_assoc a c b)

-- (a + b) k = a k + b k, for one more and one less of a
more : (a b k : ℤ) → (a +ℤ b) *ℤ k ≡ a *ℤ k +ℤ b *ℤ k → (suc_ℤ a +ℤ b) *ℤ k ≡ suc_ℤ a *ℤ k +ℤ b *ℤ k
more a b k e = cc (suc_ℤ-+ℤ a b, suc_ℤ-*ℤ (a +ℤ b) k, swap (a *ℤ k) (b *ℤ k) k, suc_ℤ-*ℤ a k)

less : (a b k : ℤ) → (a +ℤ b) *ℤ k ≡ a *ℤ k +ℤ b *ℤ k → (pred_ℤ a +ℤ b) *ℤ k ≡ pred_ℤ a *ℤ k +ℤ b *ℤ k
less a b k e = cc (pred_ℤ-+ℤ a b, pred_ℤ-*ℤ (a +ℤ b) k, swap (a *ℤ k) (b *ℤ k) (neg_ℤ k), pred_ℤ-*ℤ a k)

none : (b k : ℤ) → (pos 0 +ℤ b) *ℤ k ≡ pos 0 *ℤ k +ℤ b *ℤ k
none b k = cc (+ℤ_idl b, +ℤ_idl (b *ℤ k), zero-*ℤ k)

plus_times : (a b k : ℤ) → (a +ℤ b) *ℤ k ≡ a *ℤ k +ℤ b *ℤ k
plus_times (pos zero) b k = none b k
plus_times (pos (suc n)) b k = more (pos n) b k (plus_times (pos n) b k)
plus_times (negsuc zero) b k = less (pos zero) b k (none b k)
plus_times (negsuc (suc n)) b k = less (negsuc n) b k (plus_times (negsuc n) b k)

pub times_plus : (a b c : ℤ) → a *ℤ (b +ℤ c) ≡ a *ℤ b +ℤ a *ℤ c
times_plus a b c = cc (*ℤ_comm a (b +ℤ c), plus_times b c a, *ℤ_comm b a, *ℤ_comm c a)

pub neg_times : (a k : ℤ) → neg_ℤ a *ℤ k ≡ neg_ℤ (a *ℤ k)
neg_times (pos zero) k = cc (zero-*ℤ k)
neg_times (pos (suc n)) (pos k) = refl
neg_times (pos (suc n)) (negsuc k) = sym (neg_ℤ-neg_ℤ (pos (suc n * suc k)))
neg_times (negsuc n) (pos k) = sym (neg_ℤ-neg_ℤ (pos (suc n * k)))
neg_times (negsuc n) (negsuc k) = refl

pub times_neg : (a k : ℤ) → a *ℤ neg_ℤ k ≡ neg_ℤ (a *ℤ k)
times_neg a k = cc (*ℤ_comm a (neg_ℤ k), neg_times k a, *ℤ_comm k a)

assoc_pos : (n : ℕ) (b c : ℤ) → (pos n *ℤ b) *ℤ c ≡ pos n *ℤ (b *ℤ c)
assoc_pos zero b c = cc (zero-*ℤ b, zero-*ℤ c, zero-*ℤ (b *ℤ c))
assoc_pos (suc n) b c = cc (suc_ℤ-*ℤ (pos n) b, plus_times (pos n *ℤ b) b c, assoc_pos n b c, suc_ℤ-*ℤ (pos n) (b *ℤ c))

pub times_assoc : (a b c : ℤ) → (a *ℤ b) *ℤ c ≡ a *ℤ (b *ℤ c)
times_assoc (pos n) b c = assoc_pos n b c
times_assoc (negsuc n) b c = cc (neg_times (pos (suc n)) b, neg_times (pos (suc n) *ℤ b) c, assoc_pos (suc n) b c, neg_times (pos (suc n)) (b *ℤ c))

pub times_unit : (a : ℤ) → a *ℤ pos 1 ≡ a
unfolding one
times_unit a = *ℤ-one a

abbrev pub integers : Ring ℤ
integers = record {
  plus = ◌+ℤ◌;
  times = ◌*ℤ◌;
  nought = pos 0;
  unit = pos 1;
  nat = pos;
  plus_assoc = +ℤ_assoc;
  plus_comm = +ℤ_comm;
  plus_nought = +ℤ_idr;
  times_assoc = times_assoc;
  times_comm = *ℤ_comm;
  times_unit = times_unit;
  times_nought = *ℤ-zero;
  times_plus = times_plus;
  nat_nought = refl;
  nat_unit = refl;
  nat_plus = λ a b. refl;
}

-- ---- differences of natural numbers
back : (a b : ℕ) → b ≤ a → a - b + b ≡ a
back a b h = omega arith

pub less_whole : (a b : ℕ) → b ≤ a → pos a +ℤ neg_ℤ (pos b) ≡ pos (a - b)
less_whole a b h = cc (back a b h, +ℤ-neg_ℤ_cancel (pos (a - b)) (pos b))

pub less_negative : (a b : ℕ) → a ≤ b → pos a +ℤ neg_ℤ (pos b) ≡ neg_ℤ (pos (b - a))
less_negative a b h = cc (+ℤ_comm (pos a) (neg_ℤ (pos b)), neg_ℤ-neg_ℤ (pos a), neg_ℤ-+ℤ (pos b) (neg_ℤ (pos a)), less_whole b a h)
