-- Where every number met is whole and below 2 ^ 53, and those under a root are below 2 ^ 52 or squares, a formula's value is the one over the integers. By induction over formulas, each operation exact by its own law.
use mathlib.Core.Path.{◌≡◌, sym}
use mathlib.Core.List.{List, [], ◌∷◌, ◌++◌}
use mathlib.Core.Logic.{inl, inr}
use mathlib.Core.Bool.{◌&&◌}
use Prim.Native.Nat.{ℕ, zero, suc, ◌≤◌, ◌<◌}
use native.Mathlib.Nat.{eq-or-lt_of_le, le_of_suc-le-suc, lt_of_not-le}
use native.Mathlib.Omega.{arith}
use lib.Dec.{T, ltb→lt}
use lib.ListN.{length, get_or, length-map, get_or-map, get_or-eq_default}
use lib.IntN.{pos}
use lib.Ieee.{Float, nan}
use lib.Ieee.Fits.{and_l, and_r, and_i}
use Rattle.formula.specs.Exact.{Value, input, variable, number, sum, difference, product, quotient, root, ints, wholes, rootable, rootables}
use Rattle.formula.specs.Formula.{Expr, given, var, const, ◌⊕◌, ◌⊖◌, ◌⊗◌, ◌⊘◌, √◌, eval}
use Rattle.formula.specs.Met.{Met, met, all_whole}
use Rattle.formula.specs.Whole.{is_whole, int_of, whole_constants, sum_of}
use Rattle.formula.proofs.Exact.{add_exact, sub_exact, mul_exact}
use Rattle.formula.proofs.Quotient.{div_exact, div_some}
use Rattle.formula.proofs.Root.{root_whole}

-- ---- the parts of what is met
pub all_of : (l r : List Met) → T (all_whole (l ++ r)) → T (all_whole l) × T (all_whole r)
all_of [] r w = (tt, w)
all_of (m ∷ l) r w =
    let a = all_of l r (and_r (is_whole m.value) (all_whole (l ++ r)) w) in
    (and_i (is_whole m.value) (all_whole l) (and_l (is_whole m.value) (all_whole (l ++ r)) w) a.0, a.1)

-- of an operation's: those of its operands, and its own result
pub parts : (l r : List Met) (m : Met) → T (all_whole (l ++ (r ++ (m ∷ [])))) → T (all_whole l) × T (all_whole r) × T (is_whole m.value)
parts l r m w =
    let a = all_of l (r ++ (m ∷ [])) w in
    let b = all_of r (m ∷ []) a.1 in
    (a.0, b.0, and_l (is_whole m.value) (all_whole []) b.1)

-- ---- what is read
-- what is whole stands in the list
in_list : (l : List Float) (k : ℕ) → T (is_whole (get_or l k nan)) → k < length l
unfolding is_whole
in_list l k w = lt_of_not-le (λ (h : length l ≤ k). rw (get_or-eq_default l nan h) at w)

ints_at : (l : List Float) (k : ℕ) → get_or (ints l) k (pos 0) ≡ int_of (get_or l k nan)
unfolding int_of
ints_at l k = get_or-map int_of l k nan

pub given_value : (g v : List Float) (k : ℕ) → k < length g → Value (ints g) (ints v) (given k) (int_of (get_or g k nan))
given_value g v k h = rw (← ints_at g k) (input {k = k} (rw (length-map g int_of) h))

var_value : (g v : List Float) (k : ℕ) → k < length v → Value (ints g) (ints v) (var k) (int_of (get_or v k nan))
var_value g v k h = rw (← ints_at v k) (variable {k = k} (rw (length-map v int_of) h))

wholes_at : (v : List Float) (k : ℕ) → k < length v → T (wholes v) → T (is_whole (get_or v k nan))
wholes_at [] k h w = absurd (omega arith)
wholes_at (x ∷ v) zero h w = and_l (is_whole x) (wholes v) w
wholes_at (x ∷ v) (suc k) h w = wholes_at v k (le_of_suc-le-suc h) (and_r (is_whole x) (wholes v) w)

-- ---- the value is whole, and the one over the integers
pub record Exactly (g v : List Float) (e : Expr) : Type 0 where
  pub whole : T (is_whole (eval g v e))
  pub value : Value (ints g) (ints v) e (int_of (eval g v e))

module _ (g v : List Float) where
  abbrev Law : Expr → Type 0
  Law e = T (whole_constants (length v) e) → T (all_whole (met g v e)) → T (rootables g v e) → Exactly g v e

  both : (a b : Expr) (m : Met) → Law a → Law b → T (whole_constants (length v) a && whole_constants (length v) b)
      → T (all_whole (met g v a ++ (met g v b ++ (m ∷ [])))) → T (rootables g v a && rootables g v b) → Exactly g v a × Exactly g v b × T (is_whole m.value)
  both a b m left right c w r =
      let p = parts (met g v a) (met g v b) m w in (
        left (and_l (whole_constants (length v) a) (whole_constants (length v) b) c) p.0 (and_l (rootables g v a) (rootables g v b) r),
        right (and_r (whole_constants (length v) a) (whole_constants (length v) b) c) p.1 (and_r (rootables g v a) (rootables g v b) r),
        p.2,
      )

  pub run_exact : T (wholes v) → (e : Expr) → T (whole_constants (length v) e) → T (all_whole (met g v e)) → T (rootables g v e) → Exactly g v e
  unfolding whole_constants met rootables
  run_exact vars (given k) c w r = let x = and_l (is_whole (get_or g k nan)) (all_whole []) w in record { whole = x; value = given_value g v k (in_list g k x) }
  run_exact vars (var k) c w r = let h = ltb→lt k (length v) c in record { whole = wholes_at v k h vars; value = var_value g v k h }
  run_exact vars (const x) c w r = record { whole = c; value = number c }
  run_exact vars (a ⊕ b) c w r =
      let p = both a b _ (run_exact vars a) (run_exact vars b) c w r in
      record { whole = p.2; value = rw (add_exact (eval g v a) (eval g v b) p.0.whole p.1.whole p.2) (sum p.0.value p.1.value) }
  run_exact vars (a ⊖ b) c w r =
      let p = both a b _ (run_exact vars a) (run_exact vars b) c w r in
      record { whole = p.2; value = rw (sub_exact (eval g v a) (eval g v b) p.0.whole p.1.whole p.2) (difference p.0.value p.1.value) }
  run_exact vars (a ⊗ b) c w r =
      let p = both a b _ (run_exact vars a) (run_exact vars b) c w r in
      record { whole = p.2; value = rw (mul_exact (eval g v a) (eval g v b) p.0.whole p.1.whole p.2) (product p.0.value p.1.value) }
  run_exact vars (a ⊘ b) c w r =
      let p = both a b _ (run_exact vars a) (run_exact vars b) c w r in
      let e = div_exact (eval g v a) (eval g v b) p.0.whole p.1.whole p.2 in
      record { whole = p.2; value = quotient (rw (sym e) at p.0.value) p.1.value (div_some (eval g v a) (eval g v b) p.1.whole p.2) }
  run_exact vars (√ a) c w r =
      let p = all_of (met g v a) _ w in
      let u = and_l (is_whole (eval g v (√ a))) (all_whole []) p.1 in
      let x = run_exact vars a c p.0 (and_l (rootables g v a) (rootable (eval g v a)) r) in
      let z = root_whole (eval g v a) x.whole (and_r (rootables g v a) (rootable (eval g v a)) r) u in
      record { whole = u; value = rw z.is (root (rw z.square at x.value)) }

-- ---- what a sum's terms meet, the sum meets
pub sum_parts : (g : List Float) (t : ℕ → Expr) (n k : ℕ) → k < n → T (all_whole (met g [] (sum_of t n))) → T (all_whole (met g [] (t k)))
unfolding met sum_of
sum_parts g t zero k h w = absurd (omega arith)
sum_parts g t (suc n) k h w =
    let p = parts (met g [] (sum_of t n)) (met g [] (t n)) _ w in
    elim (eq-or-lt_of_le (le_of_suc-le-suc h)) [ inl e ↦ rw e p.1 | inr l ↦ sum_parts g t n k l p.0 ]
