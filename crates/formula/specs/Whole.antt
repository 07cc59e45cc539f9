-- Whole numbers below 2 ^ 53 in size, and sums of formulas. Definitions only.
use Rattle.std.specs.Prelude.{Bool, true, false, ◌&&◌, ℕ, zero, suc, ◌*◌, ◌/◌, ◌%◌, ◌^◌, eqb, ltb, ℤ, pos, neg_ℤ, Float}
use Rattle.std.specs.Float.{nan, inf, fin}
use Rattle.std.specs.Float.Ieee.{up, down}
use Rattle.float.specs.Constants.{nought}
use Rattle.formula.specs.Formula.{Expr, given, var, const, ◌⊕◌, ◌⊖◌, ◌⊗◌, ◌⊘◌, √◌}

-- a whole number below 2 ^ 53 in size; both zeros are
unfoldable pub is_whole : Float → Bool
is_whole nan = false
is_whole (inf s) = false
is_whole (fin s m e) = eqb (m * up e % down e) 0 && ltb (m * up e / down e) (2 ^ 53)

-- the whole number that such a float is
abbrev pub signed : Bool → ℕ → ℤ
signed true k = neg_ℤ (pos k)
signed false k = pos k

unfoldable pub int_of : Float → ℤ
int_of nan = pos 0
int_of (inf s) = pos 0
int_of (fin s m e) = signed s (m * up e / down e)

-- the constants of a formula are whole, and it reads none but the first n variables
unfoldable pub whole_constants : ℕ → Expr → Bool
unfolding is_whole
whole_constants n (given k) = true
whole_constants n (var k) = ltb k n
whole_constants n (const c) = is_whole c
whole_constants n (a ⊕ b) = whole_constants n a && whole_constants n b
whole_constants n (a ⊖ b) = whole_constants n a && whole_constants n b
whole_constants n (a ⊗ b) = whole_constants n a && whole_constants n b
whole_constants n (a ⊘ b) = whole_constants n a && whole_constants n b
whole_constants n (√ a) = whole_constants n a

-- t 0 + t 1 + .. + t (n - 1), summed from +0.0
unfoldable pub sum_of : (ℕ → Expr) → ℕ → Expr
sum_of t zero = const nought
sum_of t (suc n) = sum_of t n ⊕ t n
