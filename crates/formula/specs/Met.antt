-- What is met when a formula or a program runs: each input that it reads and each rounded result, those inside a power too (document 01, "The trail of a walk"). Definitions only.
use Rattle.std.specs.Prelude.{List, [], ◌∷◌, ◌++◌, Bool, true, ◌&&◌, ◌||◌, cond, get_or, Float}
use Rattle.std.specs.Float.{nan}
use Rattle.formula.specs.Formula.{Expr, given, var, const, ◌⊕◌, ◌⊖◌, ◌⊗◌, ◌⊘◌, √◌, eval, Test, is_zero, is_negative, not_finite, outside_unit, is_below, stops, Stmt, ◌≔◌, fail}
use Rattle.formula.specs.Range.{sized, is_nought, sum_is_zero, difference_is_zero, product_is_zero, quotient_is_zero}
use Rattle.formula.specs.Whole.{is_whole}

-- a number met, and whether it is zero before its own rounding: its one operation, on its operands as already rounded, has the exact value zero, or it is an input and zero
pub record Met : Type 0 where
  pub value : Float
  pub exactly_zero : Bool

unfoldable pub met : List Float → List Float → Expr → List Met
unfolding eval
met g v (given k) = record { value = get_or g k nan; exactly_zero = is_nought (get_or g k nan) } ∷ []
met g v (var k) = []
met g v (const c) = []
met g v (a ⊕ b) = met g v a ++ (met g v b ++ (record { value = eval g v (a ⊕ b); exactly_zero = sum_is_zero (eval g v a) (eval g v b) } ∷ []))
met g v (a ⊖ b) = met g v a ++ (met g v b ++ (record { value = eval g v (a ⊖ b); exactly_zero = difference_is_zero (eval g v a) (eval g v b) } ∷ []))
met g v (a ⊗ b) = met g v a ++ (met g v b ++ (record { value = eval g v (a ⊗ b); exactly_zero = product_is_zero (eval g v a) (eval g v b) } ∷ []))
met g v (a ⊘ b) = met g v a ++ (met g v b ++ (record { value = eval g v (a ⊘ b); exactly_zero = quotient_is_zero (eval g v a) (eval g v b) } ∷ []))
met g v (√ a) = met g v a ++ (record { value = eval g v (√ a); exactly_zero = is_nought (eval g v a) } ∷ [])

abbrev pub tested : Test → Expr
tested (is_zero a) = a
tested (is_negative a) = a
tested (not_finite a) = a
tested (outside_unit a) = a
tested (is_below a c) = a

-- up to the end, or to the first test that stops the program
unfoldable pub met_by : List Stmt → List Float → List Float → List Met
unfolding met stops
met_by [] g v = []
met_by ((x ≔ a) ∷ p) g v = met g v a ++ met_by p g (v ++ (eval g v a ∷ []))
met_by (fail t ∷ p) g v = met g v (tested t) ++ cond (stops g v t) [] (met_by p g v)

-- ---- what the theorems ask of every number met
-- from 2 ^ -900 to 2 ^ 900 in size, or zero before its own rounding
abbrev pub fair : Met → Bool
fair m = m.exactly_zero || sized m.value

abbrev pub all_fair : List Met → Bool
all_fair [] = true
all_fair (m ∷ l) = fair m && all_fair l

-- whole, and below 2 ^ 53 in size
abbrev pub all_whole : List Met → Bool
all_whole [] = true
all_whole (m ∷ l) = is_whole m.value && all_whole l
