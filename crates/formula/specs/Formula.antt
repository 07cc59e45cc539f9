-- Formulas over floats, each operation rounded once to binary64, and straight programs of them. Definitions only.
use Rattle.std.specs.Prelude.{List, [], ◌∷◌, ◌++◌, Bool, true, false, not, ◌&&◌, cond, ℕ, suc, eqb, get_or, Float}
use Rattle.std.specs.Float.{nan, binary64, float_is_finite}
use Rattle.std.specs.Float.Ieee.{add, sub, mul, div, lt, le, eq}
use Rattle.float.specs.Constants.{nought, one}
use Rattle.float.specs.Power.{power_of}
use Rattle.float.specs.Root.{root}

-- ---- formulas
-- `given k` is the input in place k, `var k` the variable that the program defines in place k; a constant is a float.
infixl 68 ◌≔◌
infixl 70 ◌⊕◌ ◌⊖◌
infixl 80 ◌⊗◌ ◌⊘◌
infixl 90 ◌↑◌
infixr 90 √◌
pub data Expr : Type 0 where
  given var : ℕ → Expr
  const : Float → Expr
  ◌⊕◌ ◌⊖◌ ◌⊗◌ ◌⊘◌ : Expr → Expr → Expr
  √◌ : Expr → Expr

-- a power: squared and multiplied from the lowest binary digit of the order up, as in `power`
abbrev pub ◌↑◌ : Expr → ℕ → Expr
a ↑ n = power_of ◌⊗◌ (const one) a n

-- the value of a formula, from the inputs g and the variables so far v
unfoldable pub eval : List Float → List Float → Expr → Float
eval g v (given k) = get_or g k nan
eval g v (var k) = get_or v k nan
eval g v (const c) = c
eval g v (a ⊕ b) = add binary64 (eval g v a) (eval g v b)
eval g v (a ⊖ b) = sub binary64 (eval g v a) (eval g v b)
eval g v (a ⊗ b) = mul binary64 (eval g v a) (eval g v b)
eval g v (a ⊘ b) = div binary64 (eval g v a) (eval g v b)
eval g v (√ a) = root binary64 (eval g v a)

-- ---- programs
-- what ends a program early
pub data Test : Type 0 where
  is_zero is_negative not_finite outside_unit : Expr → Test
  is_below : Expr → Float → Test

-- whether a test stops the program
unfoldable pub stops : List Float → List Float → Test → Bool
unfolding eval
stops g v (is_zero a) = eq (eval g v a) nought
stops g v (is_negative a) = lt (eval g v a) nought
stops g v (not_finite a) = not (float_is_finite (eval g v a))
stops g v (outside_unit a) = not (le nought (eval g v a) && le (eval g v a) one)
stops g v (is_below a c) = lt (eval g v a) c

-- a statement: `x ≔ a`, the next variable, whose name is x, is the value of a; or `fail t`, the program ends there where the test t is true
pub data Stmt : Type 0 where
  ◌≔◌ : Expr → Expr → Stmt
  fail : Test → Stmt

pub data Outcome : Type 0 where
  admitted : List Float → Outcome
  inadmissible : Outcome

-- the variables' values at the end, or `inadmissible`
unfoldable pub run : List Stmt → List Float → List Float → Outcome
unfolding stops
run [] g v = admitted v
run ((x ≔ a) ∷ p) g v = run p g (v ++ (eval g v a ∷ []))
run (fail t ∷ p) g v = cond (stops g v t) inadmissible (run p g v)

-- the variables' values with every test passed over
unfoldable pub untested : List Stmt → List Float → List Float → List Float
unfolding eval
untested [] g v = v
untested ((x ≔ a) ∷ p) g v = untested p g (v ++ (eval g v a ∷ []))
untested (fail t ∷ p) g v = untested p g v

-- ---- names: whether every variable stands where its name says: the first that a program defines has the number n, the second n + 1, and so on
abbrev pub is_var : Expr → ℕ → Bool
is_var (var k) n = eqb k n
is_var a n = false

unfoldable pub named : ℕ → List Stmt → Bool
named n [] = true
named n ((x ≔ a) ∷ p) = is_var x n && named (suc n) p
named n (fail t ∷ p) = named n p
