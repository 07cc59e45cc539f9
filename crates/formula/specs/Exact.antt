-- What a formula is worth, and how a program runs, over the integers: nothing is rounded, each quotient comes out even, and each root is that of a square. Definitions only.
use Rattle.std.specs.Prelude.{◌≡◌, ◌≢◌, List, [], ◌∷◌, ◌++◌, map, Bool, true, false, ◌&&◌, ◌||◌, cond, ℕ, zero, suc, ◌*◌, ◌^◌, ◌<◌, T, eqb, ltb, length, get_or, ℤ, pos, negsuc, nat_abs, ◌+ℤ◌, ◌-ℤ◌, ◌*ℤ◌, Float}
use Rattle.std.specs.Float.{fin}
use Rattle.std.specs.Float.Ieee.{size, lt}
use Rattle.float.specs.Root.{whole_root}
use Rattle.formula.specs.Formula.{Expr, given, var, const, ◌⊕◌, ◌⊖◌, ◌⊗◌, ◌⊘◌, √◌, eval, Test, is_zero, is_negative, not_finite, outside_unit, is_below, stops, Stmt, ◌≔◌, fail, Outcome, admitted, inadmissible, run}
use Rattle.formula.specs.Met.{tested, met_by, all_whole}
use Rattle.formula.specs.Whole.{is_whole, int_of, whole_constants}

-- the value of a formula, where it has one, from the inputs g and the variables so far v
pub data Value (g v : List ℤ) : Expr → ℤ → Type 0 where
  input : {k : ℕ} → k < length g → Value g v (given k) (get_or g k (pos 0))
  variable : {k : ℕ} → k < length v → Value g v (var k) (get_or v k (pos 0))
  number : {c : Float} → T (is_whole c) → Value g v (const c) (int_of c)
  sum : {a b : Expr} {x y : ℤ} → Value g v a x → Value g v b y → Value g v (a ⊕ b) (x +ℤ y)
  difference : {a b : Expr} {x y : ℤ} → Value g v a x → Value g v b y → Value g v (a ⊖ b) (x -ℤ y)
  product : {a b : Expr} {x y : ℤ} → Value g v a x → Value g v b y → Value g v (a ⊗ b) (x *ℤ y)
  quotient : {a b : Expr} {q y : ℤ} → Value g v a (q *ℤ y) → Value g v b y → y ≢ pos 0 → Value g v (a ⊘ b) q
  root : {a : Expr} {r : ℕ} → Value g v a (pos (r * r)) → Value g v (√ a) (pos r)

-- the number i as a float of its own, in no format
abbrev pub exactly : ℤ → Float
exactly (pos n) = fin false n (pos 0)
exactly (negsuc n) = fin true (suc n) (pos 0)

-- whether a test stops the program where the number tested is i
abbrev pub stops_at : Test → ℤ → Bool
stops_at (is_zero a) (pos zero) = true
stops_at (is_zero a) (pos (suc n)) = false
stops_at (is_zero a) (negsuc n) = false
stops_at (is_negative a) (pos n) = false
stops_at (is_negative a) (negsuc n) = true
stops_at (not_finite a) i = false
stops_at (outside_unit a) (pos zero) = false
stops_at (outside_unit a) (pos (suc zero)) = false
stops_at (outside_unit a) (pos (suc (suc n))) = true
stops_at (outside_unit a) (negsuc n) = true
stops_at (is_below a c) i = lt (exactly i) c

-- the variables' values at the end, or that a test stopped the program
pub data Ending : Type 0 where
  ended : List ℤ → Ending
  stopped : Ending

pub data Run (g : List ℤ) : List Stmt → List ℤ → Ending → Type 0 where
  end : {v : List ℤ} → Run g [] v (ended v)
  assign : {x a : Expr} {p : List Stmt} {v : List ℤ} {o : Ending} {i : ℤ} → Value g v a i → Run g p (v ++ (i ∷ [])) o → Run g ((x ≔ a) ∷ p) v o
  stop : {t : Test} {p : List Stmt} {v : List ℤ} {i : ℤ} → Value g v (tested t) i → stops_at t i ≡ true → Run g (fail t ∷ p) v stopped
  pass : {t : Test} {p : List Stmt} {v : List ℤ} {o : Ending} {i : ℤ} → Value g v (tested t) i → stops_at t i ≡ false → Run g p v o → Run g (fail t ∷ p) v o

-- ---- the integers that a run has
abbrev pub ints : List Float → List ℤ
ints l = map int_of l

abbrev pub ending : Outcome → Ending
ending (admitted v) = ended (ints v)
ending inadmissible = stopped

-- every variable whole
abbrev pub wholes : List Float → Bool
wholes [] = true
wholes (x ∷ v) = is_whole x && wholes v

abbrev pub whole_outcome : Outcome → Bool
whole_outcome (admitted v) = wholes v
whole_outcome inadmissible = true

-- ---- what the laws ask besides that every number met is whole
-- A root that comes out whole is exact where the number under it is below 2 ^ 52, or a square. Else it need not be: √(2 ^ 52 + 1) comes out as 2 ^ 26.
unfoldable pub is_square : ℕ → Bool
unfolding whole_root
is_square n = let r = whole_root (size n) n in eqb (r * r) n

unfoldable pub rootable : Float → Bool
unfolding int_of is_square
rootable x = ltb (nat_abs (int_of x)) (2 ^ 52) || is_square (nat_abs (int_of x))

-- the numbers under the roots of a formula are so
unfoldable pub rootables : List Float → List Float → Expr → Bool
unfolding rootable eval
rootables g v (given k) = true
rootables g v (var k) = true
rootables g v (const c) = true
rootables g v (a ⊕ b) = rootables g v a && rootables g v b
rootables g v (a ⊖ b) = rootables g v a && rootables g v b
rootables g v (a ⊗ b) = rootables g v a && rootables g v b
rootables g v (a ⊘ b) = rootables g v a && rootables g v b
rootables g v (√ a) = rootables g v a && rootable (eval g v a)

-- and those of a program, up to its end or to the first test that stops it
unfoldable pub rootables_by : List Stmt → List Float → List Float → Bool
unfolding rootables stops
rootables_by [] g v = true
rootables_by ((x ≔ a) ∷ p) g v = rootables g v a && rootables_by p g (v ++ (eval g v a ∷ []))
rootables_by (fail t ∷ p) g v = rootables g v (tested t) && cond (stops g v t) true (rootables_by p g v)

-- the constants of a program's formulas are whole, and they read none but variables that are defined, n at first
unfoldable pub whole_constants_by : ℕ → List Stmt → Bool
unfolding whole_constants
whole_constants_by n [] = true
whole_constants_by n ((x ≔ a) ∷ p) = whole_constants n a && whole_constants_by (suc n) p
whole_constants_by n (fail t ∷ p) = whole_constants n (tested t) && whole_constants_by n p

-- ---- exactness
-- a program's run over floats is its run over the integers: where it ends, with whole variables, which are those that it has there
pub record ExactRun (g v : List Float) (p : List Stmt) : Type 0 where
  pub ends_whole : T (whole_outcome (run p g v))
  pub runs : Run (ints g) p (ints v) (ending (run p g v))

-- so it is for every input at which each number met is whole and below 2 ^ 53, and those under roots are below 2 ^ 52 or squares
abbrev pub ExactWhereWhole : List Stmt → Type 0
ExactWhereWhole p = (g : List Float) → T (all_whole (met_by p g [])) → T (rootables_by p g []) → ExactRun g [] p
