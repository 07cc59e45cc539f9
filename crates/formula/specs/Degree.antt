-- Degrees: a formula of degree d grows by 2 ^ (d * s) where its inputs grow so, each by its own degree. Definitions only.
use Rattle.std.specs.Prelude.{List, [], ◌∷◌, ◌++◌, Bool, true, false, cond, ℕ, zero, suc, ◌+◌, ◌-◌, ◌/◌, ◌%◌, eqb, leb}
use Rattle.std.specs.Float.{float_is_finite}
use Rattle.formula.specs.Formula.{Expr, given, var, const, ◌⊕◌, ◌⊖◌, ◌⊗◌, ◌⊘◌, √◌, Test, is_zero, is_negative, not_finite, outside_unit, is_below, Stmt, ◌≔◌, fail}

pub data Degree : Type 0 where
  of : ℕ → Degree
  mixed : Degree

abbrev pub same : Degree → Degree → Degree
same (of a) (of b) = cond (eqb a b) (of a) mixed
same (of a) mixed = mixed
same mixed b = mixed

abbrev pub joint : Degree → Degree → Degree
joint (of a) (of b) = of (a + b)
joint (of a) mixed = mixed
joint mixed b = mixed

abbrev pub excess : Degree → Degree → Degree
excess (of a) (of b) = cond (leb b a) (of (a - b)) mixed
excess (of a) mixed = mixed
excess mixed b = mixed

abbrev pub halved : Degree → Degree
halved (of a) = cond (eqb (a % 2) 0) (of (a / 2)) mixed
halved mixed = mixed

abbrev pub at : List ℕ → ℕ → Degree
at [] k = mixed
at (d ∷ ds) zero = of d
at (d ∷ ds) (suc k) = at ds k

-- from the degrees of the inputs and of the variables so far
unfoldable pub degree : List ℕ → List ℕ → Expr → Degree
degree gs ds (given k) = at gs k
degree gs ds (var k) = at ds k
degree gs ds (const c) = cond (float_is_finite c) (of 0) mixed
degree gs ds (a ⊕ b) = same (degree gs ds a) (degree gs ds b)
degree gs ds (a ⊖ b) = same (degree gs ds a) (degree gs ds b)
degree gs ds (a ⊗ b) = joint (degree gs ds a) (degree gs ds b)
degree gs ds (a ⊘ b) = excess (degree gs ds a) (degree gs ds b)
degree gs ds (√ a) = halved (degree gs ds a)

-- a comparison with zero takes any degree, one with another number only 0
abbrev pub any : Degree → Bool
any (of d) = true
any mixed = false

abbrev pub plain : Degree → Bool
plain (of d) = eqb d 0
plain mixed = false

unfoldable pub proper : List ℕ → List ℕ → Test → Bool
unfolding degree
proper gs ds (is_zero a) = any (degree gs ds a)
proper gs ds (is_negative a) = any (degree gs ds a)
proper gs ds (not_finite a) = any (degree gs ds a)
proper gs ds (outside_unit a) = plain (degree gs ds a)
proper gs ds (is_below a c) = plain (degree gs ds a)

pub data Degrees : Type 0 where
  each : List ℕ → Degrees
  mismatch : Degrees

-- the degrees of a program's variables at its end
unfoldable pub degrees : List Stmt → List ℕ → List ℕ → Degrees
unfolding proper
degrees [] gs ds = each ds
degrees ((x ≔ a) ∷ p) gs ds = elim (degree gs ds a) [ of d ↦ degrees p gs (ds ++ (d ∷ [])) | mixed ↦ mismatch ]
degrees (fail t ∷ p) gs ds = cond (proper gs ds t) (degrees p gs ds) mismatch
