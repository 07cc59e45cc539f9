-- The two steps of the fit, from López de Prado and Foreman (2014), as programs of formulas, each beside the Rust's iter_4 and iter_5, line by line. Definitions only.
use Rattle.std.specs.Prelude.{◌≡◌, refl, true, List, [], ◌∷◌, ◌++◌, get_or, Float}
use Rattle.std.specs.Float.{nan}
use Rattle.float.specs.Constants as constants
use Rattle.formula.specs.Formula.{Expr, given, var, const, ◌⊕◌, ◌⊖◌, ◌⊗◌, ◌⊘◌, ◌↑◌, √◌, is_zero, is_negative, not_finite, outside_unit, is_below, Stmt, ◌≔◌, fail, Outcome, admitted, inadmissible, eval, run, untested, named}
use Rattle.moments.specs.Constants as numbers
use Rattle.moments.specs.Mixture.{fifth}
use Rattle.step.specs.Constants as steps
use Rattle.step.specs.declared.Step.{Step}
use Rattle.step.specs.declared.Step.TheVariants.{Admitted, Inadmissible}

-- the numbers of the formulas
abbrev 𝟏 : Expr
𝟏 = const constants.one

abbrev 𝟐 : Expr
𝟐 = const steps.two

abbrev 𝟑 : Expr
𝟑 = const numbers.three

abbrev 𝟔 : Expr
𝟔 = const numbers.six

-- the pair and the moments, which are given
abbrev pub μ₂ : Expr
μ₂ = given 0

abbrev p₁ : Expr
p₁ = given 1

abbrev m₁ : Expr
m₁ = given 2

abbrev m₂ : Expr
m₂ = given 3

abbrev m₃ : Expr
m₃ = given 4

abbrev m₄ : Expr
m₄ = given 5

abbrev m₅ : Expr
m₅ = given 6

-- the variables, in the order of their definition; `named` checks, beside each program, that they stand where it defines them
abbrev pub μ₁ : Expr
μ₁ = var 0

abbrev pub den₂₄ : Expr
den₂₄ = var 1

abbrev pub σ₂² : Expr
σ₂² = var 2

abbrev pub σ₂ : Expr
σ₂ = var 3

abbrev σ₁² : Expr
σ₁² = var 4

abbrev pub σ₁ : Expr
σ₁ = var 5

-- of the step on four moments
abbrev deno : Expr
deno = var 6

abbrev pub p₁' : Expr
p₁' = var 7

-- of the step on five
abbrev a₁² : Expr
a₁² = var 6

abbrev a₁ : Expr
a₁ = var 7

abbrev μ₂² : Expr
μ₂² = var 8

abbrev pub μ₂' : Expr
μ₂' = var 9

abbrev a₂ : Expr
a₂ = var 10

abbrev b₂ : Expr
b₂ = var 11

abbrev pub p₁'' : Expr
p₁'' = var 12

-- what both steps begin with: mu_1 and the two deviations
unfoldable pub curves : List Stmt
curves =
    μ₁ ≔ (m₁ ⊖ (𝟏 ⊖ p₁) ⊗ μ₂) ⊘ p₁
    ∷ den₂₄ ≔ 𝟑 ⊗ (𝟏 ⊖ p₁) ⊗ (μ₂ ⊖ μ₁)
    ∷ fail (is_zero den₂₄)
    ∷ σ₂² ≔ (m₃ ⊕ 𝟐 ⊗ p₁ ⊗ μ₁ ↑ 3 ⊕ (p₁ ⊖ 𝟏) ⊗ μ₂ ↑ 3 ⊖ 𝟑 ⊗ μ₁ ⊗ (m₂ ⊕ μ₂ ↑ 2 ⊗ (p₁ ⊖ 𝟏))) ⊘ den₂₄
    ∷ fail (is_negative σ₂²)
    ∷ σ₂ ≔ √ σ₂²
    ∷ σ₁² ≔ (m₂ ⊖ σ₂ ↑ 2 ⊖ μ₂ ↑ 2) ⊘ p₁ ⊕ σ₂ ↑ 2 ⊕ μ₂ ↑ 2 ⊖ μ₁ ↑ 2
    ∷ fail (is_negative σ₁²)
    ∷ σ₁ ≔ √ σ₁²
    ∷ []

named_curves : named 0 curves ≡ true
unfolding named curves
named_curves = refl

unfoldable pub iter_4 : List Stmt
unfolding curves
iter_4 =
    curves
    ++ deno ≔ 𝟑 ⊗ (σ₁ ↑ 4 ⊖ σ₂ ↑ 4) ⊕ 𝟔 ⊗ (σ₁ ↑ 2 ⊗ μ₁ ↑ 2 ⊖ σ₂ ↑ 2 ⊗ μ₂ ↑ 2) ⊕ μ₁ ↑ 4 ⊖ μ₂ ↑ 4
    ∷ fail (is_zero deno)
    ∷ p₁' ≔ (m₄ ⊖ 𝟑 ⊗ σ₂ ↑ 4 ⊖ 𝟔 ⊗ σ₂ ↑ 2 ⊗ μ₂ ↑ 2 ⊖ μ₂ ↑ 4) ⊘ deno
    ∷ fail (outside_unit p₁')
    ∷ []

named_4 : named 0 iter_4 ≡ true
unfolding named iter_4
named_4 = refl

unfoldable pub iter_5 : List Stmt
unfolding curves
iter_5 =
    curves
    ++ fail (is_below (𝟏 ⊖ p₁) steps.ten_thousandth)
    ∷ a₁² ≔ 𝟔 ⊗ σ₂ ↑ 4 ⊕ (m₄ ⊖ p₁ ⊗ (𝟑 ⊗ σ₁ ↑ 4 ⊕ 𝟔 ⊗ σ₁ ↑ 2 ⊗ μ₁ ↑ 2 ⊕ μ₁ ↑ 4)) ⊘ (𝟏 ⊖ p₁)
    ∷ fail (is_negative a₁²)
    ∷ a₁ ≔ √ a₁²
    ∷ μ₂² ≔ a₁ ⊖ 𝟑 ⊗ σ₂ ↑ 2
    ∷ fail (not_finite μ₂²)
    ∷ fail (is_negative μ₂²)
    ∷ μ₂' ≔ √ μ₂²
    ∷ a₂ ≔ fifth μ₁ σ₁
    ∷ b₂ ≔ fifth μ₂' σ₂
    ∷ fail (is_zero (a₂ ⊖ b₂))
    ∷ p₁'' ≔ (m₅ ⊖ b₂) ⊘ (a₂ ⊖ b₂)
    ∷ fail (outside_unit p₁'')
    ∷ []

named_5 : named 0 iter_5 ≡ true
unfolding named iter_5
named_5 = refl

-- the value of σ₂², whatever the tests before it say
unfoldable pub sigma2_squared : List Float → Float → Float → Float
unfolding untested curves
sigma2_squared ms μ p = eval (μ ∷ p ∷ ms) (untested curves (μ ∷ p ∷ ms) []) σ₂²

-- the step that the formulas for mu_1, mu_2, sigma_1, sigma_2 and the new p_1 answer, from the inputs and a run's outcome
abbrev pub answer : (a b c d e : Expr) → List Float → Outcome → Step
answer a b c d e g inadmissible = Inadmissible
answer a b c d e g (admitted v) =
    Admitted (record { mu_1 = eval g v a; mu_2 = eval g v b; sigma_1 = eval g v c; sigma_2 = eval g v d; p_1 = eval g v e })

-- one step from the moments, a mean and a weight
unfoldable pub step_4 : List Float → Float → Float → Step
unfolding run iter_4
step_4 ms μ p = answer μ₁ μ₂ σ₁ σ₂ p₁' (μ ∷ p ∷ ms) (run iter_4 (μ ∷ p ∷ ms) [])

unfoldable pub step_5 : List Float → Float → Float → Step
unfolding run iter_5
step_5 ms μ p = answer μ₁ μ₂' σ₁ σ₂ p₁'' (μ ∷ p ∷ ms) (run iter_5 (μ ∷ p ∷ ms) [])

-- the moments that a step reads, of any list
abbrev pub first_four : List Float → List Float
first_four m = get_or m 0 nan ∷ get_or m 1 nan ∷ get_or m 2 nan ∷ get_or m 3 nan ∷ []

abbrev pub first_five : List Float → List Float
first_five m = get_or m 0 nan ∷ get_or m 1 nan ∷ get_or m 2 nan ∷ get_or m 3 nan ∷ get_or m 4 nan ∷ []
