-- The raw moments of a mixture, from López de Prado and Foreman (2014), in the Rust's order of operations (get_moments). Definitions only.
use Rattle.std.specs.Prelude.{◌≡◌, refl, true, List, [], ◌∷◌, Float, get_or}
use Rattle.std.specs.Float.{nan}
use Rattle.float.specs.Constants as constants
use Rattle.formula.specs.Formula.{Expr, given, var, const, ◌⊕◌, ◌⊖◌, ◌⊗◌, ◌↑◌, Stmt, ◌≔◌, Outcome, admitted, inadmissible, eval, run, named}
use Rattle.moments.specs.Constants as numbers
use Rattle.moments.specs.declared.Params.{Params}
use Rattle.moments.specs.declared.Five.{Five}

-- the parameters, which are given
abbrev u₁ : Expr
u₁ = given 0

abbrev u₂ : Expr
u₂ = given 1

abbrev s₁ : Expr
s₁ = given 2

abbrev s₂ : Expr
s₂ = given 3

abbrev p₁ : Expr
p₁ = given 4

-- the variables, in the order of their definition
abbrev p₂ : Expr
p₂ = var 0

abbrev m₁ : Expr
m₁ = var 1

abbrev m₂ : Expr
m₂ = var 2

abbrev m₃ : Expr
m₃ = var 3

abbrev m₄ : Expr
m₄ = var 4

abbrev m₅ : Expr
m₅ = var 5

-- the numbers of the formulas
abbrev 𝟏 : Expr
𝟏 = const constants.one

abbrev 𝟑 : Expr
𝟑 = const numbers.three

abbrev 𝟔 : Expr
𝟔 = const numbers.six

abbrev 𝟏𝟎 : Expr
𝟏𝟎 = const numbers.ten

abbrev 𝟏𝟓 : Expr
𝟏𝟓 = const numbers.fifteen

-- the second to the fifth moment of one curve; the first is u
abbrev second : Expr → Expr → Expr
second u s = s ↑ 2 ⊕ u ↑ 2

abbrev third : Expr → Expr → Expr
third u s = 𝟑 ⊗ s ↑ 2 ⊗ u ⊕ u ↑ 3

abbrev fourth : Expr → Expr → Expr
fourth u s = 𝟑 ⊗ s ↑ 4 ⊕ 𝟔 ⊗ s ↑ 2 ⊗ u ↑ 2 ⊕ u ↑ 4

abbrev pub fifth : Expr → Expr → Expr
fifth u s = 𝟏𝟓 ⊗ s ↑ 4 ⊗ u ⊕ 𝟏𝟎 ⊗ s ↑ 2 ⊗ u ↑ 3 ⊕ u ↑ 5

unfoldable pub mixture : List Stmt
mixture =
    p₂ ≔ 𝟏 ⊖ p₁
    ∷ m₁ ≔ p₁ ⊗ u₁ ⊕ p₂ ⊗ u₂
    ∷ m₂ ≔ p₁ ⊗ second u₁ s₁ ⊕ p₂ ⊗ second u₂ s₂
    ∷ m₃ ≔ p₁ ⊗ third u₁ s₁ ⊕ p₂ ⊗ third u₂ s₂
    ∷ m₄ ≔ p₁ ⊗ fourth u₁ s₁ ⊕ p₂ ⊗ fourth u₂ s₂
    ∷ m₅ ≔ p₁ ⊗ fifth u₁ s₁ ⊕ p₂ ⊗ fifth u₂ s₂
    ∷ []

-- each variable stands where its name says
named_mixture : named 0 mixture ≡ true
unfolding named mixture
named_mixture = refl

-- the five moments of one curve
unfoldable pub curve_moments : Float → Float → Five
unfolding eval
curve_moments μ σ =
    let value = λ (f : Expr → Expr → Expr). eval (μ ∷ σ ∷ []) [] (f (given 0) (given 1)) in
    record { m_1 = μ; m_2 = value second; m_3 = value third; m_4 = value fourth; m_5 = value fifth }

-- the moments of a run; the program has no test, so it always ends with all its variables
abbrev pub moments_of : Outcome → Five
moments_of (admitted v) = record { m_1 = get_or v 1 nan; m_2 = get_or v 2 nan; m_3 = get_or v 3 nan; m_4 = get_or v 4 nan; m_5 = get_or v 5 nan }
moments_of inadmissible = record { m_1 = nan; m_2 = nan; m_3 = nan; m_4 = nan; m_5 = nan }

unfoldable pub get_moments : Params → Five
unfolding mixture run
get_moments p = moments_of (run mixture (p.mu_1 ∷ p.mu_2 ∷ p.sigma_1 ∷ p.sigma_2 ∷ p.p_1 ∷ []) [])
