-- Centred moments from raw ones and back, over the order: the binomial sums of the paper, in the Rust's order of operations. Definitions only.
use Rattle.std.specs.Prelude.{List, [], ◌∷◌, ◌++◌, ℕ, zero, suc, ◌-◌, Float}
use Rattle.float.specs.Constants.{one}
use Rattle.float.specs.Power.{power}
use Rattle.formula.specs.Formula.{Expr, given, const, ◌⊗◌, ◌↑◌, eval}
use Rattle.formula.specs.Whole.{sum_of}
use Rattle.moments.specs.Comb.{choose}
use Rattle.moments.specs.Constants.{minus_one}

-- the numbers of a list from number 1 on, and 1 before them: m_0 and c_0 are 1
abbrev pub numbered : List Float → List Float
numbered m = one ∷ m

-- Centred moments, the inputs being 1, m_1, m_2, ..: the sum over j up to n of (((-1)^j C(n, j)) m_1^j) m_(n-j), from +0.
unfoldable pub centred_term : ℕ → ℕ → Expr
centred_term n j = const (power minus_one j) ⊗ const (choose n j) ⊗ given 1 ↑ j ⊗ given (n - j)

unfoldable pub centred : ℕ → Expr
unfolding centred_term sum_of
centred n = sum_of (centred_term n) (suc n)

unfoldable pub centred_sum : List Float → ℕ → Float
unfolding centred eval
centred_sum m n = eval (numbered m) [] (centred n)

-- Raw moments, the inputs being the mean, 1, c_1, c_2, ..: the sum over k up to n of (C(n, k) c_k) mean^(n-k), from +0.
unfoldable pub raw_term : ℕ → ℕ → Expr
raw_term n k = const (choose n k) ⊗ given (suc k) ⊗ given 0 ↑ (n - k)

unfoldable pub raw : ℕ → Expr
unfolding raw_term sum_of
raw n = sum_of (raw_term n) (suc n)

unfoldable pub raw_sum : List Float → Float → ℕ → Float
unfolding raw eval
raw_sum c mean n = eval (mean ∷ numbered c) [] (raw n)

-- entry i of the raw moments is the one of order i + 1; that of order 1 is the mean itself
unfoldable pub raw_value : List Float → Float → ℕ → Float
unfolding raw_sum
raw_value c mean zero = mean
raw_value c mean (suc i) = raw_sum c mean (suc (suc i))

-- f 0, f 1, .., f (n - 1)
abbrev pub firsts : (ℕ → Float) → ℕ → List Float
firsts f zero = []
firsts f (suc n) = firsts f n ++ (f n ∷ [])
