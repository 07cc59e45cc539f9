-- Sums of squares, as Rust's sum() works them out, and the error of moments. Definitions only.
use Rattle.std.specs.Prelude.{List, ℕ, zero, suc, min, get_or, map, Float}
use Rattle.std.specs.List.{fold}
use Rattle.std.specs.Float.{nan, binary64}
use Rattle.std.specs.Float.Ieee.{add, sub, mul, neg, of_bits}
use Rattle.float.specs.Constants.{minus_nought}
use Rattle.moments.specs.Lists.{listed}
use Rattle.moments.specs.declared.Five.{Five}
use Rattle.fit_state.specs.declared.M2N.{M2N}

-- the sum of the first k squares, from -0
unfoldable pub sum_of_squares : List Float → ℕ → Float
sum_of_squares l zero = minus_nought
sum_of_squares l (suc k) = add binary64 (sum_of_squares l k) (mul binary64 (get_or l k nan) (get_or l k nan))

-- the squares of a list, as Rust's sum() of them
abbrev pub squares_summed : List Float → Float
squares_summed l = fold (λ a x. add binary64 a x) (neg (of_bits binary64 0)) (map (λ x. mul binary64 x x) l)

-- (a - b)²
abbrev pub squared : Float → Float → Float
squared a b = mul binary64 (sub binary64 a b) (sub binary64 a b)

-- the sum of the squares of the first k differences, from -0
unfoldable pub squares : List Float → List Float → ℕ → Float
squares a b zero = minus_nought
squares a b (suc k) = add binary64 (squares a b k) (squared (get_or a k nan) (get_or b k nan))

-- the step error: over at most five moments, four where only four are given
unfoldable pub error_of : M2N → Five → Float
unfolding squares
error_of m n = squares m.moments (listed n) (min m.len 5)
