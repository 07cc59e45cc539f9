-- The limit price of chapter 10 of Advances in Financial Machine Learning: the Rust's limit_price_sigmoid, line by line, the mean of inv_price_sigmoid over the lots on the way. Definitions only.
use Rattle.std.specs.Prelude.{List, [], ◌∷◌, ℕ, zero, suc, ltb, ℤ, pos, nat_abs, ◌+ℤ◌, ◌-ℤ◌, ◌*ℤ◌, Float, Result}
use Rattle.std.specs.Int.{int_signum}
use Rattle.std.specs.Float.{nan, binary64}
use Rattle.std.specs.Float.Ieee.{of_int, to_signed}
use Rattle.float.specs.Constants.{minus_nought}
use Rattle.prices.specs.Prices.{◌⊕◌, ◌⊘◌, inv_price_sigmoid}
use Rattle.refusal.specs.Numbers.{unless_refused}
use Rattle.refusal.specs.Rules.{Rule, ◌⇒◌, first_refusal}
use Rattle.refusal.specs.declared.Refusal.{Refusal}
use Rattle.refusal.specs.declared.Refusal.TheVariants.{TooManyLots}

-- the i-th lot on the way: current + sgn * i
abbrev pub lot_number : ℤ → ℤ → ℕ → ℤ
lot_number current sgn i = current +ℤ sgn *ℤ pos i

abbrev pub lot_price : Float → Float → Float → ℤ → ℤ → ℕ → Float
lot_price f w max current sgn i = inv_price_sigmoid f w (of_int binary64 (lot_number current sgn i) ⊘ max)

-- the sum of numbers 1 to n, from -0
unfoldable pub summed : (ℕ → Float) → ℕ → Float
summed x zero = minus_nought
summed x (suc i) = summed x i ⊕ x (suc i)

-- their mean; of none, NaN
abbrev pub mean_of : (ℕ → Float) → ℕ → Float
mean_of x zero = nan
mean_of x (suc n) = summed x (suc n) ⊘ of_int binary64 (pos (suc n))

-- document 01's entry "Limit price"
abbrev pub lots_rules : ℕ → List Rule
lots_rules lots = ltb 1000000 lots ⇒ TooManyLots ∷ []

-- the walk over d lots, of which a negative number goes down
abbrev pub limit_from : Float → Float → Float → ℤ → ℤ → Result Float Refusal
limit_from f w max current d = unless_refused (first_refusal (lots_rules (nat_abs d))) (mean_of (lot_price f w max current (int_signum d)) (nat_abs d))

-- the positions are cut towards zero; their difference is one of whole numbers, so it is exact
unfoldable pub limit_price_sigmoid : Float → Float → Float → Float → Float → Result Float Refusal
unfolding summed
limit_price_sigmoid t p f w max = limit_from f w max (to_signed 63 p) (to_signed 63 t -ℤ to_signed 63 p)
