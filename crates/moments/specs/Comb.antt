-- Binomial numbers over floats, as the Rust's comb works them out. Definitions only.
use Rattle.std.specs.Prelude.{cond, ℕ, zero, suc, ◌+◌, ◌-◌, ltb, min, Float}
use Rattle.std.specs.Float.{binary64}
use Rattle.std.specs.Float.Ieee.{mul, div}
use Rattle.float.specs.Constants.{nought, one}
use Rattle.float.specs.Leaves.{as_f64}

-- n (n - 1) .. (n - k + 1), and 1 2 .. k
unfoldable pub falling : ℕ → ℕ → Float
falling n zero = one
falling n (suc i) = mul binary64 (falling n i) (as_f64 (n - i))

unfoldable pub rising : ℕ → Float
rising zero = one
rising (suc i) = mul binary64 (rising i) (as_f64 (i + 1))

unfoldable pub choose : ℕ → ℕ → Float
unfolding falling rising
choose n k = cond (ltb n k) nought (div binary64 (falling n (min k (n - k))) (rising (min k (n - k))))
