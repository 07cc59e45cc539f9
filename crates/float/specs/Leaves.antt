-- Size, the larger of two, and a whole number as a float. Definitions only.
use Rattle.std.specs.Prelude.{false, cond, ℕ, pos, Float}
use Rattle.std.specs.Float.{nan, inf, fin, binary64}
use Rattle.std.specs.Float.Ieee.{lt, of_int}

-- |x|
unfoldable pub abs_of : Float → Float
abs_of nan = nan
abs_of (inf s) = inf false
abs_of (fin s m e) = fin false m e

-- Rust's f64::max: where one is NaN the other. Of two zeros Rust may give either; this is the first.
unfoldable pub larger_of : Float → Float → Float
larger_of nan y = y
larger_of (inf s) y = cond (lt (inf s) y) y (inf s)
larger_of (fin s m e) y = cond (lt (fin s m e) y) y (fin s m e)

-- Rust's `n as f64`, of a whole number: the nearest, half to even
abbrev pub as_f64 : ℕ → Float
as_f64 n = of_int binary64 (pos n)
