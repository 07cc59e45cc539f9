-- Multiplication by a power of two, exactly, with no format in it. Definitions only.
use Rattle.std.specs.Prelude.{ℕ, zero, suc, ℤ, ◌+ℤ◌, Float}
use Rattle.std.specs.Float.{nan, inf, fin}

-- the exponent t more, but for a zero, which has only one
abbrev pub moved : ℕ → ℤ → ℤ → ℤ
moved zero e t = e
moved (suc m) e t = e +ℤ t

-- 2 ^ t times x: a zero keeps its sign, an infinity and a NaN stay
abbrev pub scale : ℤ → Float → Float
scale t nan = nan
scale t (inf s) = inf s
scale t (fin s m e) = fin s m (moved m e t)
