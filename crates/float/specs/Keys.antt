-- A signed whole number of 64 bits as an unsigned one, in the same order: 2 ^ 63 more. Definitions only.
use Rattle.std.specs.Prelude.{ℕ, suc, ◌+◌, ◌-◌, ℤ, pos, negsuc}

abbrev pub key_of : ℤ → ℕ
key_of (pos n) = n + 9223372036854775808
key_of (negsuc n) = 9223372036854775808 - suc n
