-- The range in which rounding does not see a multiplication by a power of two, and whether an operation's exact value is zero. Definitions only.
use Rattle.std.specs.Prelude.{Bool, false, not, ◌&&◌, ◌||◌, ◌*◌, ◌^◌, leb, eqb, Float}
use Rattle.std.specs.Float.{nan, inf, fin, float_is_finite}
use Rattle.std.specs.Float.Ieee.{up, down, eq, neg}

-- from 2 ^ -900 to 2 ^ 900 in size
unfoldable pub sized : Float → Bool
sized nan = false
sized (inf s) = false
sized (fin s m e) = leb (down e) (m * up e * 2 ^ 900) && leb (m * up e) (2 ^ 900 * down e)

-- a zero, of either sign
abbrev pub is_nought : Float → Bool
is_nought nan = false
is_nought (inf s) = false
is_nought (fin s m e) = eqb m 0

-- ---- whether an operation's exact value, before it is rounded, is zero
unfoldable pub sum_is_zero : Float → Float → Bool
sum_is_zero x y = float_is_finite x && eq x (neg y)

unfoldable pub difference_is_zero : Float → Float → Bool
difference_is_zero x y = float_is_finite x && eq x y

unfoldable pub product_is_zero : Float → Float → Bool
product_is_zero x y = float_is_finite x && float_is_finite y && (is_nought x || is_nought y)

unfoldable pub quotient_is_zero : Float → Float → Bool
quotient_is_zero x y = is_nought x && float_is_finite y && not (is_nought y)
