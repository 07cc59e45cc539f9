-- The square root of a float, rounded once: to the nearest value of the format, and of two that are as near to the one whose last digit is even. Definitions only.
-- There are no real numbers here. That a whole number lies above or below a root is said by comparing squares.
-- Assumes nothing.
use Prim.Native.Nat.{ℕ, zero, suc, ◌+◌, ◌-◌, ◌*◌, ◌/◌, ◌^◌, compare}
use Rattle.std.specs.Prelude.{true, false, cond, leb, Float}
use Rattle.std.specs.Float.{nan, inf, fin, Format}
use Rattle.std.specs.Float.Ieee.{prec, low, up, down, size, nearest, units}

-- The whole part of √n, for an n below 4 ^ d: the largest q with q * q ≤ n.
-- √(n / 4) is half of √n, so the whole root of n is twice that of n / 4, or one more: whichever its square decides.
unfoldable pub whole_root : ℕ → ℕ → ℕ
whole_root zero n = 0
whole_root (suc d) n = let r = 2 * whole_root d (n / 4) in cond (leb ((r + 1) * (r + 1)) n) (r + 1) r

-- The value of the format f that is nearest to √n times the format's smallest value.
-- Of the whole part w of √n the format keeps the `prec` leading digits and drops k. So the result is a multiple of 2 ^ k units:
-- q of them, or q + 1 where √n lies above the middle, (q + 1/2) * 2 ^ k. With both sides doubled and squared that is 4 * n above ((2 * q + 1) * 2 ^ k) ^ 2.
unfoldable pub rooted : Format → ℕ → Float
unfolding whole_root size units
rooted f n =
    let w = whole_root (size n) n in
    let k = size w - prec f in
    let q = w / 2 ^ k in
    let middle = (2 * q + 1) * 2 ^ k in
    units f false (nearest q (compare (4 * n) (middle * middle))) k

-- √x. In units of the smallest value, 2 ^ -low, the root of m * 2 ^ e is √n with n = m * 2 ^ e * 2 ^ (2 * low). That is a whole number
-- for each x that the format holds, since e is -low at least.
-- Zero keeps its sign, as in IEEE 754. Of a negative number there is no root, and the result is `nan`.
unfoldable pub root : Format → Float → Float
unfolding rooted
root f nan = nan
root f (inf s) = cond s nan (inf false)
root f (fin s zero e) = fin s zero e
root f (fin true (suc m) e) = nan
root f (fin false (suc m) e) = rooted f (suc m * up e * 2 ^ (low f + low f) / down e)
