-- Widths and prices on the sigmoid curve of chapter 10 of Advances in Financial Machine Learning: the Rust's get_w_sigmoid and inv_price_sigmoid, line by line, each operation rounded once. Definitions only.
use Rattle.std.specs.Prelude.{Bool, ◌&&◌, ◌||◌, not, cond, Float}
use Rattle.std.specs.Float.{binary64, float_is_infinite, float_is_finite}
use Rattle.std.specs.Float.Ieee.{add, sub, mul, div, lt, le, eq}
use Rattle.float.specs.Constants.{nought, one}
use Rattle.float.specs.Leaves.{abs_of}
use Rattle.float.specs.Root.{root}

-- the rounded operations of f64
infixl 6 ◌⊕◌
abbrev pub ◌⊕◌ : Float → Float → Float
x ⊕ y = add binary64 x y

infixl 6 ◌⊖◌
abbrev pub ◌⊖◌ : Float → Float → Float
x ⊖ y = sub binary64 x y

infixl 7 ◌⊗◌
abbrev pub ◌⊗◌ : Float → Float → Float
x ⊗ y = mul binary64 x y

infixl 7 ◌⊘◌
abbrev pub ◌⊘◌ : Float → Float → Float
x ⊘ y = div binary64 x y

abbrev pub √ : Float → Float
√ x = root binary64 x

-- ---- get_w_sigmoid
abbrev pub plain_width : Float → Float → Float
plain_width x m = (x ⊗ x) ⊗ ((one ⊘ (m ⊗ m)) ⊖ one)

-- not finite, or zero
abbrev pub spoilt : Float → Bool
spoilt width = not (float_is_finite width) || eq width nought

-- the test for a width lost to overflow or underflow, where x is finite and the size lies between 0 and 1
abbrev pub width_lost : Float → Float → Float → Bool
width_lost width x size = spoilt width && (float_is_finite x && (lt nought size && lt size one))

abbrev pub root_width : Float → Float → Float
root_width x size = abs_of x ⊗ √ ((one ⊖ size) ⊗ (one ⊕ size)) ⊘ size

unfoldable pub get_w_sigmoid : Float → Float → Float
get_w_sigmoid x m =
    cond (width_lost (plain_width x m) x (abs_of m)) (root_width x (abs_of m) ⊗ root_width x (abs_of m)) (plain_width x m)

-- ---- inv_price_sigmoid
abbrev pub denominator : Float → Float
denominator m = one ⊖ m ⊗ m

-- the test for a quotient that overflowed, where w is finite and not below 0, and |m| below 1
abbrev pub overflown : Float → Float → Float → Bool
overflown quotient w m = float_is_infinite quotient && (float_is_finite w && (le nought w && lt (abs_of m) one))

unfoldable pub inv_price_sigmoid : Float → Float → Float → Float
inv_price_sigmoid f w m =
    cond (overflown (w ⊘ denominator m) w m) (f ⊖ m ⊗ (√ w ⊘ √ (denominator m))) (f ⊖ m ⊗ √ (w ⊘ denominator m))
