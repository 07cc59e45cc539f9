-- The loop of `comb`. Assumes nothing.
use mathlib.Core.Path.{◌≡◌, sym, ap, ◌∙◌}
use Prim.Native.Nat.{ℕ, ◌+◌, ◌-◌, ◌≤◌, min}
use native.Mathlib.Numerals.{add-one}
use lib.IntN.{pos}
use lib.Ieee.{Float, binary64, mul, div, of_int}
use borrow.Author.Tests.{le-ltb}
use Rattle.moments.specs.Comb.{falling, rising, choose}

pub falling_more : (n i : ℕ) (x : Float) → x ≡ falling n i → mul binary64 x (of_int binary64 (pos (n - i))) ≡ falling n (i + 1)
unfolding falling
falling_more n i x e = rw (add-one i) (ap (λ (y : Float). mul binary64 y (of_int binary64 (pos (n - i)))) e)

pub rising_more : (i : ℕ) (x : Float) → x ≡ rising i → mul binary64 x (of_int binary64 (pos (i + 1))) ≡ rising (i + 1)
unfolding rising
rising_more i x e = ap (λ (y : Float). mul binary64 y (of_int binary64 (pos (i + 1)))) e ∙ ap (λ (k : ℕ). rising k) (sym (add-one i))

pub chosen : (n k l i : ℕ) (x y : Float) → k ≤ n → l ≡ min k (n - k) → i ≡ l → x ≡ falling n i → y ≡ rising i → div binary64 x y ≡ choose n k
unfolding choose
chosen n k l i x y h e f p q = rw (le-ltb n k h) (ap (λ (z : Float). div binary64 z y) (p ∙ ap (falling n) (f ∙ e)) ∙ ap (div binary64 (falling n (min k (n - k)))) (q ∙ ap rising (f ∙ e)))
