-- The value of a power is the power of the value, since `eval` keeps products. Assumes nothing.
use mathlib.Core.Path.{◌≡◌, refl}
use mathlib.Core.List.{List}
use Prim.Native.Nat.{ℕ}
use lib.Ieee.{Float, binary64, mul}
use Rattle.float.specs.Constants.{one}
use Rattle.float.specs.Power.{power}
use Rattle.float.proofs.Powers.{power_map}
use Rattle.formula.specs.Formula.{Expr, const, ◌⊗◌, ◌↑◌, eval}

pub eval_power : (g v : List Float) (a : Expr) (n : ℕ) → eval g v (a ↑ n) ≡ power (eval g v a) n
unfolding eval
eval_power g v a n = power_map (eval g v) ◌⊗◌ (mul binary64) (λ x y. refl) (const one) a n
