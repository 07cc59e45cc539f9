-- `scale` adds up, and undoes itself. Assumes nothing.
use mathlib.Core.Path.{◌≡◌, refl, ap, ◌∙◌}
use Prim.Native.Nat.{ℕ, zero, suc, ◌<◌}
use native.Mathlib.Nat.{lt_irrefl}
use mathlib.Core.Bool.{Bool}
use lib.IntN.{ℤ, pos, neg_ℤ, ◌+ℤ◌, +ℤ_idr, +ℤ_assoc, +ℤ_invr}
use lib.Ieee.{Float, nan, inf, fin}
use Rattle.float.specs.Scale.{scale}

pub scale_pos : (t : ℤ) (s : Bool) (m : ℕ) (e : ℤ) → 0 < m → scale t (fin s m e) ≡ fin s m (e +ℤ t)
scale_pos t s zero e h = absurd (lt_irrefl 0 h)
scale_pos t s (suc m) e h = refl

pub scale_scale : (t u : ℤ) (x : Float) → scale u (scale t x) ≡ scale (t +ℤ u) x
scale_scale t u nan = refl
scale_scale t u (inf s) = refl
scale_scale t u (fin s zero e) = refl
scale_scale t u (fin s (suc m) e) = ap (fin s (suc m)) (+ℤ_assoc e t u)

pub scale_none : (x : Float) → scale (pos 0) x ≡ x
scale_none nan = refl
scale_none (inf s) = refl
scale_none (fin s zero e) = refl
scale_none (fin s (suc m) e) = ap (fin s (suc m)) (+ℤ_idr e)

pub scale_back : (t : ℤ) (x : Float) → scale (neg_ℤ t) (scale t x) ≡ x
scale_back t x = scale_scale t (neg_ℤ t) x ∙ ap (λ (u : ℤ). scale u x) (+ℤ_invr t) ∙ scale_none x
