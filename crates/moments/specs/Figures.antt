-- Parameters and the numbers of figures, written short. Definitions only.
use Rattle.std.specs.Prelude.{false, ℕ, Float}
use Rattle.std.specs.Float.{binary64}
use Rattle.std.specs.Float.Ieee.{round}
use Rattle.moments.specs.declared.Params.{Params}

-- n / 2
abbrev pub half : ℕ → Float
half n = round binary64 false n 2

-- the parameters of five numbers
abbrev pub params : Float → Float → Float → Float → Float → Params
params u₁ u₂ s₁ s₂ p = record { mu_1 = u₁; mu_2 = u₂; sigma_1 = s₁; sigma_2 = s₂; p_1 = p }
