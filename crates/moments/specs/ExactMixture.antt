-- The statement that the moments of a mixture are exact where every number met is whole. Definitions only; `proofs/WholeMixture.antt` proves `MixtureExact`.
use Rattle.std.specs.Prelude.{List, [], T, Float}
use Rattle.formula.specs.Exact.{ExactRun}
use Rattle.formula.specs.Met.{met_by, all_whole}
use Rattle.moments.specs.Mixture.{mixture}

-- nothing is asked of roots, since the program has none
abbrev pub MixtureExact : Type 0
MixtureExact = (g : List Float) → T (all_whole (met_by mixture g [])) → ExactRun g [] mixture
