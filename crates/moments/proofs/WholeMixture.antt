-- Where every number met is whole and below 2 ^ 53, the moments of a mixture are exact: the law of whole programs, whose other hypotheses the program's text meets, computed.
use mathlib.Core.List.{List, []}
use lib.Dec.{T}
use lib.Ieee.{Float}
use Rattle.float.specs.Power.{power_of}
use Rattle.formula.specs.Exact.{rootables_by, whole_constants_by}
use Rattle.formula.specs.Whole.{is_whole}
use Rattle.formula.proofs.WholePrograms.{program_exact}
use Rattle.moments.specs.ExactMixture.{MixtureExact}
use Rattle.moments.specs.Mixture.{mixture}

constants : T (whole_constants_by 0 mixture)
unfolding whole_constants_by mixture is_whole power_of
constants = tt

-- it has no root
roots : (g : List Float) → T (rootables_by mixture g [])
unfolding rootables_by mixture power_of
roots g = tt

pub mixture_exact : MixtureExact
mixture_exact g w = program_exact g mixture [] tt constants w (roots g)
