-- A step as numbers: the five that document 01 has, and the one that C is told. Definitions only.
use Rattle.std.specs.Prelude.{ℕ, List, [], Float}
use Rattle.moments.specs.Lists.{params_listed}
use Rattle.step.specs.declared.Step.{Step}
use Rattle.step.specs.declared.Step.TheVariants.{Admitted, Inadmissible}

-- the five numbers, mu_1, mu_2, sigma_1, sigma_2 and p_1; an inadmissible step has none
abbrev pub numbers_of : Step → List Float
numbers_of (Admitted r) = params_listed r
numbers_of Inadmissible = []

-- 1 for an admitted step, 0 for an inadmissible one, as C is told (include/woddirme.h)
abbrev pub admitted_of : Step → ℕ
admitted_of (Admitted r) = 1
admitted_of Inadmissible = 0
