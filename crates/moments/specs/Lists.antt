-- Moments and parameters as lists of five numbers, in the order of their fields. Definitions only.
use Rattle.std.specs.Prelude.{List, [], ◌∷◌, Float, get_or}
use Rattle.std.specs.Float.{nan}
use Rattle.moments.specs.declared.Params.{Params}
use Rattle.moments.specs.declared.Five.{Five}

abbrev pub listed : Five → List Float
listed m = m.m_1 ∷ m.m_2 ∷ m.m_3 ∷ m.m_4 ∷ m.m_5 ∷ []

-- the first five numbers of a list
abbrev pub five_of : List Float → Five
five_of l = record { m_1 = get_or l 0 nan; m_2 = get_or l 1 nan; m_3 = get_or l 2 nan; m_4 = get_or l 3 nan; m_5 = get_or l 4 nan }

abbrev pub params_listed : Params → List Float
params_listed p = p.mu_1 ∷ p.mu_2 ∷ p.sigma_1 ∷ p.sigma_2 ∷ p.p_1 ∷ []

abbrev pub params_of : List Float → Params
params_of l = record { mu_1 = get_or l 0 nan; mu_2 = get_or l 1 nan; sigma_1 = get_or l 2 nan; sigma_2 = get_or l 3 nan; p_1 = get_or l 4 nan }
