-- The fit state as flat numbers, as a C program holds it. Definitions only.
use Rattle.std.specs.Prelude.{List, ◌∷◌, ◌++◌, ℕ, length, get_or, take, drop, replicate, Float}
use Rattle.float.specs.Constants.{nought}
use Rattle.moments.specs.Lists.{listed, params_listed}
use Rattle.moments.specs.declared.Params.{Params}
use Rattle.fit_state.specs.State.{state_with}
use Rattle.fit_state.specs.declared.Fit.{Fit}
use Rattle.fit_state.specs.declared.M2N.{M2N}

-- number i of a list, 0 past its end
abbrev pub at : List Float → ℕ → Float
at l i = get_or l i nought

-- the first n numbers, zeros where there are fewer
abbrev pub first : ℕ → List Float → List Float
first n l = take n l ++ drop (length l) (replicate n nought)

-- a fit state from flat numbers: mu_1, mu_2, sigma_1, sigma_2, p_1, error, epsilon, then new_moments, five
abbrev pub fit_of : List Float → Fit
fit_of fit = record {
  new_moments = record { m_1 = at fit 7; m_2 = at fit 8; m_3 = at fit 9; m_4 = at fit 10; m_5 = at fit 11 };
  parameters = record { mu_1 = at fit 0; mu_2 = at fit 1; sigma_1 = at fit 2; sigma_2 = at fit 3; p_1 = at fit 4 };
  error = at fit 5;
}

abbrev pub state_of : List Float → ℕ → Float → ℕ → ℕ → List Float → M2N
state_of moments variant factor max-iter n-runs fit = record (state_with (fit_of fit)) {
  moments = first 16 moments;
  len = length moments;
  epsilon = at fit 6;
  factor = factor;
  n_runs = n-runs;
  variant = variant;
  max_iter = max-iter;
}

-- the flat numbers with others put into their front, as far as there are places
abbrev pub with_front : List Float → List Float → List Float
with_front l numbers = take (length l) numbers ++ drop (length numbers) l

abbrev pub with_params : List Float → Params → List Float
with_params l p = with_front l (params_listed p)

abbrev pub with_state : List Float → M2N → List Float
with_state l m = with_front l (params_listed m.parameters ++ m.error ∷ m.epsilon ∷ listed m.new_moments)
