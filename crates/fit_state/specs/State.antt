-- The state of a fit, the part of it that a walk changes, and what a call leaves of it. Definitions only.
use Rattle.std.specs.Prelude.{replicate, Ok, Err}
use Rattle.float.specs.Constants.{nought}
use Rattle.refusal.specs.Numbers.{Checked}
use Rattle.fit_state.specs.declared.After.{After}
use Rattle.fit_state.specs.declared.Fit.{Fit}
use Rattle.fit_state.specs.declared.M2N.{M2N}

-- the fit in a state
abbrev pub fit_part : M2N → Fit
fit_part m = record { new_moments = m.new_moments; parameters = m.parameters; error = m.error }

-- the state with another fit in it
abbrev pub with_fit : M2N → Fit → M2N
with_fit m f = record m { new_moments = f.new_moments; parameters = f.parameters; error = f.error }

-- a fit, and zeros for all else
abbrev pub state_with : Fit → M2N
state_with f = record {
  moments = replicate 16 nought;
  len = 0;
  epsilon = nought;
  factor = nought;
  n_runs = 0;
  variant = 0;
  max_iter = 0;
  new_moments = f.new_moments;
  parameters = f.parameters;
  error = f.error;
}

module _ {A : Type 0} where
  -- what a call leaves: another state and its answer, or the state as it was and why it is refused
  abbrev pub answered : Checked → M2N → M2N → A → After A
  answered (Ok u) m new x = record { state = new; outcome = Ok x }
  answered (Err e) m new x = record { state = m; outcome = Err e }
