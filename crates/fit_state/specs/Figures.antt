-- A fit state for figures and examples, said once; one that differs is `record (example_state m) { .. }`. Definitions only.
use Rattle.std.specs.Prelude.{[], ◌++◌, false, replicate}
use Rattle.std.specs.Float.{nan, binary64}
use Rattle.std.specs.Float.Ieee.{round}
use Rattle.float.specs.Constants.{nought}
use Rattle.moments.specs.Lists.{five_of, listed, params_of}
use Rattle.moments.specs.declared.Five.{Five}
use Rattle.float.specs.Leaves.{as_f64}
use Rattle.fit_state.specs.State.{state_with}
use Rattle.fit_state.specs.declared.Fit.{Fit}
use Rattle.fit_state.specs.declared.M2N.{M2N}

abbrev fit_of_nans : Fit
fit_of_nans = record { new_moments = five_of []; parameters = params_of []; error = nan }

-- five target moments, zeros behind them, and nothing fitted yet
abbrev pub example_state : Five → M2N
example_state m = record (state_with fit_of_nans) { moments = listed m ++ replicate 11 nought; len = 5; epsilon = round binary64 false 1 4; factor = as_f64 5; n_runs = 1; variant = 1; max_iter = 100 }
