use mathlib.Core.Path.{◌≡◌}
use Prim.Native.Nat.{min}
use lib.Ieee.{of_bits}
use native.Mathlib.Omega.{arith}
use Rattle.fit_state.specs.Search.{begun, zeros}
use Rattle.fit_state.proofs.Searching.{all_of}
use Rattle.fit_state.proofs.Sums.{first_squares}
use Rattle.fit_state.proofs.M2N.begun.Goals as goal

pub returns : goal.returns
unfolding begun of_bits
returns c =
    let kept : c.default.result ≡ zeros = all_of _ _ c.default.ensures in
    rw (kept, c.sum_of_squares.ensures, c.min.ensures, first_squares c.args.self.moments (min c.args.self.len 16) (omega arith))
