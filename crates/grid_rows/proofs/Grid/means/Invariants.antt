use Rattle.std.proofs.Common.{◌≡◌, ℕ, ◌+◌, ◌<◌, suc, length, get_or}
use lib.Ieee.{nan}
use Rattle.grid_rows.specs.Rows.{mean_of}
use Rattle.grid_rows.proofs.Grid.means.Given as goal

abbrev pub invariant-loop-j : goal.invariant-loop-j
invariant-loop-j l = (length l.u ≡ 256) × ((i : ℕ) → i < l.j → get_or l.u i nan ≡ mean_of l.self.m l.self.deviation (suc (l.from + i)))
