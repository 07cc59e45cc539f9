-- Numbers put into a front that has room for all of them. Assumes nothing.
use Prim.Native.Nat.{◌≤◌}
use mathlib.Core.Path.{◌≡◌, sym}
use mathlib.Core.List.{List, ◌++◌}
use lib.Ieee.{Float}
use lib.ListN.{length, drop}
use lib.Seq.{take_all}
use Rattle.capi_states.specs.States.{with_front}
use Rattle.fit_state.proofs.Places.{row_within}
use Rattle.fit_state.specs.Rows.{six, with_row_in}
use Rattle.fit_state.specs.declared.row.FitResultRow.{FitResultRow}

front_whole : (l numbers : List Float) → length numbers ≤ length l → with_front l numbers ≡ numbers ++ drop (length numbers) l
front_whole l numbers h = rw (take_all (length l) numbers h)

pub front_row : (l : List Float) (r : FitResultRow) → 6 ≤ length l → with_row_in l 0 r ≡ with_front l (six r)
front_row l r h = rw (row_within l 0 r h) (sym (front_whole l (six r) h))
