-- `Text::put` leaves the text as it is where there is no room (`Placing.antt`). Assumes nothing.
use mathlib.Core.Path.{refl}
use native.Mathlib.Omega.{arith}
use Rattle.text.proofs.Placing.{place_not}
use Rattle.text_write.proofs.Text.put.Goals as goal

pub returns-else-end-self : goal.returns-else-end-self
returns-else-end-self c = record { same = refl; placed = place_not _ _ _ (omega arith) }

pub returns : goal.returns
returns c = record { same = refl; placed = place_not _ _ _ (omega arith) }
