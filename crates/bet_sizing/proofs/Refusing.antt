-- What an answer that is no refusal says of the test behind it, and of the room. Assumes nothing.
use Prim.Native.Nat.{ℕ, ◌≤◌}
use mathlib.Core.Path.{◌≡◌, refl}
use native.Mathlib.Omega.{arith}
use Rattle.std.specs.Prelude.{Ok, Err}
use Rattle.std.proofs.lemmas.Bool.Decides.{nat_tests}
use borrow.Author.Tests.{ltb-false}
use Rattle.refusal.proofs.Rules.{none_holds}
use Rattle.refusal.specs.Numbers.{Checked, unless_refused}
use Rattle.refusal.specs.Rules.{first_refusal}
use Rattle.bet_sizing.specs.Refusals.{spans_rules}

pub accepted : (checked : Checked) (n m : ℕ) → unless_refused checked n ≡ Ok m → (checked ≡ Ok tt) × (n ≡ m)
accepted (Ok u) n m e = (refl, cc)
accepted (Err x) n m e = (cc, cc)

pub fits : (n ends sides room : ℕ) → first_refusal (spans_rules n ends sides room) ≡ Ok tt → n ≤ room
fits n ends sides room e = let none = none_holds (spans_rules n ends sides room) e in search ltb-false

-- nor is there one where there is room in another place
pub accepted_in : (n ends sides room other : ℕ) → first_refusal (spans_rules n ends sides room) ≡ Ok tt → n ≤ other → first_refusal (spans_rules n ends sides other) ≡ Ok tt
accepted_in n ends sides room other = grind (arith, nat_tests)
