-- What an answer that stands behind a check says of the check. Assumes nothing.
use mathlib.Core.Path.{◌≡◌, refl}
use Rattle.std.specs.Prelude.{Ok, Err}
use Rattle.refusal.specs.Numbers.{Checked, unless_refused}
use Rattle.refusal.specs.declared.Refusal.{Refusal}

module _ {A : Type 0} where
  pub accepted : (r : Checked) (x y : A) → Ok y ≡ unless_refused r x → (Ok tt ≡ r) × (y ≡ x)
  accepted (Ok u) x y h = (refl, cc)
  accepted (Err e) x y h = (cc, cc)

  pub refused : (r : Checked) (x : A) (e : Refusal) → Err e ≡ unless_refused r x → Err e ≡ r
  refused (Ok u) x e h = cc
  refused (Err f) x e h = cc
