-- What turns a call away, as data: rules in the order of testing, one a line, each a test and why it turns away. Definitions and statements only.
use Rattle.std.specs.Prelude.{◌≡◌, Bool, true, false, cond, ℕ, ltb, List, [], ◌∷◌, ◌⊎◌, Ok, Err}
use Rattle.refusal.specs.Numbers.{Checked}
use Rattle.refusal.specs.declared.Refusal.{Refusal}
use Rattle.refusal.specs.declared.Refusal.TheVariants.{TooLittleRoom}

infix 68 ◌⇒◌
-- a test, and why it turns away where it holds
pub data Rule : Type 0 where
  ◌⇒◌ : Bool → Refusal → Rule

-- the first rule whose test holds turns away
abbrev pub first_refusal : List Rule → Checked
first_refusal [] = Ok tt
first_refusal (test ⇒ refusal ∷ rules) = cond test (Err refusal) (first_refusal rules)

-- less room than is needed
abbrev pub room_rules : ℕ → ℕ → List Rule
room_rules room needed = ltb room needed ⇒ TooLittleRoom ∷ []

-- no test holds
abbrev pub NoneHolds : List Rule → Type 0
NoneHolds [] = Unit {0}
NoneHolds (test ⇒ refusal ∷ rules) = (test ≡ false) × NoneHolds rules

-- a rule of this refusal holds, and none before it
abbrev pub FirstHolds : Refusal → List Rule → Type 0
FirstHolds e [] = ⊥
FirstHolds e (test ⇒ refusal ∷ rules) = ((test ≡ true) × (refusal ≡ e)) ⊎ ((test ≡ false) × FirstHolds e rules)

-- ---- the laws
-- nothing is turned away exactly where no test holds
abbrev pub AcceptedIsNone : Type 0
AcceptedIsNone = (rules : List Rule) → first_refusal rules ≡ Ok tt → NoneHolds rules

abbrev pub NoneIsAccepted : Type 0
NoneIsAccepted = (rules : List Rule) → NoneHolds rules → first_refusal rules ≡ Ok tt

-- what is turned away is turned away by a rule of the list, the first that holds
abbrev pub RefusedByFirst : Type 0
RefusedByFirst = (rules : List Rule) (e : Refusal) → first_refusal rules ≡ Err e → FirstHolds e rules

abbrev pub FirstRefuses : Type 0
FirstRefuses = (rules : List Rule) (e : Refusal) → FirstHolds e rules → first_refusal rules ≡ Err e
