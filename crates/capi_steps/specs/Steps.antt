-- What the C functions of a step answer, and what they leave in the lent places. Definitions only.
use Rattle.std.specs.Prelude.{◌≡◌, List, ℕ, length, Float, Result, Ok, Err}
use Rattle.refusal.specs.Numbers.{status_of, unless_refused}
use Rattle.refusal.specs.Rules.{first_refusal, room_rules}
use Rattle.refusal.specs.declared.Refusal.{Refusal}
use Rattle.step.specs.StepNumbers.{admitted_of, numbers_of}
use Rattle.step.specs.declared.Step.{Step}
use Rattle.capi_states.specs.States.{with_front}

-- five places are needed, whether the step is admitted or not; tested after what the step turns away
abbrev pub roomed : Result Step Refusal → List Float → Result Step Refusal
roomed (Ok s) numbers = unless_refused (first_refusal (room_rules (length numbers) 5)) s
roomed (Err e) numbers = Err e

-- what stands in the lent places after: a refusal leaves them as they were
abbrev pub admitted_after : Result Step Refusal → ℕ → ℕ
admitted_after (Ok s) before = admitted_of s
admitted_after (Err e) before = before

abbrev pub numbers_after : Result Step Refusal → List Float → List Float
numbers_after (Ok s) before = with_front before (numbers_of s)
numbers_after (Err e) before = before

abbrev pub StepLeaves : Result Step Refusal → ℕ → List Float → ℕ → ℕ → List Float → Type 0
StepLeaves r admitted numbers answer admitted' numbers' = (answer ≡ status_of r) × (admitted' ≡ admitted_after r admitted) × (numbers' ≡ numbers_after r numbers)
