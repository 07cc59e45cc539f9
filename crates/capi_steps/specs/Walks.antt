-- What the C function of a walk answers, and what it leaves in the lent places. Definitions only.
use Rattle.std.specs.Prelude.{◌≡◌, List, ℕ, length, Float, Result, Ok, Err}
use Rattle.refusal.specs.Numbers.{first_of, status_of}
use Rattle.refusal.specs.Rules.{first_refusal, room_rules}
use Rattle.refusal.specs.declared.Refusal.{Refusal}
use Rattle.walk.specs.Reasons.{number_of}
use Rattle.walk.specs.Walk.{Walked, walk_of}
use Rattle.walk.specs.declared.Ended.{Ended}
use Rattle.fit_state.specs.declared.M2N.{M2N}
use Rattle.capi_states.specs.States.{state_of, with_state}

-- what stands in the lent places after: a refusal leaves them as they were
abbrev pub fit_after : Result Ended Refusal → M2N → List Float → List Float
fit_after (Ok w) m before = with_state before m
fit_after (Err e) m before = before

abbrev pub count_after : Result Ended Refusal → ℕ → ℕ
count_after (Ok w) before = w.count
count_after (Err e) before = before

abbrev pub reason_after : Result Ended Refusal → ℕ → ℕ
reason_after (Ok w) before = number_of w.reason
reason_after (Err e) before = before

abbrev pub WalkLeaves : Result Ended Refusal → M2N → List Float → ℕ → ℕ → ℕ → List Float → ℕ → ℕ → Type 0
WalkLeaves o m fit count reason answer fit' count' reason' = (answer ≡ status_of o) × (fit' ≡ fit_after o m fit) × (count' ≡ count_after o count) × (reason' ≡ reason_after o reason)

-- the walk that is asked for, and its outcome, refused where fewer than 12 numbers of a fit are lent
unfoldable pub walked : List Float → ℕ → Float → ℕ → Float → Float → List Float → Walked
walked moments variant factor max-iter mu-2 p_1 fit = walk_of (state_of moments variant factor max-iter 1 fit) mu-2 p_1

unfoldable pub outcome_of : List Float → ℕ → Float → ℕ → Float → Float → List Float → Result Ended Refusal
outcome_of moments variant factor max-iter mu-2 p_1 fit = first_of (first_refusal (room_rules (length fit) 12)) (walked moments variant factor max-iter mu-2 p_1 fit).outcome
