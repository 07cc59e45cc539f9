-- What check_len, centered_moment and raw_moment answer: document 01's refusals in its order, and otherwise the sums. Definitions only.
use Rattle.std.specs.Prelude.{List, [], ◌∷◌, ◌++◌, ℕ, ltb, max, length, drop, Float, Result}
use Rattle.refusal.specs.Numbers.{if_accepted, unless_refused}
use Rattle.refusal.specs.Rules.{Rule, ◌⇒◌, first_refusal}
use Rattle.refusal.specs.declared.Refusal.{Refusal}
use Rattle.refusal.specs.declared.Refusal.TheVariants.{TooFewMoments, TooManyMoments, TooLittleRoom, OrderTooHigh}
use Rattle.moments.specs.Orders.{centred_sum, raw_value, firsts}

-- the larger of n and 1
abbrev pub at_least_one : ℕ → ℕ
at_least_one n = max n 1

-- document 01's entry "Step", for a step that reads so many moments
abbrev pub length_rules : ℕ → ℕ → List Rule
length_rules len needed =
    ltb len needed ⇒ TooFewMoments
    ∷ ltb 16 len ⇒ TooManyMoments
    ∷ []

-- its entry "Centred moment"
abbrev pub centred_rules : ℕ → ℕ → List Rule
centred_rules len order =
    ltb 16 order ⇒ OrderTooHigh
    ∷ ltb len (at_least_one order) ⇒ TooFewMoments
    ∷ ltb 16 len ⇒ TooManyMoments
    ∷ []

-- its entry "Raw moments"
abbrev pub raw_rules : ℕ → ℕ → List Rule
raw_rules len room =
    ltb 16 len ⇒ TooManyMoments
    ∷ ltb room (at_least_one len) ⇒ TooLittleRoom
    ∷ []

unfoldable pub centred_moment : List Float → ℕ → Result Float Refusal
unfolding centred_sum
centred_moment m n = unless_refused (first_refusal (centred_rules (length m) n)) (centred_sum m n)

-- what raw_moment answers, and what the lent list holds after it: places past the last written do not change, and a refusal changes none
unfoldable pub raw_moment : List Float → List Float → Result ℕ Refusal
raw_moment c out = unless_refused (first_refusal (raw_rules (length c) (length out))) (at_least_one (length c))

unfoldable pub raw_out : List Float → Float → List Float → List Float
unfolding raw_value
raw_out c mean out =
    if_accepted (first_refusal (raw_rules (length c) (length out))) (firsts (raw_value c mean) (at_least_one (length c)) ++ drop (at_least_one (length c)) out) out
