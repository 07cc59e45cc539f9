-- What the counts answer, and what the lent lists hold after it: document 01's refusals in its order, which are the budget's too. Definitions only.
use Rattle.std.specs.Prelude.{ℕ, min, ◌≡◌, not, ◌&&◌, Result, List, [], ◌∷◌, ◌++◌, eqb, ltb, length, drop, ℤ, Float}
use Rattle.refusal.specs.Numbers.{Checked, if_accepted, unless_refused}
use Rattle.refusal.specs.Rules.{Rule, ◌⇒◌, first_refusal}
use Rattle.refusal.specs.declared.Refusal.{Refusal}
use Rattle.refusal.specs.declared.Refusal.TheVariants.{TooLittleRoom, TooLarge, UnequalLengths}
use Rattle.bet_sizing.specs.declared.counts.Side.TheVariants.{Long, Short}
use Rattle.bet_sizing.specs.Counts.{concurrent_counts}

-- its entry "Counts, budget", where room is the length of the shortest result list
abbrev pub spans_rules : ℕ → ℕ → ℕ → ℕ → List Rule
spans_rules starts ends sides room =
    not (eqb ends starts && eqb sides starts) ⇒ UnequalLengths
    ∷ ltb 16384 starts ⇒ TooLarge
    ∷ ltb room starts ⇒ TooLittleRoom
    ∷ []

abbrev pub counts_refusal : List ℤ → List ℤ → List Float → List Float → List Float → Checked
counts_refusal ss es ds long short = first_refusal (spans_rules (length ss) (length es) (length ds) (min (length long) (length short)))

-- get_concurrent_sides: its answer, and the two lent lists before and after it: new places in front, and past them what was there
pub record ConcurrentSides (ss es : List ℤ) (ds long long' short short' : List Float) (answer : Result ℕ Refusal) : Type 0 where
  pub answered : answer ≡ unless_refused (counts_refusal ss es ds long short) (length ss)
  pub longs : long' ≡ if_accepted (counts_refusal ss es ds long short) (concurrent_counts Long ss es ds ++ drop (length ss) long) long
  pub shorts : short' ≡ if_accepted (counts_refusal ss es ds long short) (concurrent_counts Short ss es ds ++ drop (length ss) short) short
