-- The statement of demand 2's last sentence: "Where every number met is whole and below 2^53 in size, raw moments remade from their mean and their centred ones of order 1 upward
-- are the first ones, as numbers." Definitions only; `proofs/Remaking.antt` proves `RemadeAreFirst`.
use Rattle.std.specs.Prelude.{List, [], ◌∷◌, Bool, true, ◌&&◌, ℕ, zero, suc, ◌-◌, ◌≤◌, ◌<◌, T, length, get_or, Float}
use Rattle.std.specs.Float.{nan}
use Rattle.std.specs.Float.Ieee.{eq}
use Rattle.formula.specs.Met.{met, all_whole}
use Rattle.moments.specs.Orders.{numbered, centred, centred_sum, raw, raw_value, firsts}

-- a test passed by each number below n
unfoldable pub every : (ℕ → Bool) → ℕ → Bool
every p zero = true
every p (suc n) = p n && every p n

-- the centred moments of order 1 to the last: what centered_moment answers
unfoldable pub centreds : List Float → List Float
unfolding centred_sum
centreds m = firsts (λ i. centred_sum m (suc i)) (length m)

-- the raw moments remade from the mean and those: what raw_moment writes
unfoldable pub remade : List Float → List Float
unfolding centreds raw_value
remade m = firsts (raw_value (centreds m) (get_or m 0 nan)) (length m)

-- every number met, inputs and each rounded result, on the way there and back: in the centred moments of order 1 to the last, and in the raw ones of order 2 to the last
unfoldable pub whole_throughout : List Float → Bool
unfolding every met centred centreds raw
whole_throughout m =
    every (λ i. all_whole (met (numbered m) [] (centred (suc i)))) (length m)
    && every (λ i. all_whole (met (get_or m 0 nan ∷ numbered (centreds m)) [] (raw (suc (suc i))))) (length m - 1)

-- `eq` is equality as numbers: -0 equals +0
abbrev pub RemadeAreFirst : Type 0
RemadeAreFirst = (m : List Float) → length m ≤ 16 → T (whole_throughout m) → (i : ℕ) → i < length m → T (eq (get_or (remade m) i nan) (get_or m i nan))
