-- Document 01's starred figures as one table, in its order and under its words, and the statement that every one of them holds.
-- A row's left side is the definition that the contract of the function names, on the figure's arguments. So a row is a fact about
-- the code: `iter_4` ensures r ≡ iter4 .., and answers what stands on the right of the rows of iter4.
use Rattle.std.specs.Prelude.{◌≡◌, refl, true, false, List, [], ◌∷◌, ℕ, ◌+◌, ◌*◌, Float, replicate, Ok, Result}
use Rattle.std.specs.Float.{nan, inf, binary64}
use Rattle.std.specs.Float.Ieee.{round, of_bits}
use Rattle.moments.specs.Mixture.{get_moments}
use Rattle.moments.specs.Refusals.{centred_moment, raw_moment, raw_out}
use Rattle.moments.specs.declared.Five.{Five}
use Rattle.moments.specs.declared.Params.{Params}
use Rattle.prices.specs.Prices.{get_w_sigmoid, inv_price_sigmoid}
use Rattle.limit_price.specs.LimitPrice.{limit_price_sigmoid}
use Rattle.refusal.specs.declared.Refusal.{Refusal}
use Rattle.iterate.specs.Refusals.{iter4, iter5}
use Rattle.step.specs.declared.Step.TheVariants.{Admitted, Inadmissible}

-- ---- how the rows are written
-- 4 · 5 is the f64 4.5: the nearest to a whole number and tenths
infix 90 ◌·◌
abbrev pub ◌·◌ : ℕ → ℕ → Float
n · t = round binary64 false (10 * n + t) 10

abbrev pub minus_one : Float
minus_one = round binary64 true 1 1

known_bits : (0 · 5 ∷ 0 · 9 ∷ 4 · 5 ∷ 13312 · 0 ∷ minus_one ∷ [])
    ≡ (of_bits binary64 0x3fe0000000000000 ∷ of_bits binary64 0x3feccccccccccccd ∷ of_bits binary64 0x4012000000000000 ∷ of_bits binary64 0x40ca000000000000 ∷ of_bits binary64 0xbff0000000000000 ∷ [])
unfolding round of_bits
known_bits = refl

-- the figures on moments and parameters are five numbers: as parameters (mu_1, mu_2, sigma_1, sigma_2, p_1), as moments, as a list
abbrev pub FiveNumbers : Type 0
FiveNumbers = Float × Float × Float × Float × Float

abbrev pub params : FiveNumbers → Params
params (u₁, u₂, s₁, s₂, p) = record { mu_1 = u₁; mu_2 = u₂; sigma_1 = s₁; sigma_2 = s₂; p_1 = p }

abbrev pub five : FiveNumbers → Five
five (a, b, c, d, e) = record { m_1 = a; m_2 = b; m_3 = c; m_4 = d; m_5 = e }

abbrev pub listed : FiveNumbers → List Float
listed (a, b, c, d, e) = a ∷ b ∷ c ∷ d ∷ e ∷ []

-- what is computed, and what document 01 says that it is
infix 68 ◌⇒◌
pub data Figure : Type 1 where
  ◌⇒◌ : {A : Type 0} → A → A → Figure

-- every row is an equation that holds
abbrev pub Hold : List Figure → Type 0
Hold [] = Unit {0}
Hold ((a ⇒ b) ∷ t) = (a ≡ b) × Hold t

abbrev pub M : FiveNumbers
M = (1 · 0, 4 · 5, 16 · 0, 81 · 5, 416 · 0)

abbrev pub two_five : List Float
two_five = listed (2 · 0, 5 · 0, 14 · 0, 41 · 0, 122 · 0)

-- a limit price with forecast 100, width 3, limit 2, from 0
abbrev pub limit_price_to : Float → Result Float Refusal
limit_price_to t = limit_price_sigmoid t (0 · 0) (100 · 0) (3 · 0) (2 · 0)

-- ---- the table
abbrev pub table : List Figure
table =
    -- `get_moments` of (1, 3, 0, 0, 0.5): 2, 5, 14, 41, 122.
    get_moments (params (1 · 0, 3 · 0, 0 · 0, 0 · 0, 0 · 5)) ⇒ five (2 · 0, 5 · 0, 14 · 0, 41 · 0, 122 · 0)
    -- Of (0, 2, 1, 2, 0.5): M = 1, 4.5, 16, 81.5, 416.
    ∷ get_moments (params (0 · 0, 2 · 0, 1 · 0, 2 · 0, 0 · 5)) ⇒ five M
    -- Centred 2, 3, 4, 5 of (2, 5, 14, 41, 122): 1, 0, 1, 0.
    ∷ centred_moment two_five 2 ⇒ Ok (1 · 0)
    ∷ centred_moment two_five 3 ⇒ Ok (0 · 0)
    ∷ centred_moment two_five 4 ⇒ Ok (1 · 0)
    ∷ centred_moment two_five 5 ⇒ Ok (0 · 0)
    -- `raw_moment` of (0, 1, 0, 1, 0), mean 2: 2, 5, 14, 41, 122. Of none, mean 2: 2. (How many it writes, and the lent list after it.)
    ∷ raw_moment (listed (0 · 0, 1 · 0, 0 · 0, 1 · 0, 0 · 0)) (replicate 5 nan) ⇒ Ok 5
    ∷ raw_out (listed (0 · 0, 1 · 0, 0 · 0, 1 · 0, 0 · 0)) (2 · 0) (replicate 5 nan) ⇒ two_five
    ∷ raw_moment [] (nan ∷ []) ⇒ Ok 1
    ∷ raw_out [] (2 · 0) (nan ∷ []) ⇒ (2 · 0 ∷ [])
    -- `iter_4` and `iter_5` on M from mean 2, weight 0.5: (0, 2, 1, 2, 0.5).
    ∷ iter4 (listed M) (2 · 0) (0 · 5) ⇒ Ok (Admitted (params (0 · 0, 2 · 0, 1 · 0, 2 · 0, 0 · 5)))
    ∷ iter5 (listed M) (2 · 0) (0 · 5) ⇒ Ok (Admitted (params (0 · 0, 2 · 0, 1 · 0, 2 · 0, 0 · 5)))
    -- Both on (2, 18, 128, 1304, 13312) from mean 4, weight 0.5: (0, 4, 2, 4, 0.5).
    ∷ iter4 (listed (2 · 0, 18 · 0, 128 · 0, 1304 · 0, 13312 · 0)) (4 · 0) (0 · 5) ⇒ Ok (Admitted (params (0 · 0, 4 · 0, 2 · 0, 4 · 0, 0 · 5)))
    ∷ iter5 (listed (2 · 0, 18 · 0, 128 · 0, 1304 · 0, 13312 · 0)) (4 · 0) (0 · 5) ⇒ Ok (Admitted (params (0 · 0, 4 · 0, 2 · 0, 4 · 0, 0 · 5)))
    -- Both on (0, 1, 0, 3, 0) from mean 0, weight 0.5: inadmissible.
    ∷ iter4 (listed (0 · 0, 1 · 0, 0 · 0, 3 · 0, 0 · 0)) (0 · 0) (0 · 5) ⇒ Ok Inadmissible
    ∷ iter5 (listed (0 · 0, 1 · 0, 0 · 0, 3 · 0, 0 · 0)) (0 · 0) (0 · 5) ⇒ Ok Inadmissible
    -- `get_w_sigmoid` of (10, 0.5): 300; of (10, 1): 0.
    ∷ get_w_sigmoid (10 · 0) (0 · 5) ⇒ 300 · 0
    ∷ get_w_sigmoid (10 · 0) (1 · 0) ⇒ 0 · 0
    -- `inv_price_sigmoid` of (100, 3, 0.5): 99.
    ∷ inv_price_sigmoid (100 · 0) (3 · 0) (0 · 5) ⇒ 99 · 0
    -- Limit price, forecast 100, width 3, limit 2, from 0 to 1: 99; to −1: 101; to 2: minus infinity; to 0.9: NaN, since lots are cut towards zero and none is walked.
    ∷ limit_price_to (1 · 0) ⇒ Ok (99 · 0)
    ∷ limit_price_to minus_one ⇒ Ok (101 · 0)
    ∷ limit_price_to (2 · 0) ⇒ Ok (inf true)
    ∷ limit_price_to (0 · 9) ⇒ Ok nan
    ∷ []

unfoldable pub Figures : Type 0
Figures = Hold table
