-- The first numbers of a list, by their place. Assumes nothing.
use mathlib.Core.Path.{◌≡◌, refl}
use mathlib.Core.List.{List, [], ◌∷◌}
use Prim.Native.Nat.{ℕ, zero, suc, ◌+◌, ◌<◌}
use native.Mathlib.Omega.{arith}
use lib.Dec.{lit<}
use lib.ListN.{get_or, take, drop}
use lib.Ieee.{Float, nan}
use Rattle.float.specs.Constants.{nought}
use Rattle.moments.specs.Lists.{five_of, params_of}
use Rattle.std.proofs.lemmas.List.{get_or-replicate, get_or-take, get_or-drop}
use Rattle.capi_states.specs.States.{at, first}

pub first_at : (n : ℕ) (l : List Float) (i : ℕ) (d : Float) → i < n → get_or (first n l) i d ≡ at l i
first_at zero l i d h = absurd (omega arith)
first_at (suc n) [] i d h = get_or-replicate (suc n) i nought d h
first_at (suc n) (x ∷ l) zero d h = refl
first_at (suc n) (x ∷ l) (suc i) d h = first_at n l i d (omega arith)

-- of twelve numbers, the first five and the last five
pub params_first : (l : List Float) → params_of (first 5 (first 12 l)) ≡ record { mu_1 = at l 0; mu_2 = at l 1; sigma_1 = at l 2; sigma_2 = at l 3; p_1 = at l 4 }
params_first l =
    let n : (i : ℕ) → i < 5 → get_or (first 5 (first 12 l)) i nan ≡ at l i =
    λ i h. rw (first_at 5 (first 12 l) i nan h) (first_at 12 l i nought (omega arith)) in
    rw (n 0 (lit< tt), n 1 (lit< tt), n 2 (lit< tt), n 3 (lit< tt), n 4 (lit< tt))

pub five_last : (l : List Float) → five_of (first 5 (take 5 (drop 7 (first 12 l)))) ≡ record { m_1 = at l 7; m_2 = at l 8; m_3 = at l 9; m_4 = at l 10; m_5 = at l 11 }
five_last l =
    let n : (i : ℕ) → i < 5 → get_or (first 5 (take 5 (drop 7 (first 12 l)))) i nan ≡ at l (7 + i) =
    λ i h. rw (first_at 5 (take 5 (drop 7 (first 12 l))) i nan h, get_or-take 5 (drop 7 (first 12 l)) i nought h, get_or-drop 7 (first 12 l) i nought) (first_at 12 l (7 + i) nought (omega arith)) in
    rw (n 0 (lit< tt), n 1 (lit< tt), n 2 (lit< tt), n 3 (lit< tt), n 4 (lit< tt))
