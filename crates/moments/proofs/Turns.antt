-- The turns of the loops of centered_moment and raw_moment, and the lent list. Assumes nothing.
use mathlib.Core.Path.{◌≡◌, refl, sym, ap, ◌∙◌}
use mathlib.Core.List.{List, [], ◌∷◌, ◌++◌, append_assoc}
use Prim.Native.Nat.{ℕ, zero, suc, ◌+◌, ◌-◌, ◌<◌}
use native.Mathlib.Omega.{arith}
use native.Mathlib.Numerals.{add-one}
use lib.ListN.{length, get_or, set, drop, length-append}
use lib.Seq.{drop-cons, set_at, drop-set-lt}
use lib.Ieee.{Float, nan, binary64, add, mul}
use Rattle.float.specs.Constants.{nought}
use Rattle.float.specs.Power.{power}
use Rattle.formula.specs.Formula.{given, ◌↑◌, eval}
use Rattle.formula.proofs.Powers.{eval_power}
use Rattle.formula.specs.Whole.{sum_of}
use Rattle.moments.specs.Comb.{choose}
use Rattle.moments.specs.Constants.{minus_one}
use Rattle.moments.specs.Orders.{numbered, centred_term, centred_sum, raw_term, raw_sum, raw_value, firsts}
use Rattle.moments.specs.Refusals.{at_least_one, centred_moment, centred_rules, raw_moment, raw_out, raw_rules}
use Rattle.refusal.specs.Rules.{first_refusal}
use Rattle.std.specs.Prelude.{Ok}

-- ---- centred moments
pub centred_start : (m : List Float) (n : ℕ) → nought ≡ eval (numbered m) [] (sum_of (centred_term n) 0)
unfolding eval sum_of
centred_start m n = refl

pub centred_turn : (m : List Float) (n j : ℕ) (s x y z w : Float) → s ≡ eval (numbered m) [] (sum_of (centred_term n) j) → x ≡ power minus_one j → y ≡ choose n j → z ≡ power (get_or m 0 nan) j
    → w ≡ get_or (numbered m) (n - j) nan → add binary64 s (mul binary64 (mul binary64 (mul binary64 x y) z) w) ≡ eval (numbered m) [] (sum_of (centred_term n) (j + 1))
unfolding eval sum_of centred_term
centred_turn m n j s x y z w a b c d e =
    rw (add-one j)
    (let d' : z ≡ eval (numbered m) [] (given 1 ↑ j) = d ∙ sym (eval_power (numbered m) [] (given 1) j) in
    rw (a, b, c, d', e))

pub centred_done : (m : List Float) (n j : ℕ) (s : Float) → Ok tt ≡ first_refusal (centred_rules (length m) n) → j ≡ n + 1 → s ≡ eval (numbered m) [] (sum_of (centred_term n) j) → Ok s ≡ centred_moment m n
unfolding centred_moment centred_sum
centred_done m n j s h i p =
    rw (← h) (ap Ok (p ∙ ap (λ (x : ℕ). eval (numbered m) [] (sum_of (centred_term n) x)) (i ∙ add-one n)))

-- ---- raw moments
pub raw_start : (c : List Float) (mean : Float) (n : ℕ) → nought ≡ eval (mean ∷ numbered c) [] (sum_of (raw_term n) 0)
unfolding eval sum_of
raw_start c mean n = refl

pub raw_turn : (c : List Float) (mean : Float) (n k : ℕ) (s x y z : Float) → s ≡ eval (mean ∷ numbered c) [] (sum_of (raw_term n) k) → x ≡ choose n k → y ≡ get_or (numbered c) k nan → z ≡ power mean (n - k)
    → add binary64 s (mul binary64 (mul binary64 x y) z) ≡ eval (mean ∷ numbered c) [] (sum_of (raw_term n) (k + 1))
unfolding eval sum_of raw_term
raw_turn c mean n k s x y z a b d e =
    rw (add-one k)
    (let e' : z ≡ eval (mean ∷ numbered c) [] (given 0 ↑ (n - k)) = e ∙ sym (eval_power (mean ∷ numbered c) [] (given 0) (n - k)) in
    rw (a, b, d, e'))

pub raw_end : (c : List Float) (mean : Float) (n k : ℕ) (s : Float) → k ≡ n + 1 → s ≡ eval (mean ∷ numbered c) [] (sum_of (raw_term n) k) → s ≡ raw_sum c mean n
unfolding raw_sum
raw_end c mean n k s i p = p ∙ ap (λ (x : ℕ). eval (mean ∷ numbered c) [] (sum_of (raw_term n) x)) (i ∙ add-one n)

-- ---- the lent list
-- the first i places are written
pub filled : List Float → Float → List Float → ℕ → List Float
filled c mean out i = firsts (raw_value c mean) i ++ drop i out

pub length_firsts : (f : ℕ → Float) (n : ℕ) → length (firsts f n) ≡ n
length_firsts f zero = refl
length_firsts f (suc n) = length-append (firsts f n) (f n ∷ []) ∙ ap (λ (x : ℕ). x + 1) (length_firsts f n) ∙ add-one n

pub fill : (c : List Float) (mean : Float) (out : List Float) (i : ℕ) (x : Float) → i < length out → x ≡ raw_value c mean i → set (filled c mean out i) i x ≡ filled c mean out (i + 1)
unfolding filled
fill c mean out i x h e =
    rw (add-one i, e)
    (ap (λ l. set (firsts (raw_value c mean) i ++ l) i (raw_value c mean i)) (drop-cons out i nan h)
    ∙ set_at (firsts (raw_value c mean) i) (get_or out i nan) (drop (suc i) out) (raw_value c mean i) i (length_firsts (raw_value c mean) i)
    ∙ sym (append_assoc (firsts (raw_value c mean) i) (raw_value c mean i ∷ []) (drop (suc i) out)))

pub fill_first : (c : List Float) (mean : Float) (out : List Float) → 0 < length out → set out 0 mean ≡ filled c mean (set out 0 mean) 1
unfolding raw_value filled
fill_first c mean [] h = absurd (omega arith)
fill_first c mean (x ∷ out) h = refl

pub fill_same : (c : List Float) (mean : Float) (out : List Float) (i : ℕ) → 0 < i → filled c mean (set out 0 mean) i ≡ filled c mean out i
unfolding filled
fill_same c mean out i h = rw (drop-set-lt i out 0 mean h)

pub raw_at : (c : List Float) (mean : Float) (i : ℕ) (x : Float) → 0 < i → x ≡ raw_sum c mean (i + 1) → x ≡ raw_value c mean i
unfolding raw_value
raw_at c mean zero x h e = absurd (omega arith)
raw_at c mean (suc i) x h e = e ∙ ap (raw_sum c mean) (add-one (suc i))

pub raw_done : (c : List Float) (mean : Float) (out w : List Float) (k i : ℕ) → Ok tt ≡ first_refusal (raw_rules (length c) (length out)) → k ≡ at_least_one (length c) → i ≡ k → 0 < i → w ≡ filled c mean (set out 0 mean) i
    → (Ok k ≡ raw_moment c out) × (w ≡ raw_out c mean out)
unfolding raw_moment raw_out filled
raw_done c mean out w k i h e j q p =
    (rw (← h) (ap Ok e), rw (← h) (p ∙ fill_same c mean out i q ∙ ap (filled c mean out) (j ∙ e)))
