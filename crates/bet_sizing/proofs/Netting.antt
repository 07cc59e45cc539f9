-- The starts up to t less the ends up to t are the spans live at t. Assumes nothing.
use Prim.Native.Nat.{ℕ, suc, ◌+◌, ◌<◌}
use mathlib.Core.Path.{◌≡◌, refl, ap, ◌∙◌}
use mathlib.Core.Bool.{Bool, true, false, ◌&&◌}
use mathlib.Core.List.{List, [], ◌∷◌, ◌++◌, map}
use native.Mathlib.Omega.{arith}
use lib.Dec.{leb, ltb}
use lib.ListN.{length, take, drop, get_or}
use lib.IntN.{ℤ, pos}
use lib.Signed.{le_z, lt_z}
use lib.Ieee.{Float}
use mir.Syntax.{w64}
use mir.Val.{SFits}
use borrow.Author.Tests.{ltb-true, ltb-false, leb-true, leb-false}
use Rattle.float.specs.Leaves.{as_f64}
use Rattle.float.specs.Keys.{key_of}
use Rattle.float.proofs.Keys.{key_le, key_lt}
use Rattle.bet_sizing.specs.declared.counts.Side.{Side}
use Rattle.bet_sizing.specs.Counting.{Collected, Counted, Netted, begun, ended, net}
use Rattle.bet_sizing.specs.Counts.{concurrent, indicator, on_side}
use Rattle.std.specs.List.Sorted.{IsPermutation}
use Rattle.std.proofs.lemmas.List.Sorted.{sum_by-IsPermutation}
use Rattle.bet_sizing.specs.Sorting.{rank}

-- ---- one span from p to q, at u, by the tests' answers

on : (p q u : ℕ) (a b c d : Bool) → ltb p q ≡ a → leb p u ≡ b → ltb u q ≡ c → leb q u ≡ d → indicator (a && true && b) ≡ indicator (b && c && true) + indicator (a && true && d)
on p q u true true true true ea eb ec ed = absurd (omega (arith, ltb-true u q ec, leb-true q u ed))
on p q u true true true false ea eb ec ed = omega arith
on p q u true true false true ea eb ec ed = omega arith
on p q u true true false false ea eb ec ed = absurd (omega (arith, ltb-false u q ec, leb-false q u ed))
on p q u true false c true ea eb ec ed = absurd (omega (arith, ltb-true p q ea, leb-false p u eb, leb-true q u ed))
on p q u true false c false ea eb ec ed = omega arith
on p q u false true true d ea eb ec ed = absurd (omega (arith, ltb-false p q ea, leb-true p u eb, ltb-true u q ec))
on p q u false true false d ea eb ec ed = omega arith
on p q u false false c d ea eb ec ed = omega arith

none : (a : Bool) → (a && false) ≡ false
none true = refl
none false = refl

numbers : (p q u : ℕ) (w : Bool) → indicator (ltb p q && w && leb p u) ≡ indicator (leb p u && ltb u q && w) + indicator (ltb p q && w && leb q u)
numbers p q u true = on p q u (ltb p q) (leb p u) (ltb u q) (leb q u) refl refl refl refl
numbers p q u false = rw (none (ltb p q), none (leb p u && ltb u q)) (omega arith)

span : (s e t : ℤ) (w : Bool) → SFits w64 s → SFits w64 e → SFits w64 t → indicator (lt_z s e && w && leb (key_of s) (key_of t)) ≡ indicator (le_z s t && lt_z t e && w) + indicator (lt_z s e && w && leb (key_of e) (key_of t))
span s e t w fs fe ft = rw (← key_lt s e fs fe, ← key_lt t e ft fe, ← key_le s t fs ft) (numbers (key_of s) (key_of e) (key_of t) w)

-- all spans
pub law : (side : Side) (t : ℤ) (ss es : List ℤ) (ds : List Float) → SFits w64 t → ((k : ℕ) → k < length ss → SFits w64 (get_or ss k (pos 0))) → ((k : ℕ) → k < length ss → SFits w64 (get_or es k (pos 0))) → begun side (key_of t) ss es ds ≡ concurrent side t ss es ds + ended side (key_of t) ss es ds
unfolding begun ended concurrent
law side t [] es ds ft fs fe = omega arith
law side t (s ∷ ss) [] ds ft fs fe = omega arith
law side t (s ∷ ss) (e ∷ es) [] ft fs fe = omega arith
law side t (s ∷ ss) (e ∷ es) (d ∷ ds) ft fs fe =
    omega (arith, span s e t (on_side side d) (fs 0 (omega arith)) (fe 0 (omega arith)) ft, law side t ss es ds ft (λ k l. fs (suc k) (omega arith)) (λ k l. fe (suc k) (omega arith)))

-- equal values at each instant
same_map : (f g : ℤ → Float) (ss : List ℤ) → ((k : ℕ) → k < length ss → f (get_or ss k (pos 0)) ≡ g (get_or ss k (pos 0))) → map f ss ≡ map g ss
same_map f g [] h = refl
same_map f g (s ∷ ss) h = cc (h 0 (omega arith), same_map f g ss (λ k l. h (suc k) (omega arith)))

-- from what is collected and sorted to the counts
pub netted : {side : Side} {ss es : List ℤ} {ds old new : List Float} {s e s' e' : List ℕ} {m : ℕ} → Collected side ss es ds s e m → IsPermutation (take m s) s' → IsPermutation (take m e) e' → Netted ss s' e' old new → Counted side ss es ds old new
netted {side} {ss} {es} {ds} {old} {s = s} {e = e} {s' = s'} {e' = e'} {m = m} c p q w =
    let same : (x : ℕ) (l l' : List ℕ) → IsPermutation l l' → rank x l' ≡ rank x l = λ x l l'. sum_by-IsPermutation (λ k. indicator (leb k x)) l l' in
    let at : (k : ℕ) → k < length ss → net s' e' (get_or ss k (pos 0)) ≡ concurrent side (get_or ss k (pos 0)) ss es ds = λ k l.
    let x = key_of (get_or ss k (pos 0)) in
    omega (arith, same x (take m s) s' p, same x (take m e) e' q, c.starts x, c.ends x, law side (get_or ss k (pos 0)) ss es ds (c.fit_starts k l) c.fit_starts c.fit_ends) in
    record { list = w.list ∙ ap (λ (z : List Float). z ++ drop (length ss) old) (same_map (λ t. as_f64 (net s' e' t)) (λ t. as_f64 (concurrent side t ss es ds)) ss (λ k l. ap as_f64 (at k l))) }
