-- The keys of the spans that are ever live, one span a turn. Assumes nothing.
use Prim.Native.Nat.{ℕ, ◌+◌, ◌≤◌, ◌<◌}
use mathlib.Core.Logic.{◌⊎◌, inl, inr}
use mathlib.Core.Path.{◌≡◌, refl, ap, ◌∙◌}
use mathlib.Core.Bool.{Bool, true, false, ◌&&◌}
use mathlib.Core.List.{List, [], ◌∷◌}
use native.Mathlib.Nat.{add-zero}
use native.Mathlib.Numerals.{add-one}
use native.Mathlib.Omega.{arith}
use lib.Dec.{leb}
use lib.ListN.{length, take, drop, get_or, set}
use lib.Seq.{take-set-le}
use lib.IntN.{ℤ, pos}
use lib.Signed.{lt_z}
use lib.Ieee.{Float, nan}
use mir.Syntax.{w64}
use mir.Val.{bool_byte as from_bool, to_z, of_z, SFits}
use mir.ValLaws.{to_z-of_z}
use borrow.Author.Count.{below_more}
use Rattle.float.specs.Keys.{key_of}
use Rattle.bet_sizing.specs.declared.counts.Side.{Side}
use Rattle.bet_sizing.specs.Counting.{Collected, begun, ended}
use Rattle.bet_sizing.specs.Counts.{indicator, on_side}
use Rattle.bet_sizing.specs.Sorting.{rank}
use Rattle.bet_sizing.proofs.Filling.{front, all_given}
use Rattle.bet_sizing.proofs.Ranks.{rank_set, indicator_le}

from_bool_is : (b : Bool) → from_bool b ≡ indicator b
from_bool_is true = refl
from_bool_is false = refl

-- a store at m, kept where the test holds
kept : (x : ℕ) (s : List ℕ) (m v : ℕ) (b : Bool) → m < length s → rank x (take (m + indicator b) (set s m v)) ≡ rank x (take m s) + indicator (b && leb v x)
kept x s m v true h = rw add-one (rank_set x s m v h)
kept x s m v false h = ap (λ (k : ℕ). rank x (take k (set s m v))) (add-zero m) ∙ ap (rank x) (take-set-le m s m v (omega arith)) ∙ omega arith

begun_none : (side : Side) (x : ℕ) (ss es : List ℤ) (ds : List Float) → (length ss ≡ 0) ⊎ (length es ≡ 0) ⊎ (length ds ≡ 0) → begun side x ss es ds ≡ 0
unfolding begun
begun_none side x [] es ds h = refl
begun_none side x (s ∷ ss) [] ds h = refl
begun_none side x (s ∷ ss) (e ∷ es) [] h = refl
begun_none side x (s ∷ ss) (e ∷ es) (d ∷ ds) h = elim h [ inl a ↦ absurd (omega arith) | inr b ↦ elim b [ inl a ↦ absurd (omega arith) | inr a ↦ absurd (omega arith) ] ]

ended_none : (side : Side) (x : ℕ) (ss es : List ℤ) (ds : List Float) → (length ss ≡ 0) ⊎ (length es ≡ 0) ⊎ (length ds ≡ 0) → ended side x ss es ds ≡ 0
unfolding ended
ended_none side x [] es ds h = refl
ended_none side x (s ∷ ss) [] ds h = refl
ended_none side x (s ∷ ss) (e ∷ es) [] h = refl
ended_none side x (s ∷ ss) (e ∷ es) (d ∷ ds) h = elim h [ inl a ↦ absurd (omega arith) | inr b ↦ elim b [ inl a ↦ absurd (omega arith) | inr a ↦ absurd (omega arith) ] ]

-- after i spans: the keys so far, and the spans that are left
pub record Gathered (side : Side) (ss es : List ℤ) (ds : List Float) (s e : List ℕ) (m i : ℕ) (rs re : List ℤ) (rd : List Float) : Type 0 where
  pub few : m ≤ i
  pub taken : i ≤ length ss
  pub starts : (x : ℕ) → rank x (take m s) + begun side x rs re rd ≡ begun side x ss es ds
  pub ends : (x : ℕ) → rank x (take m e) + ended side x rs re rd ≡ ended side x ss es ds
  pub left_starts : rs ≡ drop i ss
  pub left_ends : re ≡ drop i es
  pub left_sides : rd ≡ drop i ds
  pub fit_starts : (k : ℕ) → k < i → SFits w64 (get_or ss k (pos 0))
  pub fit_ends : (k : ℕ) → k < i → SFits w64 (get_or es k (pos 0))

module _ {side : Side} {ss es : List ℤ} {ds : List Float} {s e : List ℕ} {m i : ℕ} where
  module _ {t u : ℤ} {d : Float} {rs re : List ℤ} {rd : List Float} (room_s : length ss ≤ length s) (room_e : length ss ≤ length e) (h : Gathered side ss es ds s e m i (t ∷ rs) (u ∷ re) (d ∷ rd)) (ft : SFits w64 t) (fu : SFits w64 u) where
    more : Gathered side ss es ds (set s m (key_of t)) (set e m (key_of u)) (m + indicator (lt_z t u && on_side side d)) (i + 1) rs re rd
    unfolding begun ended
    more =
        let b = lt_z t u && on_side side d in
        let (its, l, rest) = front ss rs i t (pos 0) h.left_starts in
        let (ends, _, rest_ends) = front es re i u (pos 0) h.left_ends in
        let (_, _, rest_sides) = front ds rd i d nan h.left_sides in
        record {
          few = omega (arith, h.few, indicator_le b);
          taken = omega (arith, l);
          starts = λ x. omega (arith, kept x s m (key_of t) b (omega (arith, h.few, l)), h.starts x);
          ends = λ x. omega (arith, kept x e m (key_of u) b (omega (arith, h.few, l)), h.ends x);
          left_starts = rest;
          left_ends = rest_ends;
          left_sides = rest_sides;
          fit_starts = below_more (λ k. SFits w64 (get_or ss k (pos 0))) i h.fit_starts (rw its at ft);
          fit_ends = below_more (λ k. SFits w64 (get_or es k (pos 0))) i h.fit_ends (rw ends at fu);
        }

    -- the same, of a span as the machine reads it back from its bits
    pub more_read : {k q : ℕ} {b : Bool} → k ≡ key_of (to_z w64 (of_z w64 t)) → q ≡ key_of (to_z w64 (of_z w64 u)) → b ≡ (lt_z (to_z w64 (of_z w64 t)) (to_z w64 (of_z w64 u)) && on_side side d) → Gathered side ss es ds (set s m k) (set e m q) (m + from_bool b) (i + 1) rs re rd
    more_read p q r = rw (p, q, r, to_z-of_z w64 t ft, to_z-of_z w64 u fu, from_bool_is) more

  -- the same, of lists that have a span in front
  pub gathered_more : {t u : ℤ} {d : Float} {ls le rs re : List ℤ} {ld rd : List Float} {k q : ℕ} {b : Bool} → length ss ≤ length s → length ss ≤ length e → Gathered side ss es ds s e m i ls le ld → ls ≡ t ∷ rs → le ≡ u ∷ re → ld ≡ d ∷ rd → SFits w64 t → SFits w64 u
      → k ≡ key_of (to_z w64 (of_z w64 t)) → q ≡ key_of (to_z w64 (of_z w64 u)) → b ≡ (lt_z (to_z w64 (of_z w64 t)) (to_z w64 (of_z w64 u)) && on_side side d) → Gathered side ss es ds (set s m k) (set e m q) (m + from_bool b) (i + 1) rs re rd
  gathered_more room_s room_e h a b c ft fu p q r = more_read room_s room_e (rw (a, b, c) at h) ft fu p q r

  -- all are taken where one list has nothing left
  pub gathered_all : {rs re : List ℤ} {rd : List Float} → length ss ≡ length es → length ss ≡ length ds → Gathered side ss es ds s e m i rs re rd → (length rs ≡ 0) ⊎ (length re ≡ 0) ⊎ (length rd ≡ 0) → Collected side ss es ds s e m
  gathered_all {rs} {re} {rd} le ld h l =
      let done : length ss ≤ i = elim l [
        | inl a ↦ all_given ss rs i h.left_starts a
        | inr b ↦ elim b [ inl a ↦ omega (arith, all_given es re i h.left_ends a) | inr a ↦ omega (arith, all_given ds rd i h.left_sides a) ]
      ] in
      record {
        few = omega (arith, h.few, h.taken);
        starts = λ x. omega (arith, h.starts x, begun_none side x rs re rd l);
        ends = λ x. omega (arith, h.ends x, ended_none side x rs re rd l);
        fit_starts = λ k n. h.fit_starts k (omega arith);
        fit_ends = λ k n. h.fit_ends k (omega arith);
      }
