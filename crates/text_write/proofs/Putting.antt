-- Texts put one after another: none, one, some after others, and, where there is room for all, the one text that they make. By induction on the texts. Assumes nothing.
use Prim.Native.Nat.{ℕ, ◌+◌, ◌≤◌}
use mathlib.Core.Path.{◌≡◌, refl, sym, ◌∙◌, ap}
use mathlib.Core.Bool.{Bool, true, false, cond}
use mathlib.Core.List.{List, [], ◌∷◌, ◌++◌, flatten}
use native.Mathlib.Nat.{add-zero}
use native.Mathlib.Omega.{arith}
use borrow.Author.Tests.{leb-true}
use lib.Dec.{leb}
use lib.ListN.{drop, length, length-append, length-drop, take, take-append-drop}
use lib.Seq.{length-take-le}
use Rattle.text.specs.Print.{Placed, placed, place_after}
use Rattle.text.proofs.Placing.{placed_next, placed_then}
use Rattle.text_write.specs.Appending.{Appended, Puts, after_all, all_placed}
use Rattle.text_write.specs.declared.Text.{Text}

-- ---- none, one, and some after others
pub puts_none : {t : Text} → Puts t t []
puts_none = record { same = refl; is = refl; next = refl }

module _ {t t₁ t₂ : Text} where
  pub puts_first : {w : List ℕ} {us : List (List ℕ)} → Appended t t₁ w → Puts t₁ t₂ us → Puts t t₂ (w ∷ us)
  puts_first a q =
      let p = a.placed in
      record { same = q.same ∙ a.same; is = rw (← p.is, ← p.next) q.is; next = rw (← p.is, ← p.next) q.next }

pub puts_one : {t t' : Text} {w : List ℕ} → Appended t t' w → Puts t t' (w ∷ [])
puts_one p = puts_first p puts_none

then_is : (o : List ℕ) (at : ℕ) (ts us : List (List ℕ)) → all_placed o at (ts ++ us) ≡ all_placed (all_placed o at ts) (after_all o at ts) us
then_is o at [] us = refl
then_is o at (t ∷ ts) us = then_is (placed o at t) (place_after o at t) ts us

then_next : (o : List ℕ) (at : ℕ) (ts us : List (List ℕ)) → after_all o at (ts ++ us) ≡ after_all (all_placed o at ts) (after_all o at ts) us
then_next o at [] us = refl
then_next o at (t ∷ ts) us = then_next (placed o at t) (place_after o at t) ts us

pub puts_then : {t t₁ t₂ : Text} {ts us : List (List ℕ)} → Puts t t₁ ts → Puts t₁ t₂ us → Puts t t₂ (ts ++ us)
puts_then {t = t} {ts = ts} {us = us} p q = record {
  same = q.same ∙ p.same;
  is = rw (then_is t.out.now t.end ts us, ← p.is, ← p.next) q.is;
  next = rw (then_next t.out.now t.end ts us, ← p.is, ← p.next) q.next;
}

-- ---- a buffer stays as long as it was
by_room : (o : List ℕ) (at : ℕ) (t : List ℕ) (room : Bool) → leb (at + length t) (length o) ≡ room
    → length (cond room (take at o ++ (t ++ drop (at + length t) o)) o) ≡ length o
by_room o at t true h =
    let l = leb-true (at + length t) (length o) h in
    simp (length-append, length-drop) (omega (arith, length-take-le at o (omega arith)))
by_room o at t false h = refl

placed_long : (o : List ℕ) (at : ℕ) (t : List ℕ) → length (placed o at t) ≡ length o
unfolding placed
placed_long o at t = by_room o at t (leb (at + length t) (length o)) refl

all_long : (o : List ℕ) (at : ℕ) (ts : List (List ℕ)) → length (all_placed o at ts) ≡ length o
all_long o at [] = refl
all_long o at (t ∷ ts) = all_long (placed o at t) (place_after o at t) ts ∙ placed_long o at t

-- ---- what is left: us are still to be put into u, so that ts will have been put into t
pub record Left (t : Text) (ts : List (List ℕ)) (u : Text) (us : List (List ℕ)) : Type 0 where
  pub same : u.out.ghost_name ≡ t.out.ghost_name
  pub long : length u.out.now ≡ length t.out.now
  pub is : all_placed t.out.now t.end ts ≡ all_placed u.out.now u.end us
  pub next : after_all t.out.now t.end ts ≡ after_all u.out.now u.end us

pub left_some : {t u v : Text} {ts us vs : List (List ℕ)} → Left t ts u (us ++ vs) → Puts u v us → Left t ts v vs
left_some {u = u} {us = us} {vs = vs} l p = record {
  same = p.same ∙ l.same;
  long = ap length p.is ∙ all_long u.out.now u.end us ∙ l.long;
  is = l.is ∙ then_is u.out.now u.end us vs ∙ rw (← p.is, ← p.next);
  next = l.next ∙ then_next u.out.now u.end us vs ∙ rw (← p.is, ← p.next);
}

pub left_none : {t u : Text} {ts : List (List ℕ)} → Left t ts u [] → Puts t u ts
left_none l = record { same = l.same; is = sym l.is; next = sym l.next }

-- ---- where there is room for all, they are one text
none_whole : (o : List ℕ) (at : ℕ) (room : Bool) → cond room (take at o ++ drop at o) o ≡ o
none_whole o at true = take-append-drop at o
none_whole o at false = refl

none_after : (at : ℕ) (room : Bool) → cond room at at ≡ at
none_after at true = refl
none_after at false = refl

placed_none : (o : List ℕ) (at : ℕ) → Placed o o at at []
unfolding placed place_after
placed_none o at = record { is = rw add-zero (sym (none_whole o at (leb at (length o)))); next = rw add-zero (sym (none_after at (leb at (length o)))) }

all_whole : (o : List ℕ) (at : ℕ) (ts : List (List ℕ)) → at + length (flatten ts) ≤ length o → Placed o (all_placed o at ts) at (after_all o at ts) (flatten ts)
unfolding flatten
all_whole o at [] h = placed_none o at
all_whole o at (t ∷ ts) h =
    let n = simp length-append at h in
    let p : Placed o (placed o at t) at (place_after o at t) t = record { is = refl; next = refl } in
    let room : at + length t ≤ length o = omega arith in
    let k = placed_next o (placed o at t) at (place_after o at t) t room p in
    placed_then o (placed o at t) _ at (place_after o at t) _ t (flatten ts) (omega arith) p
    (all_whole (placed o at t) (place_after o at t) ts (omega (arith, placed_long o at t)))

pub puts_whole : {t t' : Text} {ts : List (List ℕ)} → t.end + length (flatten ts) ≤ length t.out.now → Puts t t' ts → Appended t t' (flatten ts)
puts_whole {t} {ts = ts} h p = record { same = p.same; placed = rw (p.is, p.next) (all_whole t.out.now t.end ts h) }
