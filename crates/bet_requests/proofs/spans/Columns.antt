-- The lent list after counts and sizes that are not refused: what was lent of it, put back, is a part of the whole after the answer. Assumes nothing.
use Prim.Native.Nat.{ℕ, ◌+◌, ◌-◌, ◌/◌, ◌≤◌, min}
use mathlib.Core.Path.{◌≡◌, refl, sym, ◌∙◌, ap}
use mathlib.Core.Bool.{Bool, true, false}
use mathlib.Core.List.{List, ◌++◌, append_assoc}
use native.Mathlib.Omega.{arith}
use borrow.Rule.Slice.PartMut.{put_mid}
use borrow.Author.Tests.{le-ltb, lt-ltb, ltb-false, ltb-true}
use lib.Dec.{ltb}
use lib.IntN.{ℤ}
use lib.Ieee.{Float}
use lib.ListN.{drop, length, length-append, length-drop, length-map, length-take, take, take-append-drop}
use lib.Seq.{drop-append-le, drop_at, length-take-le, take_at}
use Rattle.std.specs.Prelude.{Result, Ok, Err}
use Rattle.float.specs.Leaves.{as_f64}
use Rattle.refusal.specs.Numbers.{Checked, unless_refused}
use Rattle.refusal.specs.Rules.{first_refusal}
use Rattle.refusal.specs.declared.Refusal.{Refusal}
use Rattle.budget.specs.Budget.{BetSizeBudget, budget_sizes}
use Rattle.bet_sizing.specs.declared.counts.Side.TheVariants.{Long, Short}
use Rattle.bet_sizing.specs.Counts.{concurrent, concurrent_counts}
use Rattle.bet_sizing.specs.Refusals.{ConcurrentSides, spans_rules}
use Rattle.bet_sizing.proofs.Refusing.{accepted, accepted_in, fits}
use Rattle.replies.specs.declared.forms.Columns.TheVariants.{One, Two}
use Rattle.bet_requests.specs.Spans.{asked_of, refusal, sides_in, sides_refusal, sides_rows, sizes_in, sizes_rows}

-- the first k of a list with n new elements in front, and the others as they were
put_back : (n k : ℕ) (new xs : List Float) → n ≤ k → k ≤ length xs → (new ++ drop n (take k xs)) ++ drop k xs ≡ new ++ drop n xs
put_back n k new xs f l =
    append_assoc new (drop n (take k xs)) (drop k xs)
    ∙ ap (λ (r : List Float). new ++ r) (sym (drop-append-le n (take k xs) (drop k xs) (omega (arith, length-take-le k xs l))) ∙ ap (drop n) (take-append-drop k xs))

-- a check that is told of two rooms answers the same where there is room for n in both or in neither
same_room : (n es ds a b : ℕ) → ltb a n ≡ ltb b n → first_refusal (spans_rules n es ds a) ≡ first_refusal (spans_rules n es ds b)
same_room n es ds a b e = rw e

by_room : (n a b : ℕ) (little : Bool) → ltb a n ≡ little → n ≤ 4096 → b ≡ min a 4096 → ltb a n ≡ ltb b n
by_room n a b true e h is = e ∙ sym (lt-ltb b n (omega (arith, ltb-true a n e)))
by_room n a b false e h is = e ∙ sym (le-ltb b n (omega (arith, ltb-false a n e)))

refused : (r : Checked) {e : Refusal} (n : ℕ) → Err e ≡ unless_refused r n → r ≡ Err e
refused (Ok u) n h = cc
refused (Err x) n h = cc

module _ (room from k : ℕ) (xs : List Float) {ss es : List ℤ} {ds : List Float} where
  -- the sizes, as bet_size_budget leaves them in the first k places of xs
  pub sizes_of_all : {size : List Float} {r : Result ℕ Refusal} {n : ℕ} → k ≡ min room (length xs) → BetSizeBudget ss es ds (take k xs) size r → r ≡ Ok n
      → (Ok (record { count = n; columns = One; starts = from }) ≡ sizes_rows (length xs) (asked_of room from ss es ds)) × (size ++ drop k xs ≡ sizes_in xs (asked_of room from ss es ds))
  sizes_of_all {size} {r} {n} is-k h e =
      let l : length (take k xs) ≡ k = length-take-le k xs (omega arith) in
      let a = accepted (first_refusal (spans_rules (length ss) (length es) (length ds) (length (take k xs)))) (length ss) n (sym h.answered ∙ e) in
      let few : length ss ≤ k = omega (arith, fits (length ss) (length es) (length ds) (length (take k xs)) a.0) in
      let all : refusal (asked_of room from ss es ds) (length xs) ≡ Ok tt = accepted_in (length ss) (length es) (length ds) (length (take k xs)) (min room (length xs)) a.0 (omega arith) in
      let sized : size ≡ budget_sizes ss es ds ++ drop (length ss) (take k xs) = rw a.0 at h.sizes in
      (rw (all, a.1), rw (all, sized) (put_back (length ss) k (budget_sizes ss es ds) xs few (omega arith)))

  -- the counts, where they are refused
  pub sides_refused : {long old short : List Float} {e : Refusal} → k ≡ min room (length xs / 2) → length ss ≤ 4096 → length old ≡ 4096 → ConcurrentSides ss es ds (take k xs) long old short (Err e)
      → (Err e ≡ sides_rows (length xs) (asked_of room from ss es ds)) × (long ++ drop k xs ≡ sides_in xs (asked_of room from ss es ds))
  sides_refused {long} {old} {short} {e} is-k fits lo h =
      let half : ℕ = length xs / 2 in
      let l : length (take k xs) ≡ k = length-take-le k xs (omega arith) in
      let lent : ℕ = min (length (take k xs)) (length old) in
      let checked : first_refusal (spans_rules (length ss) (length es) (length ds) lent) ≡ Err e = refused _ (length ss) h.answered in
      let all : sides_refusal (length xs) (asked_of room from ss es ds) ≡ Err e =
      same_room (length ss) (length es) (length ds) (min room half) lent (by_room (length ss) (min room half) lent (ltb (min room half) (length ss)) refl fits (omega arith)) ∙ checked in
      let front : long ≡ take k xs = rw checked at h.longs in
      (rw all, rw (all, front, take-append-drop k xs, take-append-drop half xs))

  -- the counts, as get_concurrent_sides leaves them in the first k places of xs and in another list, from which the shorts of n spans are copied
  pub sides_of_all : {long old short copied : List Float} {r : Result ℕ Refusal} {n : ℕ} → k ≡ min room (length xs / 2) → length old ≡ 4096 → ConcurrentSides ss es ds (take k xs) long old short r → r ≡ Ok n → copied ≡ take n short
      → (Ok (record { count = n; columns = Two; starts = from }) ≡ sides_rows (length xs) (asked_of room from ss es ds))
      × (put_mid (length xs / 2) (length xs / 2 + n - length xs / 2) (long ++ drop k xs) copied ≡ sides_in xs (asked_of room from ss es ds))
  sides_of_all {long} {old} {short} {copied} {r} {n} is-k lo h e c =
      let half : ℕ = length xs / 2 in
      let l : length (take k xs) ≡ k = length-take-le k xs (omega arith) in
      let lent : ℕ = min (length (take k xs)) (length old) in
      let a = accepted (first_refusal (spans_rules (length ss) (length es) (length ds) lent)) (length ss) n (sym h.answered ∙ e) in
      let few : length ss ≤ k = omega (arith, fits (length ss) (length es) (length ds) lent a.0) in
      let all : sides_refusal (length xs) (asked_of room from ss es ds) ≡ Ok tt = accepted_in (length ss) (length es) (length ds) lent (min room half) a.0 (omega arith) in
      let longs : List Float = concurrent_counts Long ss es ds in
      let shorts : List Float = concurrent_counts Short ss es ds in
      let front : long ≡ longs ++ drop (length ss) (take k xs) = rw a.0 at h.longs in
      let other : short ≡ shorts ++ drop (length ss) old = rw a.0 at h.shorts in
      let copies : copied ≡ shorts = c ∙ ap (take n) other ∙ take_at shorts (drop (length ss) old) n (length-map ss (λ t. as_f64 (concurrent Short t ss es ds)) ∙ a.1) in
      let first : List Float = longs ++ drop (length ss) (take half xs) in
      let ys : long ++ drop k xs ≡ first ++ drop half xs =
      rw front (put_back (length ss) k longs xs few (omega arith) ∙ sym (put_back (length ss) half longs xs (omega arith) (omega arith))) in
      let lf : length first ≡ half = simp (length-append, length-drop, length-take) (omega (arith, length-map ss (λ t. as_f64 (concurrent Long t ss es ds)))) in
      let rest : drop (half + n - half) (drop half xs) ≡ drop (length ss) (drop half xs) = ap (λ (j : ℕ). drop j (drop half xs)) (omega (arith, a.1)) in
      (rw (all, a.1), rw (all, ys, take_at first (drop half xs) half lf, drop_at first (drop half xs) half lf, rest, copies))
