-- Rows a block at a time: each σ₂² put in its place, and a row whose σ₂² is below zero leaves the search as it was. Assumes nothing.
use mathlib.Core.Path.{◌≡◌, refl, sym, ap, ◌∙◌}
use mathlib.Core.List.{List}
use mathlib.Core.Bool.{Bool, true, false, cond}
use Prim.Native.Nat.{ℕ, zero, suc, ◌+◌, ◌-◌}
use lib.ListN.{length, drop, take, get_or}
use borrow.Author.Rules.{part_to_end}
use Rattle.std.proofs.lemmas.List.{get_or-drop}
use lib.Ieee.{Float, nan, lt}
use Rattle.std.proofs.Common.{Some}
use Rattle.float.specs.Constants.{nought}
use Rattle.float.proofs.Order.{lt_irrefl}
use Rattle.moments.specs.Lists.{five_of, listed}
use Rattle.moments.specs.declared.Five.{Five}
use Rattle.step.specs.Steps.{sigma2_squared}
use Rattle.walk.proofs.Stays.{same_moments, stays}
use Rattle.walk.proofs.Trails.{five_enough}
use Rattle.walk.specs.Walk.{walk_of}
use Rattle.fit_state.specs.declared.M2N.{M2N}
use Rattle.grid_rows.specs.Rows.{mean_of, looked, search_to}
use Rattle.fit_state.specs.Rows.{kept_row}
use Rattle.grid_rows.specs.declared.Search.{Search}

-- what `looked` chooses by its test
abbrev seen : Bool → Search → M2N → Search
seen b s x = cond b (record { state = x; err_min = x.error; best = Some (kept_row x) }) (record { state = x; err_min = s.err_min; best = s.best })

seen_state : (b : Bool) (s : Search) (x : M2N) → (seen b s x).state ≡ x
seen_state true s x = refl
seen_state false s x = refl

not_below : (b : Bool) → (b ≡ true → ⊥) → b ≡ false
not_below true h = absurd (h refl)
not_below false h = refl

-- no row's error is below the smallest
seen_least : (b : Bool) (s : Search) (x : M2N) → lt x.error s.err_min ≡ b → lt (seen b s x).state.error (seen b s x).err_min ≡ false
seen_least true s x e = not_below _ (lt_irrefl x.error)
seen_least false s x e = e

seen_again : (s : Search) → lt s.state.error s.err_min ≡ false → looked s s.state ≡ s
seen_again s h = rw h

module _ (m : M2N) (deviation : Float) (weights : List Float) where
  -- ---- the search after i rows
  moments_stay : (i : ℕ) → (search_to m deviation weights i).state.moments ≡ m.moments
  unfolding search_to
  moments_stay zero = refl
  moments_stay (suc i) =
      let s = search_to m deviation weights i in
      let x = (walk_of s.state (mean_of m deviation (suc i)) (get_or weights i nan)).state in
      ap (λ y. y.moments) (seen_state (lt x.error s.err_min) s x) ∙ same_moments s.state (mean_of m deviation (suc i)) (get_or weights i nan) ∙ moments_stay i

  least : (i : ℕ) → lt (search_to m deviation weights i).state.error (search_to m deviation weights i).err_min ≡ false
  unfolding search_to
  least zero = not_below _ (lt_irrefl m.error)
  least (suc i) =
      let s = search_to m deviation weights i in
      let x = (walk_of s.state (mean_of m deviation (suc i)) (get_or weights i nan)).state in
      seen_least (lt x.error s.err_min) s x refl

  -- ---- one row more, where the next index is i + 1
  pub row_passed : (i n : ℕ) (s : Search) (a : Five) (ν p x : Float) → n ≡ suc i → s ≡ search_to m deviation weights i → a ≡ five_of m.moments → ν ≡ mean_of m deviation (suc i) → p ≡ get_or weights i nan → x ≡ sigma2_squared (listed a) ν p → lt x nought ≡ true → s ≡ search_to m deviation weights n
  unfolding search_to
  row_passed i n s a ν p x hn hs ha hν hp hx h =
      let t = search_to m deviation weights i in
      let μ = mean_of m deviation (suc i) in
      let its = hx ∙ sym (five_enough m.moments a ν p ha) ∙ ap (λ y. sigma2_squared m.moments y p) hν in
      let negative = ap (λ y. lt (sigma2_squared y μ p) nought) (moments_stay i) ∙ ap (λ y. lt y nought) (sym its) ∙ h in
      rw (hn, ← hp) (hs ∙ sym (ap (looked t) (stays t.state μ p negative) ∙ seen_again t (least i)))

  pub row_more : (i n : ℕ) (s s' : Search) (μ p : Float) → n ≡ suc i → s ≡ search_to m deviation weights i → μ ≡ mean_of m deviation (suc i) → p ≡ get_or weights i nan → s' ≡ looked s (walk_of s.state μ p).state → s' ≡ search_to m deviation weights n
  unfolding search_to
  row_more i n s s' μ p hn hs hμ hp h = rw (hn, ← hp, ← hμ, ← hs) h

  -- the weights of a block are those after the first `from`
  pub block_weight : (from j : ℕ) → get_or (take (length weights - from) (drop from weights)) j nan ≡ get_or weights (from + j) nan
  block_weight from j = ap (λ l. get_or l j nan) (part_to_end weights from) ∙ get_or-drop from weights j nan
