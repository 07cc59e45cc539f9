-- One search, part by part: each part's answer put into the definition's place. Assumes nothing.
use mathlib.Core.Path.{◌≡◌, ap, ◌∙◌}
use mathlib.Core.List.{List}
use Prim.Native.Nat.{ℕ, ◌≤◌, min}
use native.Mathlib.Omega.{arith}
use lib.ListN.{length, take}
use lib.Ieee.{Float}
use Rattle.fit_state.specs.State.{answered}
use Rattle.fit_state.specs.declared.M2N.{M2N}
use Rattle.fit_refusals.specs.Refusals.{rows_of, grid_refusal}
use Rattle.grid_rows.proofs.First.{first_enough}
use Rattle.grid_rows.specs.Rows.{search_to}
use Rattle.grid_rows.specs.declared.Search.{Search}
use Rattle.fit_state.specs.Search.{begun, centred_state, moved_state, deviation_of}
use Rattle.grid.specs.Search.{in_force, moved_best, found_by, plain_fit, centred_fit, fit_of, single_fit, Served}
use Rattle.fit_state.specs.declared.row.FitResultRow.{FitResultRow}
use Rattle.refusal.specs.declared.Refusal.{Refusal}
use Rattle.std.proofs.Common.{Option, Ok, Err}
use Rattle.grid.specs.declared.search.Searched.{Searched}

-- walked from the first weights alone
pub plain_is : (m : M2N) (epsilon : Float) (weights : List Float) (b : M2N) (d : Float) (n : ℕ) (s : Search) → Served m epsilon weights → b ≡ begun m epsilon → d ≡ deviation_of m → n ≡ rows_of epsilon → s ≡ search_to b d (take n weights) (min (length (take n weights)) 131072) → found_by s ≡ plain_fit m epsilon weights
unfolding plain_fit
plain_is m epsilon weights b d n s h hb hd hn hs =
    let first = first_enough b d weights n (omega arith) (omega arith) in
    ap found_by (hs ∙ first ∙ ap (λ x. search_to x d weights n) hb ∙ ap (λ x. search_to (begun m epsilon) x weights n) hd ∙ ap (search_to (begun m epsilon) (deviation_of m) weights) hn)

pub centred_is : (m : M2N) (epsilon : Float) (weights : List Float) (c : M2N) (s : Searched) (state : M2N) (best : Option FitResultRow) → c ≡ centred_state m → s ≡ plain_fit c epsilon weights → state ≡ moved_state m epsilon s.state.parameters → best ≡ moved_best m s.best → record { state = state; best = best } ≡ centred_fit m epsilon weights
unfolding centred_fit
centred_is m epsilon weights c s state best hc hs hm hb =
    rw (hm, hb)
    (ap (λ x. record { state = moved_state m epsilon x.state.parameters; best = moved_best m x.best }) (hs ∙ ap (λ x. plain_fit x epsilon weights) hc))

pub five_given : (m c : M2N) → c ≡ centred_state m → c.len ≤ 16
unfolding centred_state
five_given m c h = omega (arith, ap (λ x. x.len) h)

-- ---- answers
module _ (m : M2N) (e : Option Float) (weights : List Float) (epsilon : Float) where
  pub refused : (refusal : Refusal) → epsilon ≡ in_force m e → Err refusal ≡ grid_refusal m epsilon 1 weights → record { state = m; outcome = Err refusal } ≡ single_fit m e weights
  unfolding single_fit
  refused refusal he hr = let f = fit_of m (in_force m e) weights in ap (λ x. answered x m f.state f.best) (hr ∙ ap (λ x. grid_refusal m x 1 weights) he)

  pub ended : (s : Searched) → epsilon ≡ in_force m e → Ok tt ≡ grid_refusal m epsilon 1 weights → s ≡ fit_of m epsilon weights → record { state = s.state; outcome = Ok s.best } ≡ single_fit m e weights
  unfolding single_fit
  ended s he hr hs =
      let f = fit_of m (in_force m e) weights in
      ap (λ x. answered (Ok tt) m x.state x.best) (hs ∙ ap (λ x. fit_of m x weights) he) ∙ ap (λ x. answered x m f.state f.best) (hr ∙ ap (λ x. grid_refusal m x 1 weights) he)
