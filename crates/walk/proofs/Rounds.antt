-- A walk that comes back to a pair goes round, and a round walked once changes nothing more: the best of it is kept already. Assumes nothing.
use mathlib.Core.Path.{◌≡◌, refl, sym, ap, ap₂, subst, ◌∙◌}
use mathlib.Core.List.{List, [], ◌∷◌, ◌++◌, map}
use mathlib.Core.Bool.{true, false, not}
use Prim.Native.Nat.{ℕ, zero, suc, ◌+◌, ◌*◌, ◌-◌, ◌/◌, ◌≤◌, ◌<◌}
use native.Mathlib.Nat.{suc-mul, div-mul-le_self}
use native.Mathlib.Omega.{arith}
use lib.ListN.{length, length-append}
use lib.Dec.{T}
use lib.Ieee.{Float, nan, inf, fin, eq, is_nan, fits, binary64, to_bits, of_bits}
use lib.Ieee.Bits.{of_bits-to_bits}
use Rattle.std.specs.List.{fold}
use Rattle.std.proofs.lemmas.List.Sums.{fold-append}
use Rattle.moments.specs.Lists.{five_of}
use Rattle.moments.specs.Mixture.{get_moments}
use Rattle.moments.specs.declared.Five.{Five}
use Rattle.moments.specs.declared.Params.{Params}
use Rattle.step.specs.declared.Step.TheVariants.{Admitted}
use Rattle.walk.specs.Parts.{fit_after, visit_at, Turned, stays, looks, rounds_on}
use Rattle.walk.specs.Trail.{settled, step_for}
use Rattle.walk.specs.Walk.{Visit, best_of, fit_keeping, smaller}
use Rattle.fit_state.specs.declared.Fit.{Fit}
use Rattle.fit_state.specs.declared.M2N.{M2N}
use Rattle.walk.specs.declared.Seen.{Seen}
use Rattle.walk.specs.declared.Turn.{Turn}
use Rattle.walk.proofs.Trails.{fit_next}
use Rattle.walk.proofs.Visits.{smallest_again}

-- ---- the fit after several iterates
abbrev fit_over : M2N → Fit → List Params → Fit
fit_over m f t = fold (fit_next m) f t

-- it has the moments of the last, and as its best the smallest
abbrev last_moments : Five → List Params → Five
last_moments n [] = n
last_moments n (r ∷ t) = last_moments (get_moments r) t

abbrev errors : M2N → List Params → List Visit
errors m t = map (visit_at m.len (five_of m.moments)) t

fit_over_is : (m : M2N) (f : Fit) (t : List Params) → fit_over m f t ≡ fit_keeping (last_moments f.new_moments t) (fold smaller (best_of f) (errors m t))
unfolding fit_after
fit_over_is m f [] = refl
fit_over_is m f (r ∷ t) = fit_over_is m (fit_next m f r) t

last_again : (n : Five) (t : List Params) → last_moments (last_moments n t) t ≡ last_moments n t
last_again n [] = refl
last_again n (r ∷ t) = refl

-- so the same iterates again change nothing
pub round_again : (m : M2N) (f : Fit) (t : List Params) → fit_over m (fit_over m f t) t ≡ fit_over m f t
round_again m f t =
    fit_over_is m (fit_over m f t) t
    ∙ ap (λ g. fit_keeping (last_moments g.new_moments t) (fold smaller (best_of g) (errors m t))) (fit_over_is m f t)
    ∙ ap₂ fit_keeping (last_again f.new_moments t) (smallest_again (best_of f) (errors m t))
    ∙ sym (fit_over_is m f t)

-- ---- steps that lead from a pair to another: admitted, and none settled
abbrev Leads : M2N → Float → Float → List Params → Float → Float → Type 0
Leads m μ p [] μ' p' = (μ ≡ μ') × (p ≡ p')
Leads m μ p (r ∷ t) μ' p' = (step_for m.variant m.moments μ p ≡ Admitted r) × (settled m.epsilon p r.p_1 ≡ false) × Leads m r.mu_2 r.p_1 t μ' p'

leads_snoc : (m : M2N) (μ p : Float) (t : List Params) (μ' p' : Float) (r : Params) → Leads m μ p t μ' p' → step_for m.variant m.moments μ' p' ≡ Admitted r → settled m.epsilon p' r.p_1 ≡ false → Leads m μ p (t ++ (r ∷ [])) r.mu_2 r.p_1
leads_snoc m μ p [] μ' p' r h e s = (ap (λ x. step_for m.variant m.moments x p) h.0 ∙ ap (λ x. step_for m.variant m.moments μ' x) h.1 ∙ e, ap (λ x. settled m.epsilon x r.p_1) h.1 ∙ s, (refl, refl))
leads_snoc m μ p (q ∷ t) μ' p' r h e s = (h.0, h.1, leads_snoc m q.mu_2 q.p_1 t μ' p' r h.2 e s)

-- ---- what the loop knows: iterates lead from the pair looked out for to the present one, and the fit has them
pub record Since (m : M2N) (seen : Seen) (f : Fit) (count : ℕ) (μ p : Float) : Type 0 where
  pub trail : List Params
  pub before : Fit
  pub leads : Leads m seen.mu seen.p trail μ p
  pub kept : f ≡ fit_over m before trail
  pub counted : count ≡ seen.at + length trail

pub since_now : (m : M2N) (f : Fit) (count : ℕ) (μ p : Float) → Since m (record { mu = μ; p = p; at = count }) f count μ p
since_now m f count μ p = record { trail = []; before = f; leads = (refl, refl); kept = refl; counted = omega arith }

pub since_on : (m : M2N) (seen : Seen) (f g : Fit) (count : ℕ) (μ p : Float) (r : Params) → Since m seen f count μ p → step_for m.variant m.moments μ p ≡ Admitted r → g ≡ fit_next m f r → settled m.epsilon p r.p_1 ≡ false → Since m seen g (count + 1) r.mu_2 r.p_1
since_on m seen f g count μ p r s e hg h = record {
  trail = s.trail ++ (r ∷ []);
  before = s.before;
  leads = leads_snoc m seen.mu seen.p s.trail μ p r s.leads e h;
  kept = hg ∙ ap (λ x. fit_next m x r) s.kept ∙ sym (fold-append (fit_next m) s.before s.trail (r ∷ []));
  counted = omega (arith, s.counted, length-append s.trail (r ∷ []));
}

-- ---- what is left of a piece of at most `to` steps: one step on changes nothing of it
module _ (m : M2N) {A : Type 0} (left : Fit → ℕ → Float → Float → A) (to : ℕ)
    (goes_on : (f : Fit) (k : ℕ) (μ p : Float) (r : Params) → k < to → step_for m.variant m.moments μ p ≡ Admitted r → settled m.epsilon p r.p_1 ≡ false → left f k μ p ≡ left (fit_next m f r) (k + 1) r.mu_2 r.p_1) where
  walked : (f : Fit) (k : ℕ) (μ p : Float) (t : List Params) (μ' p' : Float) → Leads m μ p t μ' p' → k + length t ≤ to → left f k μ p ≡ left (fit_over m f t) (k + length t) μ' p'
  walked f k μ p [] μ' p' h l = ap (λ x. left f k x p) h.0 ∙ ap (λ x. left f k μ' x) h.1 ∙ ap (λ n. left f n μ' p') (omega arith)
  walked f k μ p (r ∷ t) μ' p' h l =
      let g = fit_next m f r in
      goes_on f k μ p r (omega (arith, l)) h.0 h.1
      ∙ walked g (k + 1) r.mu_2 r.p_1 t μ' p' h.2 (omega (arith, l))
      ∙ ap (λ n. left (fit_over m g t) n μ' p') (omega arith)

  -- n rounds
  rounds : (f : Fit) (k : ℕ) (μ p : Float) (t : List Params) (n : ℕ) → Leads m μ p t μ p → fit_over m f t ≡ f → k + n * length t ≤ to → left f k μ p ≡ left f (k + n * length t) μ p
  rounds f k μ p t zero h e l = ap (λ x. left f x μ p) (omega arith)
  rounds f k μ p t (suc n) h e l =
      walked f k μ p t μ p h (omega (arith, suc-mul n (length t), l))
      ∙ ap (λ g. left g (k + length t) μ p) e
      ∙ rounds f (k + length t) μ p t n h e (omega (arith, suc-mul n (length t), l))
      ∙ ap (λ x. left f x μ p) (omega (arith, suc-mul n (length t)))

  -- one turn of the count
  pub record Turns (f : Fit) (count : ℕ) (μ p : Float) (r : Turn) : Type 0 where
    pub within : r.count ≤ to
    pub the_same : left f count μ p ≡ left f r.count μ p
    pub since : Since m r.seen f r.count μ p

  pub turns : (f : Fit) (count : ℕ) (μ p : Float) (seen : Seen) (r : Turn) → count ≤ to → Since m seen f count μ p → Turned count to μ p seen r → Turns f count μ p r
  turns f count μ p seen r l s (stays e) = subst (Turns f count μ p) (sym e) (record { within = l; the_same = refl; since = s })
  turns f count μ p seen r l s (looks e) = subst (Turns f count μ p) (sym e) (record { within = l; the_same = refl; since = since_now m f count μ p })
  turns f count μ p seen r l s (rounds_on n far hμ hp ht hl e) =
      subst (Turns f count μ p) (sym e)
      (record { within = hl; the_same = rounds f count μ p s.trail n back same_fit (omega (arith, is, hl)) ∙ ap (λ x. left f x μ p) (sym is); since = since_now m f far μ p })
    where
      length_is : count - seen.at ≡ length s.trail
      length_is = omega (arith, s.counted)

      is : far ≡ count + n * length s.trail
      is = ht ∙ ap (λ x. count + n * x) length_is

      back : Leads m μ p s.trail μ p
      back = subst (λ x. Leads m x p s.trail μ p) (sym hμ) (subst (λ x. Leads m seen.mu x s.trail μ p) (sym hp) s.leads)

      same_fit : fit_over m f s.trail ≡ f
      same_fit = ap (λ g. fit_over m g s.trail) s.kept ∙ round_again m s.before s.trail ∙ sym s.kept

-- ---- the code's parts
pub one_float : (x y : Float) → T (fits binary64 x) → T (fits binary64 y) → to_bits binary64 x ≡ to_bits binary64 y → x ≡ y
one_float x y hx hy e = sym (of_bits-to_bits binary64 x hx) ∙ ap (of_bits binary64) e ∙ of_bits-to_bits binary64 y hy

pub whole_rounds : (count limit round : ℕ) → count ≤ limit → count + (limit - count) / round * round ≤ limit
whole_rounds count limit round h = omega (arith, h, div-mul-le_self (limit - count) round)

pub no_nan : (x y : Float) → eq x y ≡ true → T (not (is_nan x)) × T (not (is_nan y))
unfolding eq is_nan
no_nan nan y h = cc
no_nan (inf s) nan h = cc
no_nan (inf s) (inf t) h = (tt, tt)
no_nan (inf s) (fin t n d) h = (tt, tt)
no_nan (fin s m e) nan h = cc
no_nan (fin s m e) (inf t) h = (tt, tt)
no_nan (fin s m e) (fin t n d) h = (tt, tt)
