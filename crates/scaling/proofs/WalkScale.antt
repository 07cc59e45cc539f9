-- Two whole walks, the second on moments and a mean that are powers of two times the first's: equally many steps, the same reason or refusal, and trails alike. By one induction over the trail, from the law of one step (`step_scale`); a walk not refused has all the moments that its step reads. Assumes nothing.
use mathlib.Core.Path.{◌≡◌, refl, sym, ap, ap₂, ◌∙◌, subst}
use mathlib.Core.List.{List, [], ◌∷◌, map}
use Prim.Native.Nat.{ℕ, zero, suc, ◌≤◌, ◌<◌}
use native.Mathlib.Nat.{lt_of_lt_of_le}
use mathlib.Core.Bool.{Bool, true, false, cond}
use lib.IntN.{ℤ}
use lib.Dec.{T, eqb}
use lib.ListN.{length, length-map, get_or}
use lib.Ieee.{Float, nan, binary64, fits}
use lib.Ieee.Fits.{and_l, and_r}
use Rattle.float.specs.Scale.{scale}
use Rattle.step.specs.declared.Step.{Step}
use Rattle.step.specs.declared.Step.TheVariants.{Admitted, Inadmissible}
use Rattle.scaling.specs.Scaling.{Twins, fair_step, fair_from, fair_walk, scale_params, scale_step, ReadOff, Compared, WalksScale}
use Rattle.walk.specs.Trail.{settled, step_for, trail_from}
use Rattle.walk.specs.Walk.{Walked, needed_by, walk_refusal, walk_trail, stopped, stopped_at, reason_of, trail_of, walk_of, keep_all}
use Rattle.fit_state.specs.State.{answered}
use Rattle.fit_state.specs.declared.M2N.{M2N}
use Rattle.walk.specs.declared.Ended.{Ended}
use Rattle.walk.specs.declared.Reason.{Reason}
use Rattle.walk.specs.declared.Reason.TheVariants.{Spent}
use Rattle.refusal.specs.Numbers.{Checked}
use Rattle.std.specs.List.{last_or}
use Rattle.std.specs.Prelude.{Option, Some, None, Ok, Err}
use Rattle.std.specs.Result.{is_ok}
use Rattle.walk.proofs.Trails.{enough}
use Rattle.scaling.proofs.StepScale.{handed, Alike, Moments, step_scale}

-- ---- every f64 is a value of binary64: those that a walk reads
pub record Doubles (m : M2N) (μ p : Float) : Type 0 where
  pub moments : (k : ℕ) → k < m.len → T (fits binary64 (get_or m.moments k nan))
  pub mean : T (fits binary64 μ)
  pub weight : T (fits binary64 p)

-- ---- a trail, from a law of its step
module _ (s : ℤ) (ε : Float) (step step' : Float → Float → Step) (ok ok' : Float → Float → Bool)
    (law : (μ p : Float) → T (fits binary64 μ) → T (fits binary64 (scale s μ)) → T (fits binary64 p) → T (ok μ p) → T (ok' (scale s μ) p) → Alike s (step μ p) (step' (scale s μ) p)) where
  abbrev Law : ℕ → Type 0
  Law n = (μ p : Float) → T (fits binary64 μ) → T (fits binary64 (scale s μ)) → T (fits binary64 p) → T (fair_from ok step ε n μ p) → T (fair_from ok' step' ε n (scale s μ) p)
      → trail_from step' ε n (scale s μ) p ≡ map (scale_step s) (trail_from step ε n μ p)

  trail_scale : (n : ℕ) → Law n
  unfolding trail_from fair_from
  trail_scale zero μ p a a' b g h = refl
  trail_scale (suc n) μ p a a' b g h =
      let r = step μ p in
      let r' = step' (scale s μ) p in
      let l = law μ p a a' b (and_l (ok μ p) (rest r) g) (and_l (ok' (scale s μ) p) (rest' r') h) in
      subst (λ (o : Step). T (handed o) → T (rest' o) → follow' o ≡ map (scale_step s) (follow r)) (sym l.is)
      (go (trail_scale n) r l.next (and_r (ok μ p) (rest r) g))
      l.next' (and_r (ok' (scale s μ) p) (rest' r') h)
    where
      rest : Step → Bool
      rest o = elim o [ Admitted r ↦ cond (settled ε p r.p_1) true (fair_from ok step ε n r.mu_2 r.p_1) | Inadmissible ↦ true ]

      rest' : Step → Bool
      rest' o = elim o [ Admitted r ↦ cond (settled ε p r.p_1) true (fair_from ok' step' ε n r.mu_2 r.p_1) | Inadmissible ↦ true ]

      follow : Step → List Step
      follow o = elim o [ Admitted r ↦ Admitted r ∷ cond (settled ε p r.p_1) [] (trail_from step ε n r.mu_2 r.p_1) | Inadmissible ↦ Inadmissible ∷ [] ]

      follow' : Step → List Step
      follow' o = elim o [ Admitted r ↦ Admitted r ∷ cond (settled ε p r.p_1) [] (trail_from step' ε n r.mu_2 r.p_1) | Inadmissible ↦ Inadmissible ∷ [] ]

      on : (b : Bool) (l l' : List Step) (c c' : Bool) → (T c → T c' → l' ≡ map (scale_step s) l) → T (cond b true c) → T (cond b true c') → cond b [] l' ≡ map (scale_step s) (cond b [] l)
      on true l l' c c' f g h = refl
      on false l l' c c' f g h = f g h

      go : Law n → (o : Step) → T (handed o) → T (rest o) → T (handed (scale_step s o)) → T (rest' (scale_step s o)) → follow' (scale_step s o) ≡ map (scale_step s) (follow o)
      go rec Inadmissible a g a' h = refl
      go rec (Admitted r) a g a' h =
          let fit = fits binary64 r.mu_2 in
          let fit' = fits binary64 (scale s r.mu_2) in
          let fit-p = fits binary64 r.p_1 in
          ap (λ (l : List Step). Admitted (scale_params s r) ∷ l)
          (on (settled ε p r.p_1) (trail_from step ε n r.mu_2 r.p_1) (trail_from step' ε n (scale s r.mu_2) r.p_1) _ _
          (rec r.mu_2 r.p_1 (and_l fit fit-p a) (and_l fit' fit-p a') (and_r fit fit-p a)) g h)

-- ---- a trail scaled has as many steps and ends for the same reason
last_map : (s : ℤ) (o o' : Option Step) (t : List Step) → stopped_at o' ≡ stopped_at o → stopped_at (last_or o' (map (scale_step s) t)) ≡ stopped_at (last_or o t)
last_map s o o' [] h = h
last_map s o o' (Inadmissible ∷ t) h = last_map s (Some Inadmissible) (Some Inadmissible) t refl
last_map s o o' (Admitted r ∷ t) h = last_map s (Some (Admitted r)) (Some (Admitted (scale_params s r))) t refl

stopped_map : (s : ℤ) (t : List Step) → stopped (map (scale_step s) t) ≡ stopped t
stopped_map s t = last_map s None None t refl

abbrev ended : ℕ → List Step → Ended
ended limit t = record { count = length t; reason = reason_of limit t }

ended_map : (s : ℤ) (limit : ℕ) (t : List Step) → ended limit (map (scale_step s) t) ≡ ended limit t
ended_map s limit t = ap₂ (λ (n : ℕ) (r : Reason). record { count = n; reason = cond (eqb n limit) Spent r }) (length-map t (scale_step s)) (stopped_map s t)

-- ---- the refusals
-- they ask only of the variant, the number of moments and the weight
refusals : (m m' : M2N) (p : Float) → m'.variant ≡ m.variant → m'.len ≡ m.len → walk_refusal m' p ≡ walk_refusal m p
unfolding walk_refusal
refusals m m' p v l = rw (v, l)

-- ---- the two trails, of walks not refused
abbrev fair_trail : M2N → Float → Float → Bool
fair_trail m μ p = fair_from (fair_step m.variant m.moments) (step_for m.variant m.moments) m.epsilon m.max_iter μ p

trails_scale : (s : ℤ) (m m' : M2N) (μ p : Float) → Twins s m m' μ (scale s μ) → Doubles m μ p → Doubles m' (scale s μ) p → needed_by m.variant ≤ m.len
    → T (fair_trail m μ p) → T (fair_trail m' (scale s μ) p) → trail_of m' (scale s μ) p ≡ map (scale_step s) (trail_of m μ p)
unfolding trail_of
trails_scale s m m' μ p t d d' n g h =
    let v = m.variant in
    let moments : Moments s m.moments m'.moments (needed_by v) =
    λ k l. let i = lt_of_lt_of_le l n in record { held = d.moments k i; held'' = d'.moments k (subst (λ (b : ℕ). k < b) (sym t.numbers) i); is = t.moments k i } in
    let h' : T (fair_from (fair_step v m'.moments) (step_for v m'.moments) m.epsilon m.max_iter (scale s μ) p) =
    rw (← t.variants, ← t.tolerances, ← t.limits) h in
    rw (t.variants, t.tolerances, t.limits)
    (trail_scale s m.epsilon (step_for v m.moments) (step_for v m'.moments) (fair_step v m.moments) (fair_step v m'.moments)
    (λ μ p a a' b. step_scale s m.moments m'.moments μ p a a' b v moments)
    m.max_iter μ p d.mean d'.mean d.weight g h')

-- ---- what a walk returns, by its refusal
read_off : (m : M2N) (μ p : Float) → ReadOff m.max_iter (walk_trail m μ p) (walk_of m μ p)
unfolding walk_trail walk_of
read_off m μ p = go (walk_refusal m p)
  where
    go : (r : Checked) → ReadOff m.max_iter (cond (is_ok r) (trail_of m μ p) []) (answered r m (keep_all m (trail_of m μ p)) (ended m.max_iter (trail_of m μ p)))
    go (Ok u) = record { count = λ e h. cc; reason = λ e h. cc }
    go (Err f) = record { count = λ e h. cc; reason = λ e h. cc }

-- ---- the theorem
compared : (s : ℤ) (m m' : M2N) (μ p : Float) → Twins s m m' μ (scale s μ) → Doubles m μ p → Doubles m' (scale s μ) p
    → T (fair_walk m μ p) → T (fair_walk m' (scale s μ) p) → Compared s m m' μ (scale s μ) p (walk_of m μ p) (walk_of m' (scale s μ) p)
unfolding walk_trail fair_walk walk_of
compared s m m' μ p t d d' g h =
    record {
      outcomes = subst (λ (r : Checked). (answer m' (scale s μ) r).outcome ≡ (answer m μ (walk_refusal m p)).outcome) (sym same) (ends (walk_refusal m p) alike);
      first = read_off m μ p;
      second = read_off m' (scale s μ) p;
      trails = ap (λ (r : Checked). cond (is_ok r) (trail_of m' (scale s μ) p) []) same ∙ lists (walk_refusal m p) alike;
    }
  where
    answer : M2N → Float → Checked → Walked
    answer m μ r = answered r m (keep_all m (trail_of m μ p)) (ended m.max_iter (trail_of m μ p))

    same : walk_refusal m' p ≡ walk_refusal m p
    same = refusals m m' p t.variants t.numbers

    alike : walk_refusal m p ≡ Ok tt → trail_of m' (scale s μ) p ≡ map (scale_step s) (trail_of m μ p)
    alike e = trails_scale s m m' μ p t d d' (enough m p e) (subst (λ (r : Checked). T (cond (is_ok r) (fair_trail m μ p) true)) e g) (subst (λ (r : Checked). T (cond (is_ok r) (fair_trail m' (scale s μ) p) true)) (same ∙ e) h)

    ends : (r : Checked) → (r ≡ Ok tt → trail_of m' (scale s μ) p ≡ map (scale_step s) (trail_of m μ p)) → (answer m' (scale s μ) r).outcome ≡ (answer m μ r).outcome
    ends (Ok u) e = ap (λ (x : Ended). Ok x) (ap₂ ended t.limits (e refl) ∙ ended_map s m.max_iter (trail_of m μ p))
    ends (Err f) e = refl

    lists : (r : Checked) → (r ≡ Ok tt → trail_of m' (scale s μ) p ≡ map (scale_step s) (trail_of m μ p)) → cond (is_ok r) (trail_of m' (scale s μ) p) [] ≡ map (scale_step s) (cond (is_ok r) (trail_of m μ p) [])
    lists (Ok u) e = e refl
    lists (Err f) e = refl

pub walks_scale : (m m' : M2N) (μ μ' p : Float) (w w' : Walked) → w ≡ walk_of m μ p → w' ≡ walk_of m' μ' p → Doubles m μ p → Doubles m' μ' p → WalksScale m m' μ μ' p w w'
walks_scale m m' μ μ' p w w' e e' d d' s t g h =
    rw (e, e')
    (subst (λ (x : Float). Twins s m m' μ x → Doubles m' x p → T (fair_walk m' x p) → Compared s m m' μ x p (walk_of m μ p) (walk_of m' x p)) (sym t.means) (λ t d' h. compared s m m' μ p t d d' g h) t d' h)
