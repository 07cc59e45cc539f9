-- A trail entry by entry; what the code has of a step; and the check of a state. Assumes nothing.
use mathlib.Core.Path.{◌≡◌, refl, sym, ap, ◌∙◌}
use mathlib.Core.List.{List, [], ◌∷◌}
use mathlib.Core.Bool.{Bool, true, false, not, ◌||◌, cond}
use Prim.Native.Nat.{ℕ, suc, ◌≤◌}
use lib.Dec.{eqb}
use lib.Ieee.{Float, binary64, sub, lt}
use Rattle.float.specs.Leaves.{abs_of}
use borrow.Author.Tests.{eqb-true, ltb-false}
use Rattle.float.specs.Power.{power_of}
use Rattle.formula.specs.Formula.{eval}
use Rattle.moments.specs.Mixture.{get_moments}
use Rattle.moments.specs.Lists.{five_of, listed}
use Rattle.refusal.proofs.Refusing.{accepted}
use Rattle.refusal.proofs.Rules.{none_holds, accepts}
use Rattle.std.specs.Prelude.{Ok}
use Rattle.moments.specs.declared.Five.{Five}
use Rattle.moments.specs.declared.Params.{Params}
use Rattle.step.specs.Steps.{sigma2_squared}
use Rattle.step.specs.declared.Step.{Step}
use Rattle.step.specs.declared.Step.TheVariants.{Admitted, Inadmissible}
use Rattle.fit_state.proofs.Sums.{error_is}
use Rattle.walk.specs.Parts.{fit_after, shape_variant}
use Rattle.fit_state.specs.State.{with_fit}
use Rattle.walk.specs.Trail.{settled, step_for, trail_from}
use Rattle.walk.specs.Variants.{is_variant, variant_at, variant_number}
use Rattle.walk.specs.Walk.{needed_by, keep_of, walk_refusal, walk_rules, shape_refusal, shape_rules}
use Rattle.fit_state.specs.declared.M2N.{M2N}
use Rattle.fit_state.specs.declared.Fit.{Fit}
use Rattle.walk.specs.declared.Variant.{Variant}
use Rattle.walk.specs.declared.Variant.TheVariants.{FourMoments, FiveMoments}

-- ---- one entry
-- the fit after an admitted iterate, at a state's moments
abbrev pub fit_next : M2N → Fit → Params → Fit
fit_next m f r = fit_after m.len (five_of m.moments) f r

pub keeps : (m : M2N) (f : Fit) (r : Params) → keep_of (with_fit m f) (Admitted r) ≡ with_fit m (fit_next m f r)
unfolding keep_of fit_after
keeps m f r = rw (error_is (with_fit m f) (get_moments r))

-- ---- the ways on
pub out : (step : Float → Float → Step) (ε : Float) (n : ℕ) (μ p : Float) → step μ p ≡ Inadmissible → trail_from step ε (suc n) μ p ≡ Inadmissible ∷ []
unfolding trail_from
out step ε n μ p e = rw (e, trail_from)

pub on : (step : Float → Float → Step) (ε : Float) (n : ℕ) (μ p : Float) (r : Params) → step μ p ≡ Admitted r → trail_from step ε (suc n) μ p ≡ Admitted r ∷ cond (settled ε p r.p_1) [] (trail_from step ε n r.mu_2 r.p_1)
unfolding trail_from
on step ε n μ p r e = rw (e, trail_from)

-- ---- what the code does at the first five moments a, in the state that has taken k steps
pub stepped_on : (m : M2N) (v : Variant) (a : Five) (μ p : Float) (r s : Step) → variant_number v ≡ m.variant → a ≡ five_of m.moments → r ≡ step_for (variant_number v) (listed a) μ p → r ≡ s → step_for m.variant m.moments μ p ≡ s
unfolding step_for
stepped_on m v a μ p r s hv ha hr hs = ap (λ n. step_for n m.moments μ p) (sym hv) ∙ sym (hr ∙ ap (λ x. step_for (variant_number v) (listed x) μ p) ha) ∙ hs

pub five_enough : (ms : List Float) (a : Five) (μ p : Float) → a ≡ five_of ms → sigma2_squared ms μ p ≡ sigma2_squared (listed a) μ p
unfolding sigma2_squared eval power_of
five_enough ms a μ p ha = sym (ap (λ x. sigma2_squared (listed x) μ p) ha)

pub fit_on : (m : M2N) (a : Five) (f g : Fit) (r : Params) → a ≡ five_of m.moments → g ≡ fit_after m.len a f r → g ≡ fit_next m f r
fit_on m a f g r ha hg = hg ∙ ap (λ x. fit_after m.len x f r) ha

pub settled_on : (ε p p' d : Float) (b : Bool) → d ≡ abs_of (sub binary64 p p') → lt d ε ≡ b → settled ε p p' ≡ b
settled_on ε p p' d b hd hb = ap (λ x. lt x ε) (sym hd) ∙ hb

-- ---- a walk that is not refused
-- a walk not refused has the moments that its step reads
pub enough : (m : M2N) (p : Float) → walk_refusal m p ≡ Ok tt → needed_by m.variant ≤ m.len
unfolding walk_refusal
enough m p e = let h = none_holds (walk_rules m p) e in search ltb-false

variant_is : (n : ℕ) → not (is_variant n) ≡ false → variant_number (variant_at n) ≡ n
variant_is n h = go (eqb n 1) (eqb n 2) (eqb-true n 1) (eqb-true n 2) h
  where
    go : (a b : Bool) → (a ≡ true → n ≡ 1) → (b ≡ true → n ≡ 2) → not (a || b) ≡ false → variant_number (cond a FourMoments FiveMoments) ≡ n
    go true b f g h = sym (f refl)
    go false true f g h = sym (g refl)
    go false false f g h = cc

-- ---- the check of a state
pub has_shape : (m : M2N) (v : Variant) → Ok v ≡ shape_variant m → Ok tt ≡ shape_refusal m
has_shape m v h = (accepted (shape_refusal m) (variant_at m.variant) v h).0

pub its_variant : (m : M2N) (v : Variant) → Ok v ≡ shape_variant m → variant_number v ≡ m.variant
unfolding shape_refusal
its_variant m v h =
    let k = accepted (shape_refusal m) (variant_at m.variant) v h in
    let none = none_holds (shape_rules m) (sym k.0) in
    ap variant_number k.1 ∙ variant_is m.variant none.0

-- a walk that is not refused has a state that is not
pub shape_allowed : (m : M2N) (p : Float) → walk_refusal m p ≡ Ok tt → shape_refusal m ≡ Ok tt
unfolding walk_refusal shape_refusal
shape_allowed m p h = let none = none_holds (walk_rules m p) h in accepts (shape_rules m) (none.0, (none.1.0, (none.1.1.0, tt)))
