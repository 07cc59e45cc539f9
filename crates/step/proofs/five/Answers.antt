-- `step::five` meets its contract: each way through the code is a run of the program, its first half by what `curves_from` ensures. Assumes nothing.
use mathlib.Core.Path.{refl, sym, ap, ◌∙◌}
use mathlib.Core.Bool.{not}
use lib.Ieee.{of_bits}
use Rattle.float.specs.Power.{power_of}
use Rattle.formula.specs.Formula.{eval, stops}
use Rattle.formula.proofs.Runs.{done, then, stop, pass}
use Rattle.step.specs.Parts.{fifth_moment}
use Rattle.step.proofs.StepRuns.{kind_5, between_5, ran, not_ran, stopped, stops_as, weighs, is_5}
use Rattle.step.proofs.five.Goals as goal

pub returns-in_default : goal.returns-in_default
returns-in_default c = stopped kind_5 _ (not_ran _ (c.curves_from.ensures _) c.in_default.is) ∙ is_5 _ _ _

pub returns-then-p_1 : goal.returns-then-p_1
unfolding between_5 stops eval of_bits power_of
returns-then-p_1 c =
    stops_as kind_5 (is_5 _ _ _) (c.curves_from.ensures _) c.in-Some.is
    (stop c.if-p_1.true)

pub returns-then-a_1_squared : goal.returns-then-a_1_squared
unfolding between_5 stops eval of_bits power_of
returns-then-a_1_squared c =
    stops_as kind_5 (is_5 _ _ _) (c.curves_from.ensures _) c.in-Some.is
    (pass c.if-p_1.false (then _ refl (stop c.if-a_1_squared.true)))

pub returns-then-not-is_finite : goal.returns-then-not-is_finite
unfolding between_5 stops eval of_bits power_of
returns-then-not-is_finite c =
    stops_as kind_5 (is_5 _ _ _) (c.curves_from.ensures _) c.in-Some.is
    (pass c.if-p_1.false (then _ refl
    (pass c.if-a_1_squared.false
    (then c.sqrt-a_1.result c.sqrt-a_1.ensures (then _ refl (stop (ap not (sym c.is_finite.ensures) ∙ (ap not c.if-not-is_finite.true))))))))

pub returns-then-mu_2_squared : goal.returns-then-mu_2_squared
unfolding between_5 stops eval of_bits power_of
returns-then-mu_2_squared c =
    stops_as kind_5 (is_5 _ _ _) (c.curves_from.ensures _) c.in-Some.is
    (pass c.if-p_1.false (then _ refl
    (pass c.if-a_1_squared.false
    (then c.sqrt-a_1.result c.sqrt-a_1.ensures (then _ refl
    (pass (ap not (sym c.is_finite.ensures) ∙ (ap not c.if-not-is_finite.false)) (stop c.if-mu_2_squared.true)))))))

pub returns-then-a_2-b_2 : goal.returns-then-a_2-b_2
unfolding between_5 fifth_moment stops eval of_bits power_of
returns-then-a_2-b_2 c =
    stops_as kind_5 (is_5 _ _ _) (c.curves_from.ensures _) c.in-Some.is
    (pass c.if-p_1.false (then _ refl
    (pass c.if-a_1_squared.false
    (then c.sqrt-a_1.result c.sqrt-a_1.ensures (then _ refl
    (pass (ap not (sym c.is_finite.ensures) ∙ (ap not c.if-not-is_finite.false))
    (pass c.if-mu_2_squared.false
    (then c.sqrt-mu_2_new.result c.sqrt-mu_2_new.ensures
    (then c.fifth-a_2.result c.fifth-a_2.ensures (then c.fifth-b_2.result c.fifth-b_2.ensures (stop c.if-a_2-b_2.true)))))))))))

pub returns : goal.returns
unfolding between_5 fifth_moment stops eval of_bits power_of
returns c =
    let first = ran (c.curves_from.ensures _) c.in-Some.is in
    weighs kind_5 _ first _
    (pass c.if-p_1.false (then _ refl
    (pass c.if-a_1_squared.false
    (then c.sqrt-a_1.result c.sqrt-a_1.ensures (then _ refl
    (pass (ap not (sym c.is_finite.ensures) ∙ (ap not c.if-not-is_finite.false))
    (pass c.if-mu_2_squared.false
    (then c.sqrt-mu_2_new.result c.sqrt-mu_2_new.ensures
    (then c.fifth-a_2.result c.fifth-a_2.ensures (then c.fifth-b_2.result c.fifth-b_2.ensures
    (pass c.if-a_2-b_2.false (then _ refl done))))))))))))
    _ c.weighed.ensures
    ∙ is_5 _ _ _
