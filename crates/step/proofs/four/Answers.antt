-- `step::four` meets its contract: each way through the code is a run of the program, its first half by what `curves_from` ensures. Assumes nothing.
use mathlib.Core.Path.{refl, ◌∙◌}
use lib.Ieee.{of_bits}
use Rattle.float.specs.Power.{power_of}
use Rattle.formula.specs.Formula.{eval, stops}
use Rattle.formula.proofs.Runs.{done, then, stop, pass}
use Rattle.step.proofs.StepRuns.{kind_4, between_4, ran, not_ran, stopped, stops_as, weighs, is_4}
use Rattle.step.proofs.four.Goals as goal

pub returns-in_default : goal.returns-in_default
returns-in_default c = stopped kind_4 _ (not_ran _ (c.curves_from.ensures _) c.in_default.is) ∙ is_4 _ _ _

pub returns-then-p_1_deno : goal.returns-then-p_1_deno
unfolding between_4 stops eval of_bits power_of
returns-then-p_1_deno c =
    stops_as kind_4 (is_4 _ _ _) (c.curves_from.ensures _) c.in-Some.is
    (then _ refl (stop c.if-p_1_deno.true))

pub returns : goal.returns
unfolding between_4 stops eval of_bits power_of
returns c =
    let first = ran (c.curves_from.ensures _) c.in-Some.is in
    weighs kind_4 _ first _ (then _ refl (pass c.if-p_1_deno.false (then _ refl done))) _ c.weighed.ensures ∙ is_4 _ _ _
