-- `step::curves::curves_from` meets its contract: each way through the code is a run of the first half. Assumes nothing.
use mathlib.Core.Path.{refl}
use lib.Ieee.{of_bits}
use Rattle.float.specs.Power.{power_of}
use Rattle.formula.specs.Formula.{eval, stops, admitted}
use Rattle.formula.proofs.Runs.{done, then, stop, pass}
use Rattle.step.specs.Parts.{variance_at}
use Rattle.step.proofs.FirstHalf.{deviations, zero, below, on}
use Rattle.step.proofs.curves.curves_from.Goals as goal

pub returns-then-den_24 : goal.returns-then-den_24
unfolding variance_at eval of_bits power_of
returns-then-den_24 c ms = zero _ _ _ _ c.variance_at-mu_1.ensures c.if-den_24.true

pub returns-then-sigma_2_squared : goal.returns-then-sigma_2_squared
unfolding variance_at eval of_bits power_of
returns-then-sigma_2_squared c ms = below _ _ _ _ c.variance_at-mu_1.ensures c.if-sigma_2_squared.true

pub returns-then-sigma_1_squared : goal.returns-then-sigma_1_squared
unfolding variance_at deviations stops eval of_bits power_of
returns-then-sigma_1_squared c ms = on _ _ _ _ c.variance_at-mu_1.ensures _
    c.if-den_24.false c.if-sigma_2_squared.false
    (then c.sqrt-sigma_2.result c.sqrt-sigma_2.ensures
    (then _ refl (stop c.if-sigma_1_squared.true)))

pub returns : goal.returns
unfolding variance_at deviations stops eval of_bits power_of
returns c ms = record {
  den24 = _;
  sigma2² = _;
  sigma1² = _;
  runs =
      on _ _ _ _ c.variance_at-mu_1.ensures (admitted _)
      c.if-den_24.false c.if-sigma_2_squared.false
      (then c.sqrt-sigma_2.result c.sqrt-sigma_2.ensures
      (then _ refl (pass c.if-sigma_1_squared.false
      (then c.sqrt.result c.sqrt.ensures done))));
}
