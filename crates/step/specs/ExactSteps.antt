-- The statement that both steps are exact where every number met is whole. Definitions only; `proofs/WholeSteps.antt` proves `StepsExact`.
use Rattle.formula.specs.Exact.{ExactWhereWhole}
use Rattle.step.specs.Steps.{iter_4, iter_5}

abbrev pub StepsExact : Type 0
StepsExact = ExactWhereWhole iter_4 × ExactWhereWhole iter_5
