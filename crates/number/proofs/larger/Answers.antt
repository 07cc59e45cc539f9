-- `number::larger` meets its contract, by its tests (`Sizes.antt`). Assumes nothing.
use Rattle.std.proofs.Common.{sym, ◌∙◌}
use Rattle.number.proofs.Sizes.{larger_nan, larger_second, larger_first}
use Rattle.number.proofs.larger.Goals as goal
use Rattle.number.proofs.larger.Goals.{then-is_nan, else-is_nan}

pub returns-then-x-y : goal.returns-then-x-y
returns-then-x-y c = elim c.if-is_nan.branch [
  | then-is_nan w ↦ larger_nan _ _ (sym c.is_nan.ensures.value ∙ w.if-is_nan.true)
  | else-is_nan w ↦ larger_second _ _ (sym w.value-is ∙ c.if-x-y.true)
]

pub returns-else-x-y : goal.returns-else-x-y
returns-else-x-y c = elim c.if-is_nan.branch [
  | then-is_nan w ↦ cc
  | else-is_nan w ↦ larger_first _ _ (sym c.is_nan.ensures.value ∙ w.if-is_nan.false) (sym w.value-is ∙ c.if-x-y.false)
]
