-- A table of known values: each row is an argument and its answer. Definitions only.
use Rattle.std.specs.Prelude.{List, [], ◌∷◌}

infix 3 ◌⇒◌
pub data Row (A B : Type 0) : Type 0 where
  ◌⇒◌ : A → B → Row A B

module _ {A B : Type 0} where
  -- what a function answers to each argument
  unfoldable pub answers : (A → B) → List (Row A B) → List B
  answers f [] = []
  answers f ((a ⇒ b) ∷ t) = f a ∷ answers f t

  -- what it is to answer
  unfoldable pub expected : List (Row A B) → List B
  expected [] = []
  expected ((a ⇒ b) ∷ t) = b ∷ expected t
