-- The sizes by the counts at each start, as the parts of the code promise each other. Definitions only.
use Rattle.std.specs.Prelude.{List, [], ◌∷◌, Float}
use Rattle.std.specs.Float.{binary64}
use Rattle.std.specs.Float.Ieee.{sub}
use Rattle.budget.specs.Budget.{largest, share}

-- the sizes, from the counts of both sides at each start and the largest of each side
unfoldable pub sizes_by : Float → Float → List Float → List Float → List Float
sizes_by a b [] ss = []
sizes_by a b (l ∷ ls) [] = []
sizes_by a b (l ∷ ls) (s ∷ ss) = sub binary64 (share l a) (share s b) ∷ sizes_by a b ls ss

abbrev pub sizes_of : List Float → List Float → List Float
sizes_of ls ss = sizes_by (largest ls) (largest ss) ls ss
