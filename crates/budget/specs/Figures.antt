-- The budget sizes of document 01's sheet, and where there is no short span, computed through the definitions.
use Rattle.std.specs.Prelude.{◌≡◌, refl, [], ◌∷◌, map, pos}
use Rattle.std.specs.Float.{binary64}
use Rattle.std.specs.Float.Ieee.{of_bits, to_bits, of_int, lt, div, sub, round, units, odd, size, sum, add, neg, span, climb}
use Rattle.float.specs.Constants.{one}
use Rattle.float.specs.Leaves.{larger_of}
use Rattle.bet_sizing.specs.Counts.{concurrent}
use Rattle.bet_sizing.specs.Figures.{starts, ends, sides}
use Rattle.budget.specs.Budget.{budget_sizes, largest_from}

sizes : map (to_bits binary64) (budget_sizes starts ends sides) ≡ 0x3ff0000000000000 ∷ 0x0000000000000000 ∷ 0x0000000000000000 ∷ []
unfolding concurrent largest_from larger_of lt of_bits to_bits of_int div sub add neg sum round units odd size span climb
sizes = refl

-- with no short span, its side is +0, and the sizes are the longs' alone
longs_alone : map (to_bits binary64) (budget_sizes (pos 0 ∷ pos 5 ∷ []) (pos 9 ∷ pos 9 ∷ []) (one ∷ one ∷ [])) ≡ 0x3fe0000000000000 ∷ 0x3ff0000000000000 ∷ []
unfolding concurrent largest_from larger_of lt to_bits of_int div sub add neg sum round units odd size span climb
longs_alone = refl
