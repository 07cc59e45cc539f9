-- Document 01's sheet, and the misreadings that it names, computed through the definitions.
use Rattle.std.specs.Prelude.{◌≡◌, refl, false, Ok, Err, List, [], ◌∷◌, map, ℤ, pos, negsuc, Float}
use Rattle.std.specs.Float.{nan, binary64}
use Rattle.std.specs.Float.Ieee.{of_bits, lt}
use Rattle.float.specs.Constants.{nought}
use Rattle.refusal.specs.Rules.{first_refusal}
use Rattle.refusal.specs.declared.Refusal.TheVariants.{TooLittleRoom, TooLarge, UnequalLengths}
use Rattle.bet_sizing.specs.declared.counts.Side.TheVariants.{Long, Short}
use Rattle.bet_sizing.specs.Counts.{concurrent, live}
use Rattle.bet_sizing.specs.Refusals.{spans_rules}

-- the spans of the sheet: 0 to 10 long, 5 to 15 short, 10 to 20 long
abbrev pub starts : List ℤ
starts = pos 0 ∷ pos 5 ∷ pos 10 ∷ []

abbrev pub ends : List ℤ
ends = pos 10 ∷ pos 15 ∷ pos 20 ∷ []

abbrev pub sides : List Float
sides = of_bits binary64 0x3ff0000000000000 ∷ of_bits binary64 0xbff0000000000000 ∷ of_bits binary64 0x3ff0000000000000 ∷ []

longs : map (λ t. concurrent Long t starts ends sides) starts ≡ 1 ∷ 1 ∷ 1 ∷ []
unfolding concurrent lt of_bits
longs = refl

shorts : map (λ t. concurrent Short t starts ends sides) starts ≡ 0 ∷ 1 ∷ 1 ∷ []
unfolding concurrent lt of_bits
shorts = refl

-- a span from 0 to 10 is not live at its own end, and one that does not end after it starts is never live
at_its_end : live (pos 10) (pos 0) (pos 10) ≡ false
at_its_end = refl

empty : live (pos 3) (pos 3) (pos 3) ≡ false
empty = refl

-- side 0 and NaN count as short
flat_sides : concurrent Short (negsuc 0) (negsuc 4 ∷ negsuc 4 ∷ []) (pos 3 ∷ pos 3 ∷ []) (nought ∷ nan ∷ []) ≡ 2
unfolding concurrent lt
flat_sides = refl

-- the refusals, in their order
refusals : (first_refusal (spans_rules 16385 3 16385 0) ∷ first_refusal (spans_rules 16385 16385 16385 0) ∷ first_refusal (spans_rules 4 4 4 3) ∷ first_refusal (spans_rules 4 4 4 4) ∷ []) ≡ Err UnequalLengths ∷ Err TooLarge ∷ Err TooLittleRoom ∷ Ok tt ∷ []
refusals = refl
