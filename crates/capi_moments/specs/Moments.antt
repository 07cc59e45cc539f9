-- What the C functions of the moments answer, and what they leave in the lent numbers. Definitions only.
use Rattle.std.specs.Prelude.{List, ◌++◌, ℕ, length, take, drop, Float}
use Rattle.moments.specs.Lists.{listed}
use Rattle.moments.specs.declared.Five.{Five}
use Rattle.refusal.specs.Numbers.{if_accepted, status_of}
use Rattle.refusal.specs.Rules.{first_refusal, room_rules}

-- the lent numbers with five moments in their front, as far as there are places
abbrev pub with_five : List Float → Five → List Float
with_five l m = take (length l) (listed m) ++ drop 5 l

-- five places are needed; a refusal leaves the lent numbers as they were
abbrev pub moments_number : List Float → ℕ
moments_number l = status_of (first_refusal (room_rules (length l) 5))

abbrev pub moments_after : Five → List Float → List Float
moments_after m before = if_accepted (first_refusal (room_rules (length before) 5)) (with_five before m) before
