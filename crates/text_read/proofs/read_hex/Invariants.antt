use Prim.Native.Nat.{◌-◌, ◌^◌, ◌<◌}
use mathlib.Core.Path.{◌≡◌}
use mathlib.Core.List.{◌++◌}
use lib.ListN.{drop}
use Rattle.text.specs.Decode.{hexes}
use Rattle.text_read.proofs.read_hex.Given as goal

abbrev pub invariant-loop-b : goal.invariant-loop-b
invariant-loop-b l = (hexes 16 0 l.s ≡ hexes (16 - l.b-index) l.value (drop l.b-index l.digits ++ l.rest)) × (l.value < 16 ^ l.b-index)
