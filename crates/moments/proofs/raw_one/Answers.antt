-- `moments::raw_one` meets its contract: after k turns the sum has k terms (`Turns.antt`). Assumes nothing.
use mathlib.Core.Path.{◌≡◌}
use Prim.Native.Nat.{◌+◌}
use native.Mathlib.Omega.{arith}
use Rattle.moments.proofs.Turns.{raw_turn, raw_end}
use Rattle.moments.proofs.raw_one.Goals as goal

pub returns-2 : goal.returns-2
returns-2 c = let e : c.loop-k.k + 1 ≡ c.args.n + 1 = omega arith in
    raw_end _ _ _ (c.loop-k.k + 1) _ e (raw_turn _ _ _ c.loop-k.k _ _ _ _ c.loop-k.invariant c.comb-combin.ensures c.numbered_at-ck.ensures c.powi-p.ensures)
