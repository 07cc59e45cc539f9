-- `bet_sizing::counts::net_counts` meets its contract: after i turns the first i net counts are written (`Filling.antt`). Assumes nothing.
use Prim.Native.Nat.{ℕ}
use mathlib.Core.Path.{◌≡◌, sym, ap, ◌∙◌}
use mathlib.Core.List.{List, map}
use native.Mathlib.Omega.{arith}
use borrow.Author.Rules.{rules}
use lib.ListN.{get_or, length-map}
use lib.IntN.{ℤ, pos}
use lib.Ieee.{Float, nan}
use mir.Syntax.{w64}
use mir.ValLaws.{to_z-of_z}
use Rattle.std.proofs.lemmas.List.{get_or-map}
use Rattle.float.specs.Leaves.{as_f64}
use Rattle.float.specs.Keys.{key_of}
use Rattle.bet_sizing.specs.Counting.{net}
use Rattle.bet_sizing.specs.Sorting.{rank}
use Rattle.bet_sizing.proofs.Filling.{fill_more}
use Rattle.bet_sizing.proofs.counts.net_counts.Goals as goal

-- the count at t
abbrev at : List ℕ → List ℕ → ℤ → Float
at s e t = as_f64 (net s e t)

pub loop-i-preserved : goal.loop-i-preserved
loop-i-preserved c =
    let ts = c.args.starts.now in
    let s = c.args.s.now in
    let e = c.args.e.now in
    let x : ℤ = get_or ts c.loop-i.i (pos 0) in
    let k : c.key-k.result ≡ key_of x = c.key-k.ensures ∙ ap key_of (to_z-of_z w64 x (record { sfits = search rules })) in
    let n : c.saturating_sub-count.result ≡ net s e x =
    omega (arith, c.saturating_sub-count.ensures, c.rank_of.ensures, c.rank_of-in-loop-i.ensures, ap (λ (z : ℕ). rank z s) k, ap (λ (z : ℕ). rank z e) k) in
    fill_more (map (at s e) ts) c.args.out.now c.loop-i.out c.loop-i.i c.loop-i.invariant _ (omega (arith, length-map ts (at s e))) (omega (arith, length-map ts (at s e), c.requires.room))
    (ap as_f64 n ∙ sym (get_or-map (at s e) ts c.loop-i.i (pos 0) nan (omega arith)))
