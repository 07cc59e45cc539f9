-- With i rows put, the text so far is theirs (`Rowed`).
use borrow.Author.Rules.{rules}
use native.Mathlib.Omega.{arith}
use lib.IntN.{pos}
use lib.ListN.{get_or}
use mir.Syntax.{w64}
use mir.ValLaws.{to_z-of_z}
use Rattle.std.proofs.lemmas.Grind.{common_steps}
use Rattle.sheet.proofs.Rowing.{Beside, row_one}
use Rattle.sheet.proofs.rows.put.Goals as goal

pub loop-i-preserved : goal.loop-i-preserved
loop-i-preserved c =
    let l = c.loop-i in
    let a = c.args in
    let z = to_z-of_z w64 (get_or a.starts.now l.i (pos 0)) (search rules) in
    let b : Beside a.starts.now a.ends.now a.sides.now c.get_concurrent_sides.new.long c.get_concurrent_sides.new.short c.bet_size_budget.new.size = grind (arith, common_steps) in
    let p = rw (z, c.as_usize.ensures, c.as_usize-in-loop-i.ensures, c.f64_to_bits_with_nan.ensures) at c.put_row.ensures in
    row_one a.starts.now a.ends.now a.sides.now _ _ _ a.text.now c.requires b l.text c.put_row.new.text l.i c.loop-i-test.true l.invariant p
