-- The texts stand one after another from the front (`appended_three`).
use native.Mathlib.Omega.{arith}
use lib.ListN.{length-append}
use Rattle.text.proofs.Placing.{fronts}
use Rattle.text_write.proofs.Appending.{appended_room}
use Rattle.sheet.specs.CountSheet.{refusal}
use Rattle.sheet.proofs.Refusing.{appended_three, reason_short}
use Rattle.sheet.proofs.whole.put_refusal.Goals as goal

pub put_reason-requires : goal.put_reason-requires
put_reason-requires c = appended_room 41 (omega (arith, c.requires.empty, c.requires.room)) c.put.ensures

pub returns : goal.returns
unfolding refusal
returns c =
    let l = reason_short c.args.error in
    let whole = appended_three (omega (arith, l, c.requires.empty, c.requires.room)) c.put.ensures c.put_reason.ensures c.put-2.ensures in
    fronts _ _ _ _ (simp length-append (omega (arith, l, c.requires.room))) (rw c.requires.empty at whole.placed)
