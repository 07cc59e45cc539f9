-- `printing_values::states::put_walk` meets its contract: it puts one text after another. Assumes nothing.
use Rattle.printing_values.proofs.Fractions.{puts_more}
use Rattle.text_write.proofs.Putting.{puts_then}
use Rattle.printing_values.proofs.states.put_walk.Goals as goal

pub returns : goal.returns
returns c =
    let state = puts_more _ _ c.put_fractions.ensures (puts_more _ _ c.put_fractions-2.ensures c.put_fractions-3.ensures) in
    puts_then c.put_natural.ensures
    (puts_then c.put_natural-2.ensures (rw (c.from.ensures, c.from-2.ensures) at state))
