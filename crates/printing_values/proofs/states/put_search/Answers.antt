-- `printing_values::states::put_search` meets its contract: it puts one text after another. Assumes nothing.
use Rattle.printing_values.proofs.Fractions.{puts_more}
use Rattle.text_write.proofs.Putting.{puts_first, puts_then}
use Rattle.printing_values.proofs.states.put_search.Goals as goal

pub returns : goal.returns
returns c =
    let state = puts_more _ _ c.put_fractions.ensures (puts_more _ _ c.put_fractions-2.ensures c.put_fractions-3.ensures) in
    puts_then c.put_found.ensures (puts_first c.put.ensures (rw (c.from.ensures, c.from-2.ensures) at state))
