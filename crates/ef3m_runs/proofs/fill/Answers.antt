use Rattle.std.proofs.Common.{[], ◌<◌, arith, ap, get_or, get_or-take, length-take-le, set, ◌∙◌}
use Rattle.ef3m_runs.proofs.Lists.{next_cur, starts}
use Rattle.fit_state.proofs.Flats.{six_at}
use Rattle.fit_state.specs.Rows.{row_from}
use Rattle.ef3m_runs.proofs.fill.Goals as goal

pub loop-i-init : goal.loop-i-init
loop-i-init c = starts c.args.flat.now c.args.rows.now

pub loop-i-preserved : goal.loop-i-preserved
loop-i-preserved c =
    let l = c.loop-i in
    let sixes = c.as_chunks.result.0.now in
    let below : l.i < c.args.n = omega (arith, length-take-le c.args.n sixes (omega arith)) in
    let row = c.from.ensures ∙ ap row_from (get_or-take c.args.n sixes l.i [] below) ∙ ap (λ xs. row_from (get_or xs l.i [])) c.as_chunks.ensures.front ∙ six_at c.args.flat.now _ l.i [] (omega arith) in
    ap (λ xs. set xs l.i c.from.result) l.invariant ∙ next_cur _ c.args.rows.now l.i c.from.result (omega arith) row
