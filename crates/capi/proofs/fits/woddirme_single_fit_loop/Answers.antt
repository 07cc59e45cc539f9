-- `capi::fits::woddirme_single_fit_loop` meets its contract: by which slice is too short, or by what each call ensures (`Fitting.antt`). Assumes nothing.
use Rattle.capi.proofs.Fitting.{too_short, leaves}
use Rattle.capi.proofs.fits.woddirme_single_fit_loop.Goals as goal

pub returns-then-fit-lt12 : goal.returns-then-fit-lt12
returns-then-fit-lt12 c =
    let a = c.args in
    let h = c.then-fit-lt12.either in
    let e = too_short a.moments.now a.variant a.factor a.max_iter a.epsilon_override.now a.weights.now a.fit.now a.row.now h in
    (rw e c.from.ensures, rw e, rw e, rw e)

pub returns : goal.returns
returns c =
    let a = c.args in
    rw c.status_of.ensures (leaves a.moments.now a.variant a.factor a.max_iter a.epsilon_override.now a.weights.now a.fit.now a.row.now _ _ _ _ _ _ _ _ c.state_of-m.ensures c.override_of.ensures c.single_fit_loop-f.ensures c.if-fit-lt12.false c.if-row-lt6.false c.leave.ensures)
