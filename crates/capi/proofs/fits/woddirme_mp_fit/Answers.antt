-- `capi::fits::woddirme_mp_fit` meets its contract: by whether `fit` is too short, or by what each call ensures (`Several.antt`). Assumes nothing.
use Rattle.capi.proofs.Several.{short, roomy, leaves}
use Rattle.capi.proofs.fits.woddirme_mp_fit.Goals as goal

pub returns-then-fit-lt12 : goal.returns-then-fit-lt12
returns-then-fit-lt12 c =
    let a = c.args in
    let e = short a.moments.now a.variant a.factor a.max_iter a.n_runs a.weights.now a.fit.now a.rows.now c.if-fit-lt12.true in
    (rw e c.from.ensures, rw e, rw e)

pub leave_rows-requires : goal.leave_rows-requires
leave_rows-requires c = roomy _ _ c.args.rows.now _ c.mp_fit_flat-f.ensures

pub returns : goal.returns
returns c =
    let a = c.args in
    rw c.status_of.ensures (leaves a.moments.now a.variant a.factor a.max_iter a.n_runs a.weights.now a.fit.now a.rows.now _ _ _ _ _ _ c.state_of-m.ensures c.mp_fit_flat-f.ensures c.if-fit-lt12.false c.leave_rows.ensures)
