-- `run_requests::runs::fill` meets its contract, by whether the runs are refused (`Room.antt`). Assumes nothing.
use mathlib.Core.Path.{refl, sym}
use native.Mathlib.Omega.{arith}
use lib.Seq.{length-take-le}
use Rattle.fit_state.specs.Rows.{flat_of}
use Rattle.fit_runs.proofs.Running.{few_rows, none_run}
use Rattle.run_requests.proofs.runs.Room.{all_rows, answered, few, rows_lent}
use Rattle.run_requests.proofs.runs.fill.Goals as goal

pub slice_bounds-rows-end-in-Ok : goal.slice_bounds-rows-end-in-Ok
slice_bounds-rows-end-in-Ok c =
    let e = answered c.args.m c.args.weights.now c.min-room.result _ _ refl c.min.ensures c.mp_fit.ensures.0 c.in-Ok.is in
    rw (all_rows c.args.m c.args.weights.now c.min-room.result _ _ refl c.min.ensures _ c.mp_fit.auto.rows) (few _ _ _ _ e).1

pub slice_bounds-put_rows-end : goal.slice_bounds-put_rows-end
slice_bounds-put_rows-end c =
    let e = answered c.args.m c.args.weights.now c.min-room.result _ _ refl c.min.ensures c.mp_fit.ensures.0 c.in-Ok.is in
    let all = all_rows c.args.m c.args.weights.now c.min-room.result _ _ refl c.min.ensures _ c.mp_fit.auto.rows in
    sym (length-take-le _ _ (omega (arith, all, (few _ _ _ _ e).1)))

pub overflow_mul-result : goal.overflow_mul-result
overflow_mul-result c =
    let e = answered c.args.m c.args.weights.now c.min-room.result _ _ refl c.min.ensures c.mp_fit.ensures.0 c.in-Ok.is in
    omega (arith, (few _ _ _ _ e).1)

pub put_rows-requires : goal.put_rows-requires
put_rows-requires c =
    let e = answered c.args.m c.args.weights.now c.min-room.result _ _ refl c.min.ensures c.mp_fit.ensures.0 c.in-Ok.is in
    rw (c.mp_fit.ensures.1, rows_lent _ _ _ _ _ refl c.min.ensures _ e) (omega (arith, few_rows c.args.m c.args.weights.now c.min-room.result, c.min-room.ensures))

pub returns-in-Ok : goal.returns-in-Ok
returns-in-Ok c =
    let e = answered c.args.m c.args.weights.now c.min-room.result _ _ refl c.min.ensures c.mp_fit.ensures.0 c.in-Ok.is in
    rw (← c.min-room.ensures, e, c.put_rows.ensures, c.mp_fit.ensures.1, rows_lent _ _ _ _ _ refl c.min.ensures _ e) (refl, refl)

pub returns-in-Err : goal.returns-in-Err
unfolding flat_of
returns-in-Err c =
    let e = answered c.args.m c.args.weights.now c.min-room.result _ _ refl c.min.ensures c.mp_fit.ensures.0 c.in-Err.is in
    rw (c.from.ensures, ← c.min-room.ensures, e, none_run c.args.m c.args.weights.now c.min-room.result _ e) (refl, refl)
