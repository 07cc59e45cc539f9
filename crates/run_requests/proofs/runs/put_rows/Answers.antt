-- `run_requests::runs::put_rows` meets its contract: a turn puts one row behind the others (`Rows.antt`). Assumes nothing.
use mathlib.Core.Path.{◌∙◌}
use native.Mathlib.Omega.{arith}
use Rattle.run_requests.proofs.runs.Rows.{none_put, next_put}
use Rattle.run_requests.proofs.runs.put_rows.Goals as goal

pub loop-i-init : goal.loop-i-init
loop-i-init c = none_put c.args.rows.now c.args.xs.now

pub loop-i-preserved : goal.loop-i-preserved
loop-i-preserved c =
    c.put_at.ensures ∙ rw c.loop-i.invariant (next_put c.args.rows.now c.args.xs.now c.loop-i.i _ (omega arith) c.requires)
