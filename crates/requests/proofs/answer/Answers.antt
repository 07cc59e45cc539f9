-- `requests::answer` meets its contract, by which kind replied first; the kinds after it leave the lent list alone, for the line has none of their names. Assumes nothing.
use mathlib.Core.Path.{◌≡◌, ◌∙◌}
use native.Mathlib.Omega.{arith}
use lib.ListN.{length}
use Rattle.requests.specs.Lines.{left_in, reply_to}
use Rattle.requests.proofs.Names.{by_curves, by_fits, by_leaves, by_orders, by_runs}
use Rattle.requests.proofs.answer.Goals as goal

pub returns-in-Some : goal.returns-in-Some
unfolding reply_to
returns-in-Some c = (rw (← c.in-Some.ensures), by_leaves _ _ c.in-Some.ensures)

pub returns-in-Some-answer : goal.returns-in-Some-answer
unfolding reply_to left_in
returns-in-Some-answer c =
    let moment = c.in-Some-answer.ensures in
    (rw (← c.in_default.ensures, ← moment.0), moment.1 ∙ by_orders _ _ _ moment.0)

pub returns-in-Some-fits : goal.returns-in-Some-fits
unfolding reply_to left_in
returns-in-Some-fits c =
    let orders = c.in_default-answer.ensures in
    let fit = c.in-Some-fits.ensures in
    (rw (← c.in_default.ensures, ← orders.0, ← fit), orders.1 ∙ by_fits _ _ fit)

pub returns-in-Some-answer-2 : goal.returns-in-Some-answer-2
unfolding reply_to left_in
returns-in-Some-answer-2 c =
    let orders = c.in_default-answer.ensures in
    let rows = c.in-Some-answer-2.ensures in
    let same : length c.answer-2.new.xs ≡ length c.args.xs.now = omega arith in
    (rw (← c.in_default.ensures, ← orders.0, ← c.in_default-fits.ensures, ← same, ← rows.0), rw (← orders.1, ← rows.1) (by_runs _ _ _ rows.0))

pub returns-in-Some-answer-3 : goal.returns-in-Some-answer-3
unfolding reply_to left_in
returns-in-Some-answer-3 c =
    let orders = c.in_default-answer.ensures in
    let runs = c.in_default-answer-2.ensures in
    let same : length c.answer-2.new.xs ≡ length c.args.xs.now = omega arith in
    (rw (← c.in_default.ensures, ← orders.0, ← c.in_default-fits.ensures, ← same, ← runs.0, ← c.in-Some-answer-3.ensures), rw (← orders.1, ← runs.1) (by_curves _ _ c.in-Some-answer-3.ensures))

pub returns : goal.returns
unfolding reply_to left_in
returns c =
    let orders = c.in_default-answer.ensures in
    let runs = c.in_default-answer-2.ensures in
    let same : length c.answer-2.new.xs ≡ length c.args.xs.now = omega arith in
    let still : length c.answer-3.new.xs ≡ length c.args.xs.now = omega arith in
    (rw (← c.in_default.ensures, ← orders.0, ← c.in_default-fits.ensures, ← rw same at runs.0, ← c.in_default-answer-3.ensures, ← still) c.answer-5.ensures.0, rw (← orders.1, ← runs.1) c.answer-5.ensures.1)
