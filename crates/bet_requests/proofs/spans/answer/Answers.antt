-- `bet_requests::spans::answer` meets its contract, by the name that the line begins with. Assumes nothing.
use mathlib.Core.Path.{refl}
use Rattle.bet_requests.proofs.spans.answer.Goals as goal

pub returns-in-Some : goal.returns-in-Some
returns-in-Some c = rw c.in-Some.ensures c.request.ensures

pub returns-in-Some-words_after : goal.returns-in-Some-words_after
returns-in-Some-words_after c = rw (c.in_default.ensures, c.in-Some-words_after.ensures) c.request-in-Some-words_after.ensures

pub returns : goal.returns
returns c = rw (c.in_default.ensures, c.in_default-words_after.ensures) (refl, refl)
