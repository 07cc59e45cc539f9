-- `moment_requests::orders::answer` meets its contract, by the name that the line begins with: only `raw_moment` changes the lent list. Assumes nothing.
use mathlib.Core.Path.{refl}
use Rattle.text.specs.Bytes.{bytes}
use Rattle.text.specs.Decode.{word}
use Rattle.replies.proofs.Asking.{by_name}
use Rattle.moment_requests.specs.Orders.{orders_in}
use Rattle.moment_requests.proofs.orders.answer.Goals as goal

pub returns-in-Some : goal.returns-in-Some
unfolding word
returns-in-Some c = (
  rw c.in-Some.ensures c.get_moments.ensures,
  by_name (orders_in c.args.xs.now) (bytes "get_moments") c.args.s.now _ c.in-Some.ensures (λ t. refl),
)

pub returns-in-Some-words_after : goal.returns-in-Some-words_after
unfolding word
returns-in-Some-words_after c = (
  rw (c.in_default.ensures, c.in-Some-words_after.ensures) c.centered_moment.ensures,
  by_name (orders_in c.args.xs.now) (bytes "centered_moment") c.args.s.now _ c.in-Some-words_after.ensures (λ t. refl),
)

pub returns-in-Some-words_after-2 : goal.returns-in-Some-words_after-2
returns-in-Some-words_after-2 c =
    rw (c.in_default.ensures, c.in_default-words_after.ensures, c.in-Some-words_after-2.ensures) c.raw_moment.ensures

pub returns : goal.returns
returns c = rw (c.in_default.ensures, c.in_default-words_after.ensures, c.in_default-words_after-2.ensures) (refl, refl)
