-- `capi_states::state_of` meets its contract: each of the flat numbers is there, or 0 (`Numbers.antt`). Assumes nothing.
use mathlib.Core.Path.{◌≡◌, ap, ◌∙◌}
use lib.Dec.{lit<}
use lib.Ieee.{nan}
use lib.ListN.{get_or, take, drop}
use Rattle.moments.specs.Lists.{five_of, params_of}
use Rattle.capi_states.specs.States.{first}
use Rattle.capi_states.proofs.Numbers.{first_at, five_last, params_first}
use Rattle.capi_states.proofs.state_of.Goals as goal

pub returns : goal.returns
returns c =
    let l = c.args.fit.now in
    let n : c.first-numbers.result ≡ first 12 l = c.first-numbers.ensures in
    let m : c.first-3.result ≡ first 16 c.args.moments.now = c.first-3.ensures in
    let later : c.first.result ≡ first 5 (take 5 (drop 7 c.first-numbers.result)) = c.first.ensures in
    let front : c.first-2.result ≡ first 5 c.first-numbers.result = c.first-2.ensures in
    let five = c.from.ensures ∙ ap five_of (later ∙ ap (λ x. first 5 (take 5 (drop 7 x))) n) ∙ five_last l in
    let params = c.from-2.ensures ∙ ap params_of (front ∙ ap (first 5) n) ∙ params_first l in
    rw (c.from-3.ensures, m, five, params, ap (λ x. get_or x 6 nan) n ∙ first_at 12 l 6 nan (lit< tt), ap (λ x. get_or x 5 nan) n ∙ first_at 12 l 5 nan (lit< tt))
