-- `capi_steps::woddirme_iterate_from` meets its contract where `fit` is long enough: by what each call ensures. Assumes nothing.
use borrow.Author.Tests.{le-ltb}
use lib.ListN.{length}
use Rattle.capi_steps.specs.Walks.{outcome_of, walked}
use Rattle.capi_steps.proofs.woddirme_iterate_from.Goals as goal

pub returns : goal.returns
unfolding outcome_of walked
returns c =
    rw (le-ltb (length c.args.fit.now) 12 c.if-fit-lt12.false, ← c.state_of-m.ensures, ← c.iterate_from-walked.ensures, c.status_of.ensures) c.leave_walk.ensures
