-- `budget::largest` meets its contract: what the fold has is the largest of the counts so far. Assumes nothing.
use mathlib.Core.Path.{◌≡◌, refl, subst}
use borrow.Author.Rules.{rules}
use lib.Ieee.{of_bits}
use Rattle.std.proofs.lemmas.Fn.{fold_over, slice_gives, fronts}
use Rattle.float.specs.Constants.{nought}
use Rattle.budget.specs.Budget.{largest, largest_from}
use Rattle.budget.proofs.Sizing.{largest_push}
use Rattle.budget.proofs.largest.Goals as goal

pub returns : goal.returns
unfolding largest_from of_bits
returns c = subst (λ l. c.fold.result ≡ largest l) c.iter.ensures.rest
    (fold_over fronts (λ y. y.now) _ (λ ys most. most ≡ largest ys) _ (λ ys most x r f' j k. let more = largest_push nought ys x.now in search rules)
    _ _ _ _ (slice_gives c.iter.result) refl c.fold.ensures.ran)
