use mathlib.Core.Path.{◌≡◌}
use Rattle.limit_price.specs.LimitPrice.{lot_number, lot_price, summed}
use Rattle.limit_price.proofs.sum_of_prices.Given as goal

abbrev pub invariant-loop : goal.invariant-loop
invariant-loop l = (l.lot ≡ lot_number l.current l.sgn l.counter) × (l.sum ≡ summed (lot_price l.f l.w l.max_pos l.current l.sgn) l.counter)
