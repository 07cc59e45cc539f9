-- How many lots a limit price may walk: 1,000,000 are not refused, 1,000,001 are, up and down and far from 0. Positions beyond i64 are cut to its ends, and lie 2^64 - 1 lots apart.
use Rattle.std.specs.Prelude.{◌≡◌, true, false, Float, Result, Ok, Err}
use Rattle.std.specs.Float.{nan, inf, binary64}
use Rattle.std.specs.Float.Ieee.{round}
use Rattle.limit_price.specs.LimitPrice.{limit_price_sigmoid, lots_rules}
use Rattle.refusal.specs.Rules.{first_refusal}
use Rattle.refusal.specs.declared.Refusal.{Refusal}
use Rattle.refusal.specs.declared.Refusal.TheVariants.{TooManyLots}
use Rattle.figures.specs.Figures.{◌·◌, limit_price_to}

-- a limit price with the figures' forecast, width and limit, from p to t
abbrev pub between : Float → Float → Result Float Refusal
between p t = limit_price_sigmoid t p (100 · 0) (3 · 0) (2 · 0)

pub record Refusals : Type 0 where
  pub too_many : limit_price_to (1000001 · 0) ≡ Err TooManyLots
  pub too_many_down : limit_price_to (round binary64 true 1000001 1) ≡ Err TooManyLots
  pub not_too_many : first_refusal (lots_rules 1000000) ≡ Ok tt
  pub end_to_end : between (round binary64 true 9300000000000000000 1) (9300000000000000000 · 0) ≡ Err TooManyLots
  pub infinities : between (inf false) (inf true) ≡ Err TooManyLots
  pub none_at_an_end : between (inf false) (9300000000000000000 · 0) ≡ Ok nan
