-- Of a list of moments 17 are enough to be asked, since more than 16 are refused alike. By the refusals in their order. Assumes nothing.
use Prim.Native.Nat.{ℕ, ◌<◌}
use mathlib.Core.Path.{◌≡◌, refl}
use mathlib.Core.Bool.{Bool, true, false, cond}
use mathlib.Core.List.{List}
use native.Mathlib.Omega.{arith}
use borrow.Author.Tests.{ltb-false, le-ltb, lt-ltb}
use lib.Dec.{ltb}
use lib.Ieee.{Float}
use lib.ListN.{length, take}
use Rattle.moments.specs.Refusals.{at_least_one, centred_moment, raw_moment, raw_out}
use Rattle.refusal.specs.declared.Refusal.TheVariants.{TooManyMoments, OrderTooHigh}
use Rattle.std.specs.Prelude.{Err}
use Rattle.protocol_lists.proofs.Listing.{cut}

centred_many : (order : ℕ) (m : List Float) → 16 < length m → centred_moment m order ≡ Err (cond (ltb 16 order) OrderTooHigh TooManyMoments)
unfolding centred_moment
centred_many order m h = by_order (ltb 16 order) refl
  where
    by_order : (high : Bool) → ltb 16 order ≡ high → centred_moment m order ≡ Err (cond high OrderTooHigh TooManyMoments)
    by_order true e = rw e
    by_order false e = let low = ltb-false 16 order e in rw (e, le-ltb (length m) (at_least_one order) (omega arith), lt-ltb 16 (length m) h)

pub centred_cut : (order : ℕ) (m : List Float) → centred_moment (take 17 m) order ≡ centred_moment m order
centred_cut order m = cut 16 (λ l. centred_moment l order) _ (centred_many order) m

raw_many : (out c : List Float) → 16 < length c → raw_moment c out ≡ Err TooManyMoments
unfolding raw_moment
raw_many out c h = rw (lt-ltb 16 (length c) h)

pub raw_cut : (out c : List Float) → raw_moment (take 17 c) out ≡ raw_moment c out
raw_cut out c = cut 16 (λ l. raw_moment l out) _ (raw_many out) c

out_many : (mean : Float) (out c : List Float) → 16 < length c → raw_out c mean out ≡ out
unfolding raw_out
out_many mean out c h = rw (lt-ltb 16 (length c) h)

pub out_cut : (mean : Float) (out c : List Float) → raw_out (take 17 c) mean out ≡ raw_out c mean out
out_cut mean out c = cut 16 (λ l. raw_out l mean out) _ (out_many mean out) c
