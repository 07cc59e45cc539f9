-- Of a list of moments 17 are enough to be asked, since more than 16 are refused alike. By the refusals in their order. Assumes nothing.
use Prim.Native.Nat.{◌<◌}
use mathlib.Core.Path.{◌≡◌, sym}
use mathlib.Core.List.{List}
use native.Mathlib.Omega.{arith}
use lib.Ieee.{Float}
use lib.ListN.{length, take}
use Rattle.std.specs.Prelude.{Err}
use Rattle.refusal.specs.declared.Refusal.TheVariants.{TooManyMoments}
use Rattle.iterate.specs.Refusals.{iter4, iter5}
use Rattle.iterate.proofs.Refusals.{many}
use Rattle.protocol_lists.proofs.Listing.{cut}
use Rattle.walk.specs.declared.Variant.{Variant}
use Rattle.walk.specs.declared.Variant.TheVariants.{FourMoments, FiveMoments}
use Rattle.step_requests.specs.Steps.{stepping}

module _ (mu p : Float) where
  step_many : (variant : Variant) (m : List Float) → 16 < length m → stepping variant m mu p ≡ Err TooManyMoments
  unfolding iter4 iter5
  step_many FourMoments m h = sym (many 4 (length m) _ (omega arith) h)
  step_many FiveMoments m h = sym (many 5 (length m) _ (omega arith) h)

  pub step_cut : (variant : Variant) (m : List Float) → stepping variant (take 17 m) mu p ≡ stepping variant m mu p
  step_cut variant m = cut 16 (λ l. stepping variant l mu p) _ (step_many variant) m
