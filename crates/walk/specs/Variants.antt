-- Document 01's number of each variant, and the variant of a number, if it has one. Definitions only.
use Rattle.std.specs.Prelude.{Bool, ◌||◌, cond, ℕ, eqb, Result, Ok, Err}
use Rattle.refusal.specs.declared.Refusal.{Refusal}
use Rattle.refusal.specs.declared.Refusal.TheVariants.{UnknownVariant}
use Rattle.walk.specs.declared.Variant.{Variant}
use Rattle.walk.specs.declared.Variant.TheVariants.{FourMoments, FiveMoments}

abbrev pub variant_number : Variant → ℕ
variant_number FourMoments = 1
variant_number FiveMoments = 2

abbrev pub is_variant : ℕ → Bool
is_variant n = eqb n 1 || eqb n 2

-- of a number that is one
abbrev pub variant_at : ℕ → Variant
variant_at n = cond (eqb n 1) FourMoments FiveMoments

abbrev pub variant_of : ℕ → Result Variant Refusal
variant_of n = cond (is_variant n) (Ok (variant_at n)) (Err UnknownVariant)
