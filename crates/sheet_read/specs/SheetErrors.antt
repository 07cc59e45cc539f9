-- Document 01's number of what turns a sheet away, and its value. Definitions only.
use Rattle.std.specs.Prelude.{ℕ, List, [], ◌∷◌}
use Rattle.refusal.specs.Numbers.{number_of}
use Rattle.refusal.specs.declared.Refusal.TheVariants as refusals
use Rattle.sheet_read.specs.declared.SheetError.{SheetError}
use Rattle.sheet_read.specs.declared.SheetError.TheVariants.{Refused, NotASpan}

-- a refusal's number; that of a line which is no span form, and then the line
abbrev pub numbers_of : SheetError → List ℕ
numbers_of (Refused e) = number_of e ∷ []
numbers_of (NotASpan line) = number_of refusals.NotASpan ∷ line ∷ []
