-- Document 01's number of each reason for which a walk ends. Definitions only.
use Rattle.std.specs.Prelude.{ℕ}
use Rattle.walk.specs.declared.Reason.{Reason}
use Rattle.walk.specs.declared.Reason.TheVariants.{Spent, Settled, Inadmissible}

abbrev pub number_of : Reason → ℕ
number_of Spent = 1
number_of Settled = 2
number_of Inadmissible = 3
