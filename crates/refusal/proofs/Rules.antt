-- What a refusal, or none, says of the rules. By the first rule's test, then the rest. Assumes nothing.
use mathlib.Core.Path.{refl}
use Rattle.std.specs.Prelude.{true, false, [], ◌∷◌}
use Rattle.std.proofs.Common.{inl, inr}
use Rattle.refusal.specs.Rules.{◌⇒◌, AcceptedIsNone, NoneIsAccepted, RefusedByFirst, FirstRefuses}

pub none_holds : AcceptedIsNone
none_holds [] h = tt
none_holds (true ⇒ refusal ∷ rules) h = cc
none_holds (false ⇒ refusal ∷ rules) h = (refl, none_holds rules h)

pub accepts : NoneIsAccepted
accepts [] h = refl
accepts (true ⇒ refusal ∷ rules) h = cc
accepts (false ⇒ refusal ∷ rules) h = accepts rules h.1

pub refused_by : RefusedByFirst
refused_by [] e h = cc
refused_by (true ⇒ refusal ∷ rules) e h = inl (refl, cc)
refused_by (false ⇒ refusal ∷ rules) e h = inr (refl, refused_by rules e h)

pub refuses : FirstRefuses
refuses [] e h = absurd h
refuses (test ⇒ refusal ∷ rules) e (inl h) = rw (h.0, h.1)
refuses (test ⇒ refusal ∷ rules) e (inr h) = rw h.0 (refuses rules e h.1)
