-- The line that answers a request, as docs/REQUESTS.md lists them: texts that are put one after another. Definitions only.
use Rattle.std.specs.Prelude.{ℕ, List, [], ◌∷◌, ◌++◌, Float, Option, Some, None}
use Rattle.text.specs.Bytes.{bytes}
use Rattle.replies.specs.declared.forms.Reply as reply
use Rattle.printing_values.specs.Values.{values}
use Rattle.step.specs.declared.Step.TheVariants.{Admitted, Inadmissible}

-- the word that a reply begins with
abbrev pub head : reply.Reply → List ℕ
head (reply.TheVariants.Refused n) = bytes "refused"
head (reply.TheVariants.Fraction x) = bytes "ok"
head (reply.TheVariants.Natural n) = bytes "ok"
head (reply.TheVariants.Instant i) = bytes "ok"
head (reply.TheVariants.Moments m) = bytes "ok"
head (reply.TheVariants.Stepped (Admitted r)) = bytes "ok"
head (reply.TheVariants.Stepped Inadmissible) = bytes "inadmissible"
head (reply.TheVariants.Walked w) = bytes "ok"
head (reply.TheVariants.Searched f) = bytes "ok"
head (reply.TheVariants.Listed count len) = bytes "ok"
head (reply.TheVariants.Spanned r) = bytes "ok"

-- a reply to the line s, beside which stands the list xs: its word, its values and a newline; or what says that the line is no request
abbrev pub line : Option reply.Reply → List ℕ → List Float → List (List ℕ)
line (Some r) s xs = head r ∷ values r s xs ++ (bytes "\n" ∷ [])
line None s xs = bytes "bad" ∷ bytes "\n" ∷ []
