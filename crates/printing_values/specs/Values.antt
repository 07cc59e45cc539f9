-- The values of a reply, as docs/REQUESTS.md lists them: texts that are put one after another, each value after a blank. Definitions only.
use Rattle.std.specs.Prelude.{ℕ, List, [], ◌∷◌, ◌++◌, Float, Option, Some, None, take}
use Rattle.fit_state.specs.Rows.{six}
use Rattle.fit_state.specs.declared.row.FitResultRow.{FitResultRow}
use Rattle.moments.specs.Lists.{listed, params_listed}
use Rattle.text.specs.Bytes.{bytes}
use Rattle.replies.specs.declared.forms.Report.{Report}
use Rattle.replies.specs.declared.forms.Reply as reply
use Rattle.replies.specs.declared.forms.Search.{Search}
use Rattle.step.specs.StepNumbers.{numbers_of}
use Rattle.printing_values.specs.Rows.{rows}
use Rattle.printing_values.specs.Texts.{fractions, instant, natural}

-- how a walk ended, and the state after it
abbrev pub walked : Report → List (List ℕ)
walked w = natural w.count ++ (natural w.reason ++ fractions (params_listed w.state.parameters ++ (w.state.error ∷ listed w.state.new_moments)))

-- the row that a search found, if it found one
abbrev pub found : Option FitResultRow → List (List ℕ)
found (Some r) = bytes " row" ∷ fractions (six r)
found None = bytes " none" ∷ []

-- and the state after it
abbrev pub searched : Search → List (List ℕ)
searched f = found f.row ++ (bytes " state" ∷ fractions (params_listed f.state.parameters ++ (f.state.error ∷ f.epsilon ∷ listed f.state.new_moments)))

-- the values of a reply, for the request s and the list xs that stands beside the reply
abbrev pub values : reply.Reply → List ℕ → List Float → List (List ℕ)
values (reply.TheVariants.Refused number) s xs = natural number
values (reply.TheVariants.Fraction x) s xs = fractions (x ∷ [])
values (reply.TheVariants.Natural n) s xs = natural n
values (reply.TheVariants.Instant i) s xs = instant i
values (reply.TheVariants.Moments m) s xs = fractions (listed m)
values (reply.TheVariants.Stepped t) s xs = fractions (numbers_of t)
values (reply.TheVariants.Walked w) s xs = walked w
values (reply.TheVariants.Searched f) s xs = searched f
values (reply.TheVariants.Listed count len) s xs = natural count ++ fractions (take len xs)
values (reply.TheVariants.Spanned r) s xs = natural r.count ++ rows r s xs
