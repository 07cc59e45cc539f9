-- Known lines, computed: each is a reply and the one text that its texts make.
use Rattle.std.specs.Prelude.{ℕ, ◌≡◌, refl, negsuc, Float, Option, Some, None}
use mathlib.Core.List.{List, [], ◌∷◌, flatten}
use Rattle.std.specs.Float.{binary64}
use Rattle.std.specs.Float.Ieee.{of_bits, to_bits}
use Rattle.tables.specs.Tables.{Row, ◌⇒◌, answers, expected}
use Rattle.text.specs.Bytes.{bytes}
use Rattle.text.specs.Decode.{instant, natural, nibble, numeral, word}
use Rattle.text.specs.Print.{decimal, hex, shown, width}
use Rattle.protocol_lists.specs.Lists.{values_of}
use Rattle.replies.specs.declared.forms.Columns.TheVariants.{One, Two}
use Rattle.replies.specs.declared.forms.Reply as reply
use Rattle.step.specs.declared.Step.TheVariants.{Inadmissible}
use Rattle.printing_values.specs.Rows.{rows_from}
use Rattle.printing_values.specs.Texts.{fractions}
use Rattle.printing.specs.Lines.{line}

one : Float
one = of_bits binary64 0x3ff0_0000_0000_0000

-- for a request whose starts are 0 and 5, and the list 1, 1, -1, -1
printed : Option reply.Reply → List ℕ
printed r = flatten (line r (bytes "budget 2 2 0 5") (one ∷ one ∷ minus ∷ minus ∷ []))
  where
    minus : Float
    minus = of_bits binary64 0xbff0_0000_0000_0000

abbrev replies : List (Row (Option reply.Reply) (List ℕ))
replies =
    (None ⇒ bytes "bad\n")
    ∷ (Some (reply.TheVariants.Refused 6) ⇒ bytes "refused 6\n")
    ∷ (Some (reply.TheVariants.Stepped Inadmissible) ⇒ bytes "inadmissible\n")
    ∷ (Some (reply.TheVariants.Instant (negsuc 4)) ⇒ bytes "ok -5\n")
    ∷ (Some (reply.TheVariants.Listed 1 2) ⇒ bytes "ok 1 3ff0000000000000 3ff0000000000000\n")
    ∷ (Some (reply.TheVariants.Spanned (record { count = 2; columns = One; starts = 8 })) ⇒ bytes "ok 2 0 3ff0000000000000 5 3ff0000000000000\n")
    ∷ (Some (reply.TheVariants.Spanned (record { count = 2; columns = Two; starts = 8 })) ⇒ bytes "ok 2 0 3ff0000000000000 bff0000000000000 5 3ff0000000000000 bff0000000000000\n")
    ∷ []

known_replies : answers printed replies ≡ expected replies
unfolding answers expected printed one flatten fractions rows_from values_of word nibble numeral natural instant width decimal shown hex to_bits of_bits
known_replies = refl
