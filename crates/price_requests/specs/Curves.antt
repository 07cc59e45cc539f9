-- The requests of the sigmoid curve, each by its words and what they come to, and the reply to a line. Definitions only.
use Rattle.std.specs.Prelude.{ℕ, List, Option, None}
use Rattle.prices.specs.Prices.{get_w_sigmoid, inv_price_sigmoid}
use Rattle.limit_price.specs.LimitPrice.{limit_price_sigmoid}
use Rattle.text.specs.Decode.{Got}
use Rattle.protocol_lists.specs.Lists.{at, fractions}
use Rattle.replies.specs.Requests.{◌>>=◌, named, or_refused, reply}
use Rattle.replies.specs.declared.forms.Reply.{Reply}
use Rattle.replies.specs.declared.forms.Reply.TheVariants.{Fraction}

abbrev pub w_sigmoid : List ℕ → Got Reply
w_sigmoid = do
  v ← fractions 2
  reply (Fraction (get_w_sigmoid (at v 0) (at v 1)))

abbrev pub inv_price : List ℕ → Got Reply
inv_price = do
  v ← fractions 3
  reply (Fraction (inv_price_sigmoid (at v 0) (at v 1) (at v 2)))

abbrev pub limit_price_reply : List ℕ → Got Reply
limit_price_reply = do
  v ← fractions 5
  reply (or_refused Fraction (limit_price_sigmoid (at v 0) (at v 1) (at v 2) (at v 3) (at v 4)))

abbrev pub curves : List ℕ → Option Reply
curves s =
    named "w_sigmoid" w_sigmoid s
    (named "inv_price_sigmoid" inv_price s
    (named "limit_price_sigmoid" limit_price_reply s None))
