-- The requests of the number leaves, each by its words and what they come to, and the reply to a line. Definitions only.
use Rattle.std.specs.Prelude.{ℕ, cond, List, Option, None}
use Rattle.std.specs.Float.{binary64, float_is_finite}
use Rattle.std.specs.Float.Ieee.{of_int, to_signed, to_unsigned}
use Rattle.float.specs.Leaves.{abs_of, larger_of}
use Rattle.float.specs.Power.{power}
use Rattle.float.specs.Root.{root}
use Rattle.text.specs.Decode.{Got}
use Rattle.protocol.specs.Words.{next_fraction, next_instant, next_natural}
use Rattle.protocol_lists.specs.Lists.{at, fractions}
use Rattle.replies.specs.Requests.{◌>>=◌, named, reply}
use Rattle.replies.specs.declared.forms.Reply.{Reply}
use Rattle.replies.specs.declared.forms.Reply.TheVariants.{Fraction, Instant, Natural}

-- one of a form, and what is replied to it
module _ {A : Type 0} where
  abbrev pub of_one : (List ℕ → Got A) → (A → Reply) → List ℕ → Got Reply
  of_one form value = do
    x ← form
    reply (value x)

abbrev pub sqrt : List ℕ → Got Reply
sqrt = of_one next_fraction (λ x. Fraction (root binary64 x))

abbrev pub abs : List ℕ → Got Reply
abs = of_one next_fraction (λ x. Fraction (abs_of x))

abbrev pub is_finite : List ℕ → Got Reply
is_finite = of_one next_fraction (λ x. Natural (cond (float_is_finite x) 1 0))

abbrev pub as_i64 : List ℕ → Got Reply
as_i64 = of_one next_fraction (λ x. Instant (to_signed 63 x))

abbrev pub as_usize : List ℕ → Got Reply
as_usize = of_one next_fraction (λ x. Natural (to_unsigned 64 x))

abbrev pub i64_as_f64 : List ℕ → Got Reply
i64_as_f64 = of_one next_instant (λ n. Fraction (of_int binary64 n))

abbrev pub larger : List ℕ → Got Reply
larger = do
  v ← fractions 2
  reply (Fraction (larger_of (at v 0) (at v 1)))

abbrev pub powi : List ℕ → Got Reply
powi = do
  x ← next_fraction
  n ← next_natural 16
  reply (Fraction (power x n))

abbrev pub casts : List ℕ → Option Reply
casts s =
    named "is_finite" is_finite s
    (named "as_i64" as_i64 s
    (named "as_usize" as_usize s
    (named "i64_as_f64" i64_as_f64 s None)))

abbrev pub leaves : List ℕ → Option Reply
leaves s =
    named "sqrt" sqrt s
    (named "abs" abs s
    (named "larger" larger s
    (named "powi" powi s (casts s))))
