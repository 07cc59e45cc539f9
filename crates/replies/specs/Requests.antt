-- The reply to a line. A request is told by its name; then come its words, each of a form, and nothing after them. Definitions only.
use Rattle.std.specs.Prelude.{ℕ, List, [], ◌∷◌, Option, Result, Ok, Err}
use Prim.Native.String.{String}
use Rattle.text.specs.Bytes.{bytes}
use Rattle.text.specs.Decode.{Got, got, bad, ◌▷◌}
use Rattle.protocol.specs.Words.{only, words_after}
use Rattle.refusal.specs.Numbers.{number_of}
use Rattle.refusal.specs.declared.Refusal.{Refusal}
use Rattle.replies.specs.declared.forms.Reply.{Reply}
use Rattle.replies.specs.declared.forms.Reply.TheVariants.{Refused}

-- one form after another, so that `do` lists a request's words
module _ {A B : Type 0} where
  abbrev pub ◌>>=◌ : (List ℕ → Got A) → (A → List ℕ → Got B) → List ℕ → Got B
  ◌>>=◌ form more s = form s ▷ more

module _ {A : Type 0} where
  -- what the words come to
  abbrev pub reply : A → List ℕ → Got A
  reply a s = got a s

  -- that, where nothing follows the words; otherwise `other`
  abbrev pub only_or : A → Got A → A
  only_or other (got a []) = a
  only_or other (got a (b ∷ s)) = other
  only_or other bad = other

  -- what comes of the bytes that were got; otherwise `other`
  abbrev pub from_words : Got (Unit {0}) → (List ℕ → A) → A → A
  from_words (got u words) rest other = rest words
  from_words bad rest other = other

  -- what comes of the words after a name, where a line begins with it and a blank; otherwise `other`
  abbrev pub after : String → (List ℕ → A) → List ℕ → A → A
  after name rest s other = from_words (words_after (bytes name) s) rest other

-- the reply to a line that begins with a name and a blank, by the words after the name: None where something follows them, or one is not of its form; to any other line, `other`
abbrev pub named : String → (List ℕ → Got Reply) → List ℕ → Option Reply → Option Reply
named name words s other = after name (λ t. only (words t)) s other

-- the reply by what a library answers: its refusal, or what its value is replied as
module _ {A : Type 0} where
  abbrev pub or_refused : (A → Reply) → Result A Refusal → Reply
  or_refused value (Ok x) = value x
  or_refused value (Err e) = Refused (number_of e)
