-- A kind that replies leaves alone what other kinds leave in the lent list: to a line that begins with one of their names it has no reply. By cases on whether the line does. Assumes nothing.
use Prim.Native.Nat.{ℕ}
use Prim.Native.String.{String}
use mathlib.Core.Path.{◌≡◌, refl, ◌∙◌}
use mathlib.Core.List.{List, ◌++◌}
use lib.Ieee.{Float}
use Rattle.std.specs.Prelude.{Option, Some, None}
use Rattle.text.specs.Bytes.{bytes}
use Rattle.text.specs.Decode.{Got, got, bad, word}
use Rattle.protocol.specs.Words.{words_after}
use Rattle.replies.proofs.Asking.{by_name}
use Rattle.replies.specs.Requests.{after, from_words}
use Rattle.replies.specs.declared.forms.Reply.{Reply}
use Rattle.moment_requests.specs.Orders.{orders, orders_in}
use Rattle.run_requests.specs.Runs.{runs, runs_in}
use Rattle.bet_requests.specs.Spans.{spans_in}
use Rattle.number_requests.specs.Leaves.{leaves}
use Rattle.price_requests.specs.Curves.{curves}
use Rattle.requests.specs.Lines.{fits, left_in}

module _ (kind : List ℕ → Option Reply) (s : List ℕ) (r : Reply) (replies : Some r ≡ kind s) where
  -- to a line that begins with the name w the kind has no reply
  abbrev No : List ℕ → Type 0
  No w = (t : List ℕ) → None ≡ kind (w ++ t)

  module _ {A : Type 0} (rest : List ℕ → A) (x : A) (name : String) (none : No (bytes name)) where
    by_words : (g : Got (Unit {0})) → words_after (bytes name) s ≡ g → x ≡ from_words g rest x
    by_words (got u t) e = let no : None ≡ kind s = by_name kind (bytes name) s t e none in cc
    by_words bad e = refl

    other : x ≡ after name rest s x
    other = by_words (words_after (bytes name) s) refl

  no_orders : (xs : List Float) → No (bytes "raw_moment") → xs ≡ orders_in xs s
  no_orders xs none = other _ xs "raw_moment" none

  no_runs : (xs : List Float) → No (bytes "mp_fit") → xs ≡ runs_in xs s
  no_runs xs none = other _ xs "mp_fit" none

  no_spans : (xs : List Float) → No (bytes "concurrent_sides") → No (bytes "budget") → xs ≡ spans_in xs s
  no_spans xs sides sizes = other _ xs "budget" sizes ∙ other _ _ "concurrent_sides" sides

-- ---- which kinds leave which lists alone
module _ {r : Reply} (xs : List Float) (s : List ℕ) where
  pub by_leaves : Some r ≡ leaves s → xs ≡ left_in xs s
  unfolding word left_in
  by_leaves h = no_orders leaves s r h xs (λ t. refl) ∙ no_runs leaves s r h _ (λ t. refl) ∙ no_spans leaves s r h _ (λ t. refl) (λ t. refl)

  pub by_orders : (old : List Float) → Some r ≡ orders old s → xs ≡ spans_in (runs_in xs s) s
  unfolding word
  by_orders old h = no_runs (orders old) s r h xs (λ t. refl) ∙ no_spans (orders old) s r h _ (λ t. refl) (λ t. refl)

  pub by_fits : Some r ≡ fits s → xs ≡ spans_in (runs_in xs s) s
  unfolding word fits
  by_fits h = no_runs fits s r h xs (λ t. refl) ∙ no_spans fits s r h _ (λ t. refl) (λ t. refl)

  pub by_runs : (n : ℕ) → Some r ≡ runs n s → xs ≡ spans_in xs s
  unfolding word
  by_runs n h = no_spans (runs n) s r h xs (λ t. refl) (λ t. refl)

  pub by_curves : Some r ≡ curves s → xs ≡ spans_in xs s
  unfolding word
  by_curves h = no_spans curves s r h xs (λ t. refl) (λ t. refl)
