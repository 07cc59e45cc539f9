-- Lists of words of a request, and the state, decoded. Definitions only.
use Rattle.std.specs.Prelude.{ℕ, zero, suc, ◌-◌, ◌^◌, List, [], ◌∷◌, Float, ℤ, get_or, length}
use Rattle.std.specs.Float.{nan}
use Rattle.std.proofs.lemmas.List.Edits.{sets}
use Rattle.moments.specs.Lists.{five_of, params_of}
use Rattle.text.specs.Decode.{Got, got, bad, ◌▷◌}
use Rattle.protocol.specs.Words.{next_fraction, next_instant, next_natural}
use Rattle.fit_state.specs.declared.Fit.{Fit}

-- n of a form
module _ {A : Type 0} where
  unfoldable pub entries_of : (List ℕ → Got A) → ℕ → List ℕ → Got (Unit {0})
  entries_of form zero s = got tt s
  entries_of form (suc n) s = form s ▷ (λ x t. entries_of form n t)

-- n fractions, each after a blank
abbrev pub entries : ℕ → List ℕ → Got (Unit {0})
entries n s = entries_of next_fraction n s

-- what follows from a value and the bytes after it; nothing where the bytes are not of the form
module _ {A B : Type 0} where
  abbrev pub or_none : Got A → (A → List ℕ → List B) → List B
  or_none (got a s) f = f a s
  or_none bad f = []

-- the values of n of a form, up to the first that is not of it
module _ {A : Type 0} where
  unfoldable pub values_of : (List ℕ → Got A) → ℕ → List ℕ → List A
  values_of form zero s = []
  values_of form (suc n) s = or_none (form s) (λ x t. x ∷ values_of form n t)

-- old with values in front of it, as many as it has places for
module _ {A : Type 0} where
  abbrev pub in_front : List A → List A → List A
  in_front values old = sets old 0 values

-- what a lent list holds after as many fractions as it has places were to be read into it
abbrev pub fractions_in : List Float → List ℕ → List Float
fractions_in old s = in_front (values_of next_fraction (length old) s) old

-- how many, and then so many of a form
module _ {A : Type 0} where
  abbrev pub list_of : (List ℕ → Got A) → List ℕ → Got ℕ
  list_of form s = next_natural (2 ^ 64 - 1) s ▷ (λ n t. entries_of form n t ▷ (λ u v. got n v))

-- what a lent list holds after a list of a form was to be read into it
module _ {A : Type 0} where
  abbrev pub list_in : (List ℕ → Got A) → List A → List ℕ → List A
  list_in form old s = in_front (or_none (next_natural (2 ^ 64 - 1) s) (values_of form)) old

module _ {A : Type 0} where
  -- n of a form, with their values
  abbrev pub many : (List ℕ → Got A) → ℕ → List ℕ → Got (List A)
  many form n s = entries_of form n s ▷ (λ u t. got (values_of form n s) t)

  -- how many, and then so many of a form, with their values
  abbrev pub a_list : (List ℕ → Got A) → List ℕ → Got (List A)
  a_list form s = next_natural (2 ^ 64 - 1) s ▷ many form

abbrev pub fractions : ℕ → List ℕ → Got (List Float)
fractions n s = many next_fraction n s

-- of fractions in a row, the one at a place
abbrev pub at : List Float → ℕ → Float
at v i = get_or v i nan

abbrev pub fraction_list : List ℕ → Got (List Float)
fraction_list s = a_list next_fraction s

abbrev pub instant_list : List ℕ → Got (List ℤ)
instant_list s = a_list next_instant s

-- the fit of a state: its parameters, its error and its moments
abbrev pub next_state : List ℕ → Got Fit
next_state s =
    fractions 5 s ▷ (λ p t. next_fraction t ▷ (λ e u. fractions 5 u ▷ (λ m v.
    got (record { parameters = params_of p; error = e; new_moments = five_of m }) v)))
