-- What a method of `Text` does, and several of them one after another. Definitions only.
use Rattle.std.specs.Prelude.{ℕ, ◌≡◌, List, [], ◌∷◌}
use Rattle.text.specs.Print.{Placed, placed, place_after}
use Rattle.text_write.specs.declared.Text.{Text}

-- t' is t after w was put at its end, where it had room; it writes to the same buffer
pub record Appended (t t' : Text) (w : List ℕ) : Type 0 where
  pub same : t'.out.ghost_name ≡ t.out.ghost_name
  pub placed : Placed t.out.now t'.out.now t.end t'.end w

-- o with the texts put one after another from `at` on, each whole or not at all
abbrev pub all_placed : List ℕ → ℕ → List (List ℕ) → List ℕ
all_placed o at [] = o
all_placed o at (t ∷ ts) = all_placed (placed o at t) (place_after o at t) ts

-- the place after them
abbrev pub after_all : List ℕ → ℕ → List (List ℕ) → ℕ
after_all o at [] = at
after_all o at (t ∷ ts) = after_all (placed o at t) (place_after o at t) ts

-- t' is t after the texts were put at its end, one after another; it writes to the same buffer
pub record Puts (t t' : Text) (ts : List (List ℕ)) : Type 0 where
  pub same : t'.out.ghost_name ≡ t.out.ghost_name
  pub is : t'.out.now ≡ all_placed t.out.now t.end ts
  pub next : t'.end ≡ after_all t.out.now t.end ts
