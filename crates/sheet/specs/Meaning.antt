-- What the functions that put rows promise each other. Definitions only.
use Rattle.std.specs.Prelude.{ℕ, ◌≤◌, ◌≡◌, List, ℤ, Float, length}
use Rattle.text.specs.Print.{Fronts}
use Rattle.text_write.specs.declared.Text.{Text}

-- nothing is put yet, and there is room for 1,024 rows of 128 bytes
pub record Blank (t : Text) : Type 0 where
  pub empty : t.end ≡ 0
  pub room : 131072 ≤ length t.out.now

-- as many ends and sides as starts, few enough, and room for their rows
pub record Countable (ss es : List ℤ) (ds : List Float) (t : Text) : Type 0 where
  pub ends : length ss ≡ length es
  pub sides : length ss ≡ length ds
  pub few : length ss ≤ 1024
  pub blank : Blank t

-- w is put, and nothing else
abbrev pub Written : Text → List ℕ → Type 0
Written t w = Fronts t.out.now t.end w
