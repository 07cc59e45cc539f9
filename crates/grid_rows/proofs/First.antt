-- A search of n rows looks at the first n weights alone. Assumes nothing.
use mathlib.Core.Path.{◌≡◌, refl, ap, ◌∙◌}
use mathlib.Core.List.{List}
use Prim.Native.Nat.{ℕ, zero, suc, ◌≤◌, min}
use native.Mathlib.Omega.{arith}
use lib.ListN.{length, take}
use lib.Seq.{get_or-take, length-take-le}
use lib.Ieee.{Float, nan}
use Rattle.fit_state.specs.declared.M2N.{M2N}
use Rattle.grid_rows.specs.Rows.{search_to}
use Rattle.grid_rows.specs.declared.Search.{Search}

module _ (m : M2N) (deviation : Float) (weights : List Float) (n : ℕ) where
  up_to : (i : ℕ) → i ≤ n → search_to m deviation (take n weights) i ≡ search_to m deviation weights i
  unfolding search_to
  up_to zero h = refl
  up_to (suc i) h = rw (up_to i (omega arith), get_or-take n weights i nan (omega arith))

  pub as_of_all : (s : Search) (i j : ℕ) → s ≡ search_to m deviation (take n weights) i → i ≡ j → j ≤ n → s ≡ search_to m deviation weights j
  as_of_all s i j h e l = rw (h, e) (up_to j l)

  -- so the first n of them are enough, where no more rows are walked than 131,072
  pub first_enough : n ≤ length weights → n ≤ 131072 → search_to m deviation (take n weights) (min (length (take n weights)) 131072) ≡ search_to m deviation weights n
  first_enough h l =
      let e : min (length (take n weights)) 131072 ≡ n = omega (arith, length-take-le n weights h) in
      ap (search_to m deviation (take n weights)) e ∙ up_to n (omega arith)
