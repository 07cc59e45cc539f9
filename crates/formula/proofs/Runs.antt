-- How a program runs, a statement at a time, so that a proof can follow the code's own path; `runs` turns such a path into an equation, by induction on it. Assumes nothing.
use mathlib.Core.Path.{◌≡◌, refl}
use mathlib.Core.List.{List, [], ◌∷◌, ◌++◌}
use mathlib.Core.Bool.{Bool, true, false, not, ◌&&◌, cond}
use lib.Ieee.{Float}
use Rattle.formula.specs.Formula.{Expr, eval, Test, stops, Stmt, ◌≔◌, fail, Outcome, admitted, inadmissible, run}

pub data Runs (g : List Float) : List Stmt → List Float → Outcome → Type 0 where
  done : {v : List Float} → Runs g [] v (admitted v)
  then : {x a : Expr} {p : List Stmt} {v : List Float} {o : Outcome} (y : Float) → y ≡ eval g v a → Runs g p (v ++ (y ∷ [])) o → Runs g ((x ≔ a) ∷ p) v o
  stop : {t : Test} {p : List Stmt} {v : List Float} → stops g v t ≡ true → Runs g (fail t ∷ p) v inadmissible
  pass : {t : Test} {p : List Stmt} {v : List Float} {o : Outcome} → stops g v t ≡ false → Runs g p v o → Runs g (fail t ∷ p) v o

pub runs : {g : List Float} {p : List Stmt} {v : List Float} {o : Outcome} → Runs g p v o → run p g v ≡ o
unfolding run
runs done = refl
runs (then y e r) = rw (← e) (runs r)
runs (stop e) = rw e
runs (pass e r) = rw e (runs r)

-- ---- a program in two parts: what the first leaves, the second goes on from
abbrev pub goes_on : Outcome → List Stmt → List Float → Outcome
goes_on inadmissible q g = inadmissible
goes_on (admitted w) q g = run q g w

pub two_parts : (p q : List Stmt) (g v : List Float) → run (p ++ q) g v ≡ goes_on (run p g v) q g
unfolding run
two_parts [] q g v = refl
two_parts ((x ≔ a) ∷ p) q g v = two_parts p q g (v ++ (eval g v a ∷ []))
two_parts (fail t ∷ p) q g v = by (stops g v t) (two_parts p q g v)
  where
    by : (b : Bool) → run (p ++ q) g v ≡ goes_on (run p g v) q g → cond b inadmissible (run (p ++ q) g v) ≡ goes_on (cond b inadmissible (run p g v)) q g
    by true e = refl
    by false e = e

-- ---- the test of the unit interval, by its two comparisons
pub within : {a b : Bool} → a ≡ true → b ≡ true → not (a && b) ≡ false
within e f = rw (e, f)

pub low : {a : Bool} (b : Bool) → a ≡ false → not (a && b) ≡ true
low b e = rw e

pub high : {a b : Bool} → a ≡ true → b ≡ false → not (a && b) ≡ true
high e f = rw (e, f)
