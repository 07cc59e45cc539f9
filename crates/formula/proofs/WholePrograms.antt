-- Where every number met is whole and below 2 ^ 53, and those under a root are below 2 ^ 52 or squares, a program runs as over the integers. By induction over its statements.
use mathlib.Core.Path.{◌≡◌, sym, ◌∙◌}
use mathlib.Core.List.{List, [], ◌∷◌, ◌++◌, map-append}
use mathlib.Core.Bool.{Bool, true, false, cond}
use Prim.Native.Nat.{ℕ, suc, ◌+◌}
use native.Mathlib.Omega.{arith}
use lib.Dec.{T}
use lib.ListN.{length, length-append}
use lib.Ieee.{Float}
use lib.Ieee.Fits.{and_l, and_r, and_i}
use Rattle.formula.specs.Exact.{Value, stops_at, Run, end, assign, stop, pass, ints, ending, wholes, whole_outcome, rootables, rootables_by, whole_constants_by, ExactRun}
use Rattle.formula.specs.Formula.{eval, stops, Stmt, ◌≔◌, fail, inadmissible, run}
use Rattle.formula.specs.Met.{met, tested, met_by, all_whole}
use Rattle.formula.specs.Whole.{is_whole, int_of, whole_constants}
use Rattle.formula.proofs.Tests.{test_exact}
use Rattle.formula.proofs.WholeRuns.{all_of, run_exact}

wholes_more : (v : List Float) (x : Float) → T (wholes v) → T (is_whole x) → T (wholes (v ++ (x ∷ [])))
wholes_more [] x w h = and_i (is_whole x) (wholes []) h tt
wholes_more (y ∷ v) x w h = and_i (is_whole y) (wholes (v ++ (x ∷ []))) (and_l (is_whole y) (wholes v) w) (wholes_more v x (and_r (is_whole y) (wholes v) w) h)

length_more : (v : List Float) (x : Float) → length (v ++ (x ∷ [])) ≡ suc (length v)
length_more v x = length-append v (x ∷ []) ∙ one_more (length v)
  where
    one_more : (n : ℕ) → n + 1 ≡ suc n
    one_more n = omega arith

module _ (g : List Float) where
  pub program_exact : (p : List Stmt) (v : List Float) → T (wholes v) → T (whole_constants_by (length v) p) → T (all_whole (met_by p g v)) → T (rootables_by p g v) → ExactRun g v p
  unfolding run met_by rootables_by whole_constants_by
  program_exact [] v vars c w r = record { ends_whole = vars; runs = end }
  program_exact ((x ≔ a) ∷ p) v vars c w r =
      let y = eval g v a in
      let u = v ++ (y ∷ []) in
      let m = all_of (met g v a) (met_by p g u) w in
      let z = run_exact g v vars a (and_l (whole_constants (length v) a) (whole_constants_by (suc (length v)) p) c) m.0 (and_l (rootables g v a) (rootables_by p g u) r) in
      let k = rw (← length_more v y) at (and_r (whole_constants (length v) a) (whole_constants_by (suc (length v)) p) c) in
      let s = program_exact p u (wholes_more v y vars z.whole) k m.1 (and_r (rootables g v a) (rootables_by p g u) r) in
      record { ends_whole = s.ends_whole; runs = assign z.value (rw (map-append int_of v (y ∷ [])) at s.runs) }
  program_exact (fail t ∷ p) v vars c w r =
      let n = length v in
      let m = all_of (met g v (tested t)) (cond (stops g v t) [] (met_by p g v)) w in
      let z = run_exact g v vars (tested t) (and_l (whole_constants n (tested t)) (whole_constants_by n p) c) m.0 (and_l (rootables g v (tested t)) (cond (stops g v t) true (rootables_by p g v)) r) in
      let s = go (stops g v t) (sym (test_exact g v t z.whole)) z.value (program_exact p v vars (and_r (whole_constants n (tested t)) (whole_constants_by n p) c))
      m.1 (and_r (rootables g v (tested t)) (cond (stops g v t) true (rootables_by p g v)) r) in
      record { ends_whole = s.0; runs = s.1 }
    where
      go : (b : Bool) → stops_at t (int_of (eval g v (tested t))) ≡ b → Value (ints g) (ints v) (tested t) (int_of (eval g v (tested t)))
          → (T (all_whole (met_by p g v)) → T (rootables_by p g v) → ExactRun g v p)
          → T (all_whole (cond b [] (met_by p g v))) → T (cond b true (rootables_by p g v))
          → T (whole_outcome (cond b inadmissible (run p g v))) × Run (ints g) (fail t ∷ p) (ints v) (ending (cond b inadmissible (run p g v)))
      go true e z rest w r = (tt, stop z e)
      go false e z rest w r = let s = rest w r in (s.ends_whole, pass z e s.runs)
