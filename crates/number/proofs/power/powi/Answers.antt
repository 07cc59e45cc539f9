-- `number::power::powi` meets its contract: each turn takes one digit of n, and what is left stays the same (`Turns.antt`). Assumes nothing.
use Rattle.std.proofs.Common.{◌≡◌, ◌%◌, nat_eq, Bool, cond, T, sym, ap, ◌∙◌, subst, eq-eqb, ne_eqb}
use lib.Ieee.{binary64, mul, of_bits}
use Rattle.number.proofs.power.Turns.{begins, turn, ends}
use Rattle.number.proofs.power.powi.Goals as goal
use Rattle.number.proofs.power.powi.Goals.{then-b-eq1, else-b-eq1}

pub loop-b-init : goal.loop-b-init
unfolding of_bits
loop-b-init c = begins c.args.x c.args.n (subst T (sym c.well_formed.0.1) tt)

pub loop-b-preserved : goal.loop-b-preserved
loop-b-preserved c =
    let l = c.loop-b in
    let e : c.if-b-eq1.r ≡ cond (nat_eq (l.b % 2) 1) (mul binary64 l.r l.a) l.r =
    elim c.if-b-eq1.branch [
      | then-b-eq1 w ↦ w.r-is ∙ ap (λ (t : Bool). cond t (mul binary64 l.r l.a) l.r) (sym (eq-eqb (l.b % 2) 1 w.if-b-eq1.true))
      | else-b-eq1 w ↦ w.r-is ∙ ap (λ (t : Bool). cond t (mul binary64 l.r l.a) l.r) (sym (ne_eqb (l.b % 2) 1 w.if-b-eq1.false))
    ] in
    turn _ _ l.r l.a _ l.b l.invariant c.loop-b-test.true e

pub returns : goal.returns
returns c = ends _ _ _ _ _ c.loop-b.invariant c.loop-b-test.false
