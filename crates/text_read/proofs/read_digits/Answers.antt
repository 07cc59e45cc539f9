-- `text_read::read_digits` meets its contract: the digits that are left, after those that made value, decode as all do, and digits only make a number larger (`Steps.antt`).
-- The measure is how many bytes are left. Assumes nothing.
use Prim.Native.Nat.{ℕ, ◌+◌, ◌*◌}
use mathlib.Core.Path.{◌≡◌, ◌∙◌, ap, refl}
use mathlib.Core.Bool.{Bool, true, false, cond}
use mathlib.Core.List.{List}
use native.Mathlib.Omega.{arith}
use Rattle.std.specs.Bool.{then_some}
use Rattle.std.specs.Borrow.{Bor}
use Rattle.text.specs.Decode.{bad, got, up_to, numeral}
use Rattle.text.specs.Meaning.{got_of}
use Rattle.text.proofs.Steps.{numeral_end, numeral_stop, numeral_more, numeral_over}
use Rattle.text_read.proofs.read_digits.Goals as goal
use Rattle.text_read.proofs.read_digits.Goals.{in-Some+in_default-digit_of, in_default}

pub returns-in_err-checked_mul : goal.returns-in_err-checked_mul
returns-in_err-checked_mul c = let l = c.loop-b in
    let d = c.in-Some-digit_of in
    rw c.from_residual.ensures
    (ap (up_to c.args.limit) (l.invariant ∙ numeral_more c.in-Some.ensures.cases.0 l.value d.ensures.0 d.ensures.1)
    ∙ numeral_over c.args.limit (l.value * 10 + d.digit) c.in-Some.after.now (omega arith))

pub returns-in_err-value : goal.returns-in_err-value
returns-in_err-value c = let l = c.loop-b in
    let d = c.in-Some-digit_of in
    rw c.from_residual-in_err-value.ensures
    (ap (up_to c.args.limit) (l.invariant ∙ numeral_more c.in-Some.ensures.cases.0 l.value d.ensures.0 d.ensures.1)
    ∙ numeral_over c.args.limit (l.value * 10 + d.digit) c.in-Some.after.now (omega arith))

pub loop-b-preserved : goal.loop-b-preserved
loop-b-preserved c = let l = c.loop-b in
    let d = c.in-Some-digit_of in
    let e : l.value * 10 + d.digit ≡ c.in_ok-value.value = omega arith in
    l.invariant ∙ numeral_more c.in-Some.ensures.cases.0 l.value d.ensures.0 d.ensures.1 ∙ ap (λ (n : ℕ). numeral n c.in-Some.after.now) e

-- a number, where it is kept
kept : (b : Bool) (n : ℕ) (s : Bor (List ℕ)) → cond b (got n s.now) bad ≡ got_of (then_some b (n, s))
kept true n s = refl
kept false n s = refl

-- where the loop ends, no digit is left
pub returns : goal.returns
returns c = let l = c.loop-b in
    rw c.then_some.ensures
    (ap (up_to c.args.limit)
    (l.invariant ∙ elim c.match-split_first.branch [
      | in-Some+in_default-digit_of w ↦ numeral_stop w.in-Some.ensures.cases.0 l.value w.in_default-digit_of.ensures
      | in_default w ↦ numeral_end l.value l.rest.now w.in_default.ensures.cases
    ])
    ∙ kept _ l.value l.rest)
