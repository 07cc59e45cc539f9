-- Several runs: what is known of those that are not refused, how many rows there are, and what is answered where they are refused. Assumes nothing.
use mathlib.Core.Path.{◌≡◌, refl, sym, ap, ◌∙◌}
use mathlib.Core.List.{List, [], ◌++◌, append-nil}
use Prim.Native.Nat.{ℕ, zero, suc, ◌+◌, ◌*◌, ◌-◌, ◌≤◌, ◌<◌}
use native.Mathlib.Omega.{arith}
use native.Mathlib.Numerals.{add-one}
use lib.ListN.{length, take, drop, replicate, length-append}
use lib.Ieee.{Float, binary64, of_bits}
use borrow.Author.Rules.{part_to_end}
use Rattle.fit_state.specs.declared.M2N.{M2N}
use Rattle.std.proofs.Common.{Option, Some, None, Result, Ok, Err, ◌⊎◌, inl, inr}
use Rattle.refusal.specs.Numbers.{Checked, if_accepted, unless_refused}
use Rattle.refusal.specs.declared.Refusal.{Refusal}
use Rattle.fit_refusals.specs.Known.{RunsKnown}
use Rattle.fit_refusals.specs.Refusals.{rows_of, runs_refusal}
use Rattle.fit_runs.specs.Runs.{Runnable, rows_out, rows_to, run_rows, mp_fit, put_in, all_runs, flat_fit}
use Rattle.fit_state.specs.Rows.{flat_of, flat_in64, rows_at}
use Rattle.grid.specs.Search.{Fitted, single_fit}
use Rattle.fit_runs.specs.declared.Flat.{Flat}
use Rattle.fit_state.specs.declared.row.FitResultRow.{FitResultRow}
use Rattle.fit_state.proofs.Flats.{length_flat_64, row_behind, rows_back}
use Rattle.fit_refusals.proofs.Known.{none_or_known}

-- ---- what is known of several runs
known : (m : M2N) (ws : List Float) (places : ℕ) → runs_refusal m ws places ≡ Ok tt → Runnable m ws × (m.n_runs ≤ places)
known m ws places e = go (none_or_known m ws places e)
  where
    go : (m.n_runs ≡ 0) ⊎ RunsKnown m ws places → Runnable m ws × (m.n_runs ≤ places)
    go (inl z) = ((omega arith, λ h. absurd (omega arith)), omega arith)
    go (inr k) = ((k.few_runs, λ h. (k.grid.few_rows, k.grid.enough_weights)), k.enough_places)

pub runs_known : (m : M2N) (ws : List Float) (places : ℕ) → runs_refusal m ws places ≡ Ok tt → Runnable m ws
runs_known m ws places e = (known m ws places e).0

-- ---- how many rows there are
at_most_one : (o : Result (Option FitResultRow) Refusal) → length (rows_out o) ≤ 1
at_most_one (Err e) = omega arith
at_most_one (Ok None) = omega arith
at_most_one (Ok (Some r)) = omega arith

pub few : (m : M2N) (ws : List Float) (n : ℕ) → length (rows_to m ws n) ≤ n
unfolding rows_to
few m ws zero = omega arith
few m ws (suc k) =
    let o = (single_fit m None (drop (k * rows_of m.epsilon) ws)).outcome in
    rw (length-append (rows_to m ws k) (rows_out o)) (omega (arith, few m ws k, at_most_one o))

pub few_rows : (m : M2N) (ws : List Float) (places : ℕ) → (length (run_rows m ws places) ≤ places) × (length (run_rows m ws places) ≤ 64)
unfolding run_rows
few_rows m ws places = go (runs_refusal m ws places) (known m ws places)
  where
    go : (r : Checked) → (r ≡ Ok tt → Runnable m ws × (m.n_runs ≤ places)) → (length (if_accepted r (rows_to m ws m.n_runs) []) ≤ places) × (length (if_accepted r (rows_to m ws m.n_runs) []) ≤ 64)
    go (Ok u) h = (omega (arith, few m ws m.n_runs, (h refl).1), omega (arith, few m ws m.n_runs, (h refl).0.0))
    go (Err e) h = (omega arith, omega arith)

-- ---- run k of those that are not refused
-- there is room for its row
pub room : (m : M2N) (ws : List Float) (k count : ℕ) (numbers : List Float) → k < 64 → numbers ≡ flat_in64 (rows_to m ws k) → count ≡ length (rows_to m ws k) → 6 * count + 6 ≤ length numbers
room m ws k count numbers h hn hc =
    let f = few m ws k in
    rw (hn, hc, length_flat_64 (rows_to m ws k) (omega (arith, f, h))) (omega (arith, f, h))

pub put_flat : (rows : List FitResultRow) (o : Result (Option FitResultRow) Refusal) → length rows < 64 → put_in (flat_in64 rows) (length rows) o ≡ flat_in64 (rows ++ rows_out o)
put_flat rows (Err e) h = rw append-nil
put_flat rows (Ok None) h = rw append-nil
put_flat rows (Ok (Some r)) h = row_behind rows r h

-- the turn of the loop
pub turn : (m : M2N) (ws : List Float) (k rows count after : ℕ) (numbers l : List Float) (f : Fitted) → k < 64 → rows ≡ rows_of m.epsilon → f ≡ single_fit m None (take (length ws - k * rows) (drop (k * rows) ws))
    → numbers ≡ flat_in64 (rows_to m ws k) → count ≡ length (rows_to m ws k) → (after ≡ count + length (rows_out f.outcome)) × (l ≡ put_in numbers count f.outcome)
    → (l ≡ flat_in64 (rows_to m ws (k + 1))) × (after ≡ length (rows_to m ws (k + 1)))
unfolding rows_to
turn m ws k rows count after numbers l f h e hf hn hc hp =
    let b = hf ∙ ap (λ x. single_fit m None x) (part_to_end ws (k * rows)) ∙ ap (λ x. single_fit m None (drop (k * x) ws)) e in
    let few = few m ws k in
    rw (add-one k, ← b) ((
      hp.1 ∙ rw (hn, hc) (put_flat (rows_to m ws k) f.outcome (omega (arith, few, h))),
      hp.0 ∙ rw (hc) (sym (length-append (rows_to m ws k) (rows_out f.outcome))),
    ))

-- ---- the answer
flat : Checked → List FitResultRow → Flat
flat r rows = record { numbers = flat_in64 rows; outcome = unless_refused r (length rows) }

pub refused : (m : M2N) (ws : List Float) (places : ℕ) (e : Refusal) → Err e ≡ runs_refusal m ws places → ◌≡◌ {A = Flat} (record { numbers = replicate 384 (of_bits binary64 0); outcome = Err e }) (flat_fit m ws places)
unfolding flat flat_fit mp_fit run_rows flat_in64 flat_of of_bits
refused m ws places e h = ap (λ r. flat r (if_accepted r (rows_to m ws m.n_runs) [])) h

pub allowed : (m : M2N) (ws : List Float) (places : ℕ) (r : Flat) → Ok tt ≡ runs_refusal m ws places → r ≡ all_runs m ws → r ≡ flat_fit m ws places
unfolding flat flat_fit mp_fit run_rows
allowed m ws places r h hr = hr ∙ ap (λ r. flat r (if_accepted r (rows_to m ws m.n_runs) [])) h

-- ---- the rows of the answer, read back
pub flat_rows : (m : M2N) (ws : List Float) (places : ℕ) → rows_at (flat_fit m ws places).numbers (length (run_rows m ws places)) ≡ run_rows m ws places
unfolding flat_fit
flat_rows m ws places = rows_back (run_rows m ws places)

-- ---- how many there are, by the answer
as_many : (c : Checked) (k n : ℕ) → unless_refused c k ≡ Ok n → k ≡ n
as_many (Ok u) k n e = cc
as_many (Err x) k n e = cc

none_of : (c : Checked) (k : ℕ) (e : Refusal) (rows : List FitResultRow) → unless_refused c k ≡ Err e → if_accepted c rows [] ≡ []
none_of (Ok u) k e rows h = cc
none_of (Err x) k e rows h = refl

pub count_is : (m : M2N) (ws : List Float) (places n : ℕ) → mp_fit m ws places ≡ Ok n → length (run_rows m ws places) ≡ n
unfolding mp_fit
count_is m ws places n h = as_many (runs_refusal m ws places) (length (run_rows m ws places)) n h

pub none_run : (m : M2N) (ws : List Float) (places : ℕ) (e : Refusal) → mp_fit m ws places ≡ Err e → run_rows m ws places ≡ []
unfolding mp_fit run_rows
none_run m ws places e h = none_of (runs_refusal m ws places) (length (run_rows m ws places)) e (rows_to m ws m.n_runs) h
