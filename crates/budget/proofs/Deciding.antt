-- What the counts' answer says of the budget's where the spans were counted, with room for 16,384 of them. Assumes nothing.
use Prim.Native.Nat.{ℕ, ◌≤◌, min}
use mathlib.Core.Path.{◌≡◌, sym, ap, ◌∙◌}
use mathlib.Core.List.{List, ◌++◌}
use native.Mathlib.Omega.{arith}
use lib.ListN.{length, take, drop, length-map}
use lib.Seq.{take_at}
use lib.IntN.{ℤ}
use lib.Ieee.{Float}
use Rattle.std.specs.Prelude.{Result, Ok}
use Rattle.refusal.specs.Numbers.{if_accepted}
use Rattle.refusal.specs.Rules.{first_refusal}
use Rattle.refusal.specs.declared.Refusal.{Refusal}
use Rattle.bet_sizing.specs.declared.counts.Side.{Side}
use Rattle.bet_sizing.specs.declared.counts.Side.TheVariants.{Long, Short}
use Rattle.bet_sizing.specs.Counts.{concurrent, concurrent_counts}
use Rattle.bet_sizing.specs.Refusals.{ConcurrentSides, counts_refusal, spans_rules}
use Rattle.bet_sizing.proofs.Refusing.{accepted, accepted_in}
use Rattle.budget.specs.Budget.{BetSizeBudget, budget_sizes, largest}
use Rattle.budget.specs.Sizes.{sizes_of}
use Rattle.float.specs.Leaves.{as_f64}
use Rattle.budget.proofs.Sizing.{sizes_map}

module _ {ss es : List ℤ} {ds long long' short short' : List Float} {counted : Result ℕ Refusal} (h : ConcurrentSides ss es ds long long' short short' counted) {n : ℕ} (e : counted ≡ Ok n) where
  none : (counts_refusal ss es ds long short ≡ Ok tt) × (length ss ≡ n)
  none = accepted _ (length ss) n (sym h.answered ∙ e)

  counts : (side : Side) (list old : List Float) → list ≡ if_accepted (counts_refusal ss es ds long short) (concurrent_counts side ss es ds ++ drop (length ss) old) old → take n list ≡ concurrent_counts side ss es ds
  counts side list old g =
      ap (take n) (rw none.0 at g)
      ∙ take_at (concurrent_counts side ss es ds) (drop (length ss) old) n (length-map ss (λ t. as_f64 (concurrent side t ss es ds)) ∙ none.1)

  pub written : (size size' : List Float) → n ≤ length size → size' ≡ sizes_of (take n long') (take n short') ++ drop (length (take n long')) size → BetSizeBudget ss es ds size size' (Ok n)
  written size size' l g =
      let none_either : first_refusal (spans_rules (length ss) (length es) (length ds) (length size)) ≡ Ok tt = accepted_in (length ss) (length es) (length ds) (min (length long) (length short)) (length size) none.0 (omega (arith, none.1)) in
      let f : ℤ → Float = λ t. as_f64 (concurrent Long t ss es ds) in
      let sized : size' ≡ budget_sizes ss es ds ++ drop (length ss) size =
      rw (counts Long long' long h.longs, counts Short short' short h.shorts, length-map ss f) at g
      ∙ ap (λ (l : List Float). l ++ drop (length ss) size) (sizes_map (largest (concurrent_counts Long ss es ds)) (largest (concurrent_counts Short ss es ds)) f (λ t. as_f64 (concurrent Short t ss es ds)) ss) in
      record { answered = rw (none_either, none.1); sizes = rw none_either sized }
