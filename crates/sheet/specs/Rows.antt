-- The rows of spans: for each, in order, the counts live at its start and the budget size. Definitions only.
use Rattle.std.specs.Prelude.{ℕ, List, ℤ, Float}
use Rattle.std.specs.List.{flat_map}
use Rattle.std.specs.Float.{binary64}
use Rattle.std.specs.Float.Ieee.{to_bits}
use Rattle.bet_sizing.specs.declared.counts.Side.TheVariants.{Long, Short}
use Rattle.bet_sizing.specs.Counts.{concurrent}
use Rattle.budget.specs.Budget.{budget_size}
use Rattle.sheet_rows.specs.Rows.{row_line}

-- the row at t
unfoldable pub row_at : List ℤ → List ℤ → List Float → ℤ → List ℕ
row_at ss es ds t =
    row_line
    (record {
      at = t;
      long = concurrent Long t ss es ds;
      short = concurrent Short t ss es ds;
      size = to_bits binary64 (budget_size ss es ds t);
    })

-- a row for each start
abbrev pub row_lines : List ℤ → List ℤ → List Float → List ℕ
row_lines ss es ds = flat_map (row_at ss es ds) ss
