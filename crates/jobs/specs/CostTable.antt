-- Document 01's table of costs, with R-1's curve, as R-4 leaves it, and a job's counts as the sum of its orders'
-- entries. Assumes nothing.
use Rattle.std.specs.Prelude.{◌≡◌, List, [], ◌∷◌, map, ℕ, zero, suc, ◌+◌, ◌*◌, length, get_or}
use Rattle.tables.specs.Table.{Row, rows}
use Rattle.gates.specs.Costs.{Cost, cost_of, plus}
use Rattle.programs.specs.declared.Order.{Order}
use Rattle.programs.specs.Orders.{program}
use Rattle.programs.specs.Costs.{program_cost}
use Rattle.jobs.specs.Job.{orders, job_cost}

-- "10 exact" and "10 one-bit", on n rows: "a row more or fewer is one kind 9 more or fewer"; R-1's steps count one kind
-- 9 more
unfoldable pub curve_cost : (mode n : ℕ) → Cost
curve_cost zero n = cost_of (12 * n + 25) (24 * n + 48) (24 * n + 49) (12 * n + 24)
curve_cost (suc m) n = cost_of (12 * n + 14) (24 * n + 28) (24 * n + 28) (12 * n + 14)

-- "deals, words spoken, A, B", kind by kind: "Kinds 0 to 3 use none"; R-4: "ReLU then has 12 deals, kind 8 has 13, kind
-- 7 has 2", and "the A column shrinks by one for each deal saved"
unfoldable pub kind_costs : (mode n : ℕ) → List Cost
kind_costs mode n =
    cost_of 0 0 0 0 ∷ cost_of 0 0 0 0 ∷ cost_of 0 0 0 0 ∷ cost_of 0 0 0 0 ∷ cost_of 1 2 2 1 ∷ cost_of 0 2 1 1
    ∷ cost_of 1 0 1 0 ∷ cost_of 2 2 3 1
    ∷ cost_of 13 24 25 12 ∷ cost_of 12 24 24 12 ∷ curve_cost mode n ∷ []

unfoldable pub kind_cost : (kind mode n : ℕ) → Cost
kind_cost kind mode n = get_or (kind_costs mode n) kind (cost_of 0 0 0 0)

-- the sum of the orders' entries, where the table has n rows
unfoldable pub table_counts : (n : ℕ) → List Order → Cost
table_counts n [] = cost_of 0 0 0 0
table_counts n (o ∷ os) = plus (kind_cost o.kind o.fourth n) (table_counts n os)

pub record CostTable : Type 0 where
  -- an order's gates cost its entry, whatever its kind, its words and the rows
  pub order_counts : (ps : List Row) (o : Order)
      → program_cost 32 (program 32 ps o) ≡ kind_cost o.kind o.fourth (length ps)
  -- "A job's counts .. equal .. these sums": for every job and table, turned down or not
  pub job_counts : (job table : List ℕ) → job_cost 32 job table ≡ table_counts (length (rows table)) (orders job)
  -- "Kinds 0 to 3 use none", and the lines of kinds 4 to 9: deals, words spoken, A, B; whatever the fourth word and
  -- rows
  pub lines : (c n : ℕ) → map (λ (k : ℕ). kind_cost k c n)
      (0 ∷ 1 ∷ 2 ∷ 3 ∷ 4 ∷ 5 ∷ 6 ∷ 7 ∷ 8 ∷ 9 ∷ [])
      ≡ cost_of 0 0 0 0 ∷ cost_of 0 0 0 0 ∷ cost_of 0 0 0 0 ∷ cost_of 0 0 0 0 ∷ cost_of 1 2 2 1
      ∷ cost_of 0 2 1 1
      ∷ cost_of 1 0 1 0 ∷ cost_of 2 2 3 1 ∷ cost_of 13 24 25 12 ∷ cost_of 12 24 24 12 ∷ []
  -- "Kind 10 is shown for 8 table rows", exact and one-bit, with R-1's steps, as R-4 changes it: "The house curve has
  -- 121 exact and 110 one-bit. Spoken words are as many as before"
  pub eight_exact : kind_cost 10 0 8 ≡ cost_of 121 240 241 120
  pub eight_one_bit : kind_cost 10 1 8 ≡ cost_of 110 220 220 110
  -- "a row more or fewer is one kind 9 more or fewer"
  pub row_more : (mode n : ℕ) → kind_cost 10 mode (suc n) ≡ plus (kind_cost 9 mode n) (kind_cost 10 mode n)
