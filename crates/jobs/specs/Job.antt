-- Document 01, "Orders" and "Turned down": a job's orders, conditions 2 to 7, and the job's counts. Assumes nothing.
use Rattle.std.specs.Prelude.{Bool, false, not, ◌&&◌, ◌||◌, cond, List, [], ◌∷◌, map, ℕ, zero}
use Rattle.std.specs.Prelude.{suc, ◌+◌, ◌-◌, ◌*◌, ◌%◌, eqb, ltb, length, get_or}
use Rattle.tables.specs.Table.{rows, keeps_rules}
use Rattle.gates.specs.Gates.{Gate}
use Rattle.gates.specs.Steps.{at, Step}
use Rattle.gates.specs.Meaning.{job_steps}
use Rattle.gates.specs.Costs.{Cost, cost}
use Rattle.programs.specs.declared.Order.{Order}
use Rattle.programs.specs.Orders.{program}

-- "orders of four words: kind, target, first source, fourth word"
unfoldable pub orders : List ℕ → List Order
orders [] = []
orders (k ∷ []) = []
orders (k ∷ d ∷ []) = []
orders (k ∷ d ∷ a ∷ []) = []
orders (k ∷ d ∷ a ∷ c ∷ ws) = record { kind = k; target = d; source = a; fourth = c } ∷ orders ws

-- the order at index i of a job's words; past the end stand zeros
abbrev pub order_at : List ℕ → ℕ → Order
order_at ws i =
    record { kind = at ws (i * 4); target = at ws (i * 4 + 1); source = at ws (i * 4 + 2); fourth = at ws (i * 4 + 3) }

-- ---- the conditions

-- "2. The job has no words, more than 256, or a number of words not divisible by 4."
unfoldable pub ill_sized : List ℕ → Bool
ill_sized ws = eqb (length ws) 0 || ltb 256 (length ws) || not (eqb (length ws % 4) 0)

-- "3. An order's kind is above 10."
unfoldable pub unknown_kind : Order → Bool
unknown_kind o = ltb 10 o.kind

-- "The fourth word is the second source, a register, for kinds 0, 1, 4"
unfoldable pub two_sources : ℕ → Bool
two_sources kind = eqb kind 0 || eqb kind 1 || eqb kind 4

-- "4. A target or source is above 15."
unfoldable pub unknown_register : Order → Bool
unknown_register o = ltb 15 o.target || ltb 15 o.source || (two_sources o.kind && ltb 15 o.fourth)

-- c is not from 1 to n
abbrev pub no_shift : (c n : ℕ) → Bool
no_shift c n = eqb c 0 || ltb n c

-- Whether the fourth word c is ill, kind by kind: a register, judged above (0, 1, 4); "any constant for 2, 3"; "0 for
-- 5, 9"; "k 1 to 31" (6), "k 1 to 30" (7), "k 1 to 31" (8); the mode for 10, where the table must keep its rules
unfoldable pub ill_fourths : (w : ℕ) (ruled : Bool) (c : ℕ) → List Bool
ill_fourths w ruled c =
    false ∷ false ∷ false ∷ false ∷ false ∷ not (eqb c 0) ∷ no_shift c (w - 1) ∷ no_shift c (w - 2)
    ∷ no_shift c (w - 1) ∷ not (eqb c 0)
    ∷ (ltb 1 c || not ruled) ∷ []

-- "5. A shift or mode lies outside its range, a fourth word due to be 0 is not, or the order is a curve and the table
-- breaks its rules."
unfoldable pub ill_fourth : (w : ℕ) (ruled : Bool) → Order → Bool
ill_fourth w ruled o = get_or (ill_fourths w ruled o.fourth) o.kind false

-- ---- the first fault: "For 3 to 5 the first faulty order counts, in this order within it."

-- a number, 0 for none, and an order's index
abbrev pub Fault : Type 0
Fault = ℕ × ℕ

unfoldable pub order_fault : (w : ℕ) (ruled : Bool) → Order → ℕ
order_fault w ruled o = cond (unknown_kind o) 3 (cond (unknown_register o) 4 (cond (ill_fourth w ruled o) 5 0))

-- the fault at index i, or what comes of the orders behind it
unfoldable pub fault_at : (number i : ℕ) → Fault → Fault
fault_at zero i later = later
fault_at (suc n) i later = (suc n, i)

unfoldable pub orders_fault : (w : ℕ) (ruled : Bool) → List Order → (i : ℕ) → Fault
orders_fault w ruled [] i = (0, 0)
orders_fault w ruled (o ∷ os) i = fault_at (order_fault w ruled o) i (orders_fault w ruled os (suc i))

-- conditions 2 to 5 of a job with its table
unfoldable pub job_fault : (w : ℕ) (job table : List ℕ) → Fault
job_fault w job table = cond (ill_sized job) (2, 0) (orders_fault w (keeps_rules table) (orders job) 0)

-- ---- gates and counts

-- the gates of a job's orders
unfoldable pub job_gates : (w : ℕ) (job table : List ℕ) → List (List Gate)
job_gates w job table = map (program w (rows table)) (orders job)

-- its steps: the programs of its orders, end to end
unfoldable pub steps_of : (w : ℕ) (job table : List ℕ) → List Step
steps_of w job table = job_steps w (job_gates w job table)

-- "A job's counts": the sums over its orders' gates
unfoldable pub job_cost : (w : ℕ) (job table : List ℕ) → Cost
job_cost w job table = cost (steps_of w job table)

-- ---- conditions 6 and 7, on the lists' lengths: "A list that this host uses (host 0: A and B; host 1: A; host 2: B)
-- is shorter than the job needs."

unfoldable pub short_a : Cost → (A : List ℕ) → Bool
short_a k A = ltb (length A) k.a

unfoldable pub short_b : Cost → (B : List ℕ) → Bool
short_b k B = ltb (length B) k.b

-- "7. The deal list or deal buffer is shorter than the job's deals (hosts 0 and 2)."
unfoldable pub short_deals : Cost → (D : List ℕ) → Bool
short_deals k D = ltb (length D) k.deals
