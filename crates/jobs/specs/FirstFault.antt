-- Document 01, "Turned down", as a relation between a job and its number: which conditions hold, and of which orders.
-- The conditions stand in plain words here, and no test of Job.antt enters. Assumes nothing.
use Rattle.std.specs.Prelude.{◌≡◌, ◌≢◌, ◌⊎◌, List, ℕ, ◌-◌, ◌%◌, ◌<◌, length, get_or}
use Rattle.tables.specs.Table.{Rules}
use Rattle.programs.specs.declared.Order.{Order}
use Rattle.jobs.specs.Job.{orders}

-- "2. The job has no words, more than 256, or a number of words not divisible by 4."
pub data IllSized (job : List ℕ) : Type 0 where
  no_words : length job ≡ 0 → IllSized job
  above_256 : 256 < length job → IllSized job
  not_by_4 : length job % 4 ≢ 0 → IllSized job

-- "a shift k": k is not from 1 to n
abbrev pub NoShift : (k n : ℕ) → Type 0
NoShift k n = (k ≡ 0) ⊎ (n < k)

-- an order meets condition n, lent this table: words are w bits wide, 31 is w - 1 and 30 is w - 2
pub data Meets (w : ℕ) (table : List ℕ) (o : Order) : (n : ℕ) → Type 0 where
  -- "3. An order's kind is above 10."
  kind_above : 10 < o.kind → Meets w table o 3
  -- "4. A target or source is above 15."
  target_above : 15 < o.target → Meets w table o 4
  source_above : 15 < o.source → Meets w table o 4
  -- "The fourth word is the second source, a register, for kinds 0, 1, 4"
  second_above : (o.kind ≡ 0) ⊎ (o.kind ≡ 1) ⊎ (o.kind ≡ 4) → 15 < o.fourth → Meets w table o 4
  -- "5. .. a fourth word due to be 0 is not ..": "0 for 5, 9"
  refresh_not_0 : o.kind ≡ 5 → o.fourth ≢ 0 → Meets w table o 5
  relu_not_0 : o.kind ≡ 9 → o.fourth ≢ 0 → Meets w table o 5
  -- "5. A shift .. lies outside its range ..": of 6 "k 1 to 31", of 7 "k 1 to 30", of 8 "k 1 to 31"
  slack_shift : o.kind ≡ 6 → NoShift o.fourth (w - 1) → Meets w table o 5
  one_bit_shift : o.kind ≡ 7 → NoShift o.fourth (w - 2) → Meets w table o 5
  exact_shift : o.kind ≡ 8 → NoShift o.fourth (w - 1) → Meets w table o 5
  -- "5. A shift or mode lies outside its range ..": "10 curve, mode 0 exact, 1 one-bit"
  curve_mode : o.kind ≡ 10 → 1 < o.fourth → Meets w table o 5
  -- "5. .. or the order is a curve and the table breaks its rules."
  curve_table : o.kind ≡ 10 → (Rules table → ⊥) → Meets w table o 5

-- order i, where there is one
abbrev pub order : List Order → ℕ → Order
order os i = get_or os i (record { kind = 0; target = 0; source = 0; fourth = 0 })

-- no order meets any condition
abbrev pub Faultless : (w : ℕ) (table : List ℕ) → List Order → Type 0
Faultless w table os = (i n : ℕ) → i < length os → Meets w table (order os i) n → ⊥

-- "the first faulty order counts, in this order within it": order i meets n and nothing lower, and the orders
-- before it meet nothing
pub record First (w : ℕ) (table : List ℕ) (os : List Order) (n i : ℕ) : Type 0 where
  pub exists : i < length os
  pub here : Meets w table (order os i) n
  pub no_lower : (m : ℕ) → m < n → Meets w table (order os i) m → ⊥
  pub none_before : (j m : ℕ) → j < i → Meets w table (order os j) m → ⊥

-- a job with its table has the number n, and the index i: 0 where no condition holds of it
pub data Numbered (w : ℕ) (job table : List ℕ) : (n i : ℕ) → Type 0 where
  faultless : (IllSized job → ⊥) → Faultless w table (orders job) → Numbered w job table 0 0
  sizeless : IllSized job → Numbered w job table 2 0
  faulty : {n i : ℕ} → (IllSized job → ⊥) → First w table (orders job) n i → Numbered w job table n i
