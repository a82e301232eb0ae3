-- What the walk's code goes by: an accepted job's sizes, and a state's place in it. Assumes nothing.
use Rattle.std.specs.Prelude.{◌≡◌, List, [], ◌∷◌, ℕ, ◌+◌, ◌*◌, ◌/◌, ◌^◌, ◌≤◌, ◌<◌, length}
use Rattle.gates.specs.Gates.{Gate}
use Rattle.gates.specs.Meaning.{meaning}
use Rattle.gates.specs.Walk.{Exchanging}
use Rattle.gates.specs.Codes.{At, fetched, step_of}
use Rattle.gates.specs.Costs.{used_at}
use Rattle.programs.specs.declared.Order.{Order}
use Rattle.programs.specs.Orders.{program}
use Rattle.tables.specs.Table.{Row, rows}
use Rattle.jobs.specs.Job.{order_at}
use Rattle.calls.specs.Calls.{stored_places}
use Rattle.worker.specs.declared.place.Stand.{Stand}
use Rattle.worker.specs.declared.walk.Job.{Job}

-- what is known of an accepted job: at most 64 orders, each of at most 1000 gates, and a curve's table is short
pub record Sized (w : ℕ) (job table : List ℕ) : Type 0 where
  pub few_words : length job ≤ 256
  pub whole_orders : length job ≡ 4 * (length job / 4)
  pub few_gates : (o : ℕ) → o < length job / 4 → length (program w (rows table) (order_at job o)) ≤ 1000
  pub short_table : (o : ℕ) → o < length job / 4 → (order_at job o).kind ≡ 10 → length table ≤ 32

abbrev pub Accepted : Job → Type 0
Accepted j = Sized 32 j.orders.now j.table.now

-- the place of a state is a product or refresh of its order
pub record Standing (w : ℕ) (job table : List ℕ) (order gate : ℕ) : Type 0 where
  pub in_job : order < length job / 4
  pub held : Gate
  pub there : fetched (program w (rows table) (order_at job order)) gate ≡ At held
  pub speaks : Exchanging (meaning w held ∷ [])

-- where a hearing stands, by the code: at gate i of an order's program, with a words of A, b of B and so many deals
-- used before it; the gate is the code's, and the walk's places count what it uses too
pub record StandIs (w : ℕ) (ps : List Row) (order : Order) (i a b dealt : ℕ) (s : Stand) : Type 0 where
  pub gate : s.at.gate ≡ i
  pub a_used : s.at.used.a ≡ a
  pub b_used : s.at.used.b ≡ b
  pub deals_used : s.at.used.deals ≡ dealt
  pub fetches : (g : Gate) → fetched (program w ps order) i ≡ At g → step_of w s.gate ≡ meaning w g
  pub places : s.walked
      ≡ stored_places (a + (used_at (step_of w s.gate)).a) (b + 1) (dealt + (used_at (step_of w s.gate)).deals)

-- it stands at a product or refresh of an order of a job, with few gates, turns and words before it
pub record StandsIn (j : Job) (order turn : ℕ) (s : Stand) : Type 0 where
  pub standing : Standing 32 j.orders.now j.table.now order s.at.gate
  pub is : StandIs 32 (rows j.table.now) (order_at j.orders.now order)
      s.at.gate s.at.used.a s.at.used.b s.at.used.deals s
  pub few_gates : s.at.gate < 1000
  pub few_turns : turn < 1000
  pub few_a : s.at.used.a < 2 ^ 30
  pub few_b : s.at.used.b < 2 ^ 30
  pub few_deals : s.at.used.deals < 2 ^ 30
