-- The customer's demand 3 as R-1 changes it, a field for each of their sentences, about the whole list of a run's
-- calls; and what its words mean. R-1's steps are in ByKind.antt, its cases in ByHand.antt, its costs in
-- jobs/specs/CostTable.antt; the sentence on two runs that open alike falls with it. Assumes nothing.
use Rattle.std.specs.Prelude.{◌≡◌, Bool, ◌&&◌, List, ℕ, ◌+◌, ◌*◌, ◌^◌, ◌<◌, ℤ, pos, neg_ℤ, ◌+ℤ◌, set, ◌≤ℤ◌, ◌<ℤ◌}
use Rattle.std.specs.Int.Signed.{le_z}
use Rattle.words.specs.Signed.{floor, wrap}
use Rattle.truncations.specs.Truncation.{slip}
use Rattle.tables.specs.Table.{rows}
use Rattle.curves.specs.Curve.{scaled, line, last_count, Near}
use Rattle.curves.specs.Count.{count}
use Rattle.programs.specs.Programs.{sum_program}
use Rattle.programs.specs.Costs.{program_cost}
use Rattle.calls.specs.Scripts.{orders_in}
use Rattle.runs.specs.Runs.{Stage, Setting, altered, staged, World, Call, Completes, Run, Finished}
use Rattle.runs.specs.Runs.{buffer_of, Accepted}
use Rattle.runs.specs.Orders.{Words, order_of, used_before, refresh_mask, reading, Finishes, opens}

-- Y of that reading
unfoldable pub Y_of : (w : ℕ) → Setting → ℕ → ℤ
Y_of w S q = scaled (rows S.table) (reading w S q)

-- order q is a curve, in exact mode or in one_bit mode
pub record Exact (S : Setting) (q : ℕ) : Type 0 where
  pub kind : (order_of S q).kind ≡ 10
  pub mode : (order_of S q).fourth ≡ 0

pub record OneBit (S : Setting) (q : ℕ) : Type 0 where
  pub kind : (order_of S q).kind ≡ 10
  pub mode : (order_of S q).fourth ≡ 1

-- the place of the refresh's word in list A
unfoldable pub refresh_place : (w : ℕ) → Setting → ℕ → ℕ
refresh_place w S q = (used_before w S q).a + (program_cost w (sum_program w (order_of S q).source (rows S.table))).a

-- the same setting with another word there: "alike in job, table, registers and every other mask word"
unfoldable pub with_word : (w : ℕ) → Setting → ℕ → ℕ → Setting
with_word w S q a = altered S S.job (set S.A (refresh_place w S q) a)

-- two whole numbers are equal
abbrev pub eqZ : ℤ → ℤ → Bool
eqZ x y = le_z x y && le_z y x

-- "the last r", the last row's count
abbrev pub last_r : Setting → ℕ
last_r S = last_count (rows S.table)

-- "The exact value, the error bound and the rounding count cover readings up to the last row" (R-1): from -2^30 to the
-- last r, where "nothing changes"
pub record Covered (S : Setting) (q : ℕ) : Type 0 where
  pub from_low : neg_ℤ (pos (2 ^ 30)) ≤ℤ reading 32 S q
  pub to_last : reading 32 S q ≤ℤ pos (last_r S)

pub record Demand3 : Type 0 where
  -- "each finished curve order, for every reading .. and every table that keeps document 01's rules, opens exactly
  -- floor(Y / 4096) in exact mode"
  pub exact : (S : Setting) (q : ℕ) (v : World) → Finishes 32 (staged 32 S) q v → Exact S q → Covered S q
      → opens 32 S v q ≡ (0, floor (Y_of 32 S q) 4096)
  -- "In one_bit mode it opens one more exactly when (Y mod 4096) + (L mod 4096) is at least 4096, else the same; L is
  -- the sum of the two mask words of the curve's refresh."
  pub one_bit : (S : Setting) (q : ℕ) (v : World) → Finishes 32 (staged 32 S) q v → OneBit S q → Covered S q
      → opens 32 S v q
      ≡ (0, floor (Y_of 32 S q) 4096 +ℤ pos (slip 12 (wrap 12 (Y_of 32 S q)) (refresh_mask 32 S q)))
  -- "Over the 2^32 values of that refresh's list A word, in runs that finish the order and are alike in job, table,
  -- registers and every other mask word, exactly (Y mod 4096) × 2^20 give one more."
  pub slips : (S : Setting) (q : ℕ) (v : ℕ → World) → Words 32 (staged 32 S)
      → ((a : ℕ) → a < 2 ^ 32 → Finishes 32 (staged 32 (with_word 32 S q a)) q (v a)) → OneBit S q
      → Covered S q
      → count (2 ^ 32) (λ a. eqZ (opens 32 S (v a) q).1 (floor (Y_of 32 S q) 4096 +ℤ pos 1))
      ≡ wrap 12 (Y_of 32 S q) * 2 ^ 20
  -- "In both modes the value is above C - 2 and below C + 1."
  pub near_exact : (S : Setting) (q : ℕ) (v : World) → Finishes 32 (staged 32 S) q v → Exact S q → Covered S q
      → Near (line (rows S.table) (reading 32 S q)) (opens 32 S v q).1
  pub near_one_bit : (S : Setting) (q : ℕ) (v : World) → Finishes 32 (staged 32 S) q v → OneBit S q
      → Covered S q → Near (line (rows S.table) (reading 32 S q)) (opens 32 S v q).1
  -- "The curve therefore opens -1 for x above the last r"; "above it -1 is owed for every mask" (R-1): in both modes,
  -- up to 2^31 - 1
  pub above : (S : Setting) (q : ℕ) (v : World) → Finishes 32 (staged 32 S) q v → (order_of S q).kind ≡ 10
      → pos (last_r S) <ℤ reading 32 S q
      → opens 32 S v q ≡ (0, neg_ℤ (pos 1))
  -- "A run of a job accepted with its lists, after which only refused calls can stand, has finished every order."
  pub finishes : (S : Stage) (v : World) (cs : List Call) → Run S cs v → Accepted S (buffer_of v)
      → ((c : Call) (v' : World) → Completes S c v v' → ⊥) → (q : ℕ) → q < orders_in S.script
      → Finished v q
