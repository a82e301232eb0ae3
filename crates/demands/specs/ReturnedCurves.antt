-- Demand 3 of what the calls returned: a finished curve order that is the last to write its target; and the runs that
-- its count speaks of. Assumes nothing.
use Rattle.std.specs.Prelude.{◌≡◌, List, ℕ, suc, ◌*◌, ◌^◌, ◌<◌, ℤ, pos, neg_ℤ, ◌+ℤ◌, length, ◌<ℤ◌}
use Rattle.words.specs.Signed.{floor, wrap}
use Rattle.truncations.specs.Truncation.{slip}
use Rattle.tables.specs.Table.{rows}
use Rattle.curves.specs.Curve.{line, Near}
use Rattle.curves.specs.Count.{count}
use Rattle.jobs.specs.Job.{orders}
use Rattle.runs.specs.Runs.{Setting, staged, World, Accepted}
use Rattle.runs.specs.Orders.{Words, order_of, refresh_mask, reading, Finishes}
use Rattle.demands.specs.Demand3.{Y_of, Exact, OneBit, with_word, eqZ, last_r, Covered}
use Rattle.runs.specs.Returned.{opened_now, UntargetedFrom}

-- a run that finishes order q, and no later order writes its target
pub record Stays (w : ℕ) (S : Setting) (q : ℕ) (v : World) : Type 0 where
  pub finishes : Finishes w (staged w S) q v
  pub last : UntargetedFrom S (suc q) (order_of S q).target

-- what the order's target now opens
abbrev pub target_opens : (w : ℕ) → Setting → World → ℕ → ℕ × ℤ
target_opens w S v q = opened_now w 16 v (order_of S q).target

pub record ReturnedCurves : Type 0 where
  pub exact : (S : Setting) (q : ℕ) (v : World) → Stays 32 S q v → Exact S q → Covered S q
      → target_opens 32 S v q ≡ (0, floor (Y_of 32 S q) 4096)
  pub one_bit : (S : Setting) (q : ℕ) (v : World) → Stays 32 S q v → OneBit S q → Covered S q
      → target_opens 32 S v q
      ≡ (0, floor (Y_of 32 S q) 4096 +ℤ pos (slip 12 (wrap 12 (Y_of 32 S q)) (refresh_mask 32 S q)))
  pub slips : (S : Setting) (q : ℕ) (v : ℕ → World) → Words 32 (staged 32 S)
      → ((a : ℕ) → a < 2 ^ 32 → Stays 32 (with_word 32 S q a) q (v a)) → OneBit S q
      → Covered S q
      → count (2 ^ 32) (λ a. eqZ (target_opens 32 S (v a) q).1 (floor (Y_of 32 S q) 4096 +ℤ pos 1))
      ≡ wrap 12 (Y_of 32 S q) * 2 ^ 20
  pub near_exact : (S : Setting) (q : ℕ) (v : World) → Stays 32 S q v → Exact S q → Covered S q
      → Near (line (rows S.table) (reading 32 S q)) (target_opens 32 S v q).1
  pub near_one_bit : (S : Setting) (q : ℕ) (v : World) → Stays 32 S q v → OneBit S q
      → Covered S q → Near (line (rows S.table) (reading 32 S q)) (target_opens 32 S v q).1
  pub above : (S : Setting) (q : ℕ) (v : World) → Stays 32 S q v → (order_of S q).kind ≡ 10
      → pos (last_r S) <ℤ reading 32 S q
      → target_opens 32 S v q ≡ (0, neg_ℤ (pos 1))
  -- the 2^32 runs of `slips` exist, whatever the buffer, for every order of an accepted job on words: at every width as
  -- many runs as there are words
  pub family : (w : ℕ) (S : Setting) (q : ℕ) (buffer : List ℕ) → Words w (staged w S)
      → Accepted (staged w S) buffer
      → q < length (orders S.job)
      → (v : ℕ → World) × ((a : ℕ) → a < 2 ^ w → Finishes w (staged w (with_word w S q a)) q (v a))
