-- What a register reads just before an order is what opening gives: on the shares that the last order to write it
-- left, or, where none did, on the registers given; and its mask is the sum of host 0's words there. Assumes nothing.
use Rattle.std.specs.Prelude.{◌≡◌, true, false, [], ℕ, suc, ◌≤◌, ◌<◌, eqb, ℤ, get_or}
use Rattle.words.specs.Words.{add}
use Rattle.words.specs.Signed.{signed}
use Rattle.gates.specs.Steps.{at}
use Rattle.jobs.specs.Job.{two_sources}
use Rattle.runs.specs.Runs.{Stage, Setting, staged, World, trail0, opened_after}
use Rattle.runs.specs.Orders.{value_before, mask_before, Unwritten, order_of, reading, Finishes, opens}
use Rattle.runs.specs.Returned.{opened_given}

-- the signed reading of slot i just before order q, on the joint walk; `reading` is that of a job's order's source
unfoldable pub reading_of : (w : ℕ) → Stage → (q i : ℕ) → ℤ
reading_of w S q i = signed w (value_before w S q i)

-- "Host 0 holds L1, L2": their sum as order p left slot i, and as it was given
unfoldable pub mask_after : (w : ℕ) → World → (p i : ℕ) → ℕ
mask_after w v p i = add w (at (get_or (trail0 v) p ([], [])).0 i) (at (get_or (trail0 v) p ([], [])).1 i)

unfoldable pub mask_given : (w : ℕ) → Stage → (i : ℕ) → ℕ
mask_given w S i = add w (at S.r1 i) (at S.r2 i)

-- no step of the orders from order p up to order q, q not among them, has slot i as its target
abbrev pub UnwrittenBetween : Stage → (p q i : ℕ) → Type 0
UnwrittenBetween S p q i = (n : ℕ) → p ≤ n → n < q → Unwritten i n S.script.steps

-- none of these orders of a job has register i as its target
abbrev pub UntargetedBetween : Setting → (p q i : ℕ) → Type 0
UntargetedBetween S p q i = (n : ℕ) → p ≤ n → n < q → eqb i (order_of S n).target ≡ false

-- where register i has its reading and mask before order q from: the last order that wrote it, or what was given
pub data Origin (w : ℕ) (S : Setting) (q : ℕ) (v : World) (i : ℕ) : Type 0 where
  of_order : (p : ℕ) → p < q → (order_of S p).target ≡ i → UntargetedBetween S (suc p) q i
      → opens w S v p ≡ (0, reading_of w (staged w S) q i)
      → mask_after w v p i ≡ mask_before w (staged w S) q i → Origin w S q v i
  of_given : UntargetedBetween S 0 q i
      → opened_given w (staged w S) i ≡ (0, reading_of w (staged w S) q i)
      → mask_given w (staged w S) i ≡ mask_before w (staged w S) q i → Origin w S q v i

-- at every width of w bits
pub record Readings (w : ℕ) : Type 0 where
  -- "the register keeps that until an order writes it": what opening gave on slot i as order p left it
  pub written : (S : Stage) (q : ℕ) (v : World) → Finishes w S q v → (p i : ℕ) → p < q
      → UnwrittenBetween S (suc p) q i
      → opened_after w v p i ≡ (0, reading_of w S q i)
  -- "where the registers given to them open": what opening gives on them
  pub given : (S : Stage) (q : ℕ) (v : World) → Finishes w S q v → (i : ℕ) → i < S.script.slots
      → UnwrittenBetween S 0 q i → opened_given w S i ≡ (0, reading_of w S q i)
  -- and its masks, of host 0's words
  pub mask_written : (S : Stage) (q : ℕ) (v : World) → Finishes w S q v → (p i : ℕ) → p < q
      → UnwrittenBetween S (suc p) q i → mask_after w v p i ≡ mask_before w S q i
  pub mask_kept : (S : Stage) (q : ℕ) (v : World) → Finishes w S q v → (i : ℕ) → i < S.script.slots
      → UnwrittenBetween S 0 q i → mask_given w S i ≡ mask_before w S q i
  -- where an order of a job has another target, no step of it writes the register
  pub untargeted : (S : Setting) (p q i : ℕ) → i < 16 → UntargetedBetween S p q i
      → UnwrittenBetween (staged w S) p q i
  -- the register that order p of a job wrote last
  pub register_written : (S : Setting) (q : ℕ) (v : World) → Finishes w (staged w S) q v → (p : ℕ) → p < q
      → UntargetedBetween S (suc p) q (order_of S p).target
      → opens w S v p ≡ (0, reading_of w (staged w S) q (order_of S p).target)
  -- a register that no order before q wrote
  pub register_given : (S : Setting) (q : ℕ) (v : World) → Finishes w (staged w S) q v → (i : ℕ) → i < 16
      → UntargetedBetween S 0 q i → opened_given w (staged w S) i ≡ (0, reading_of w (staged w S) q i)
  -- every register, one way or the other
  pub every_register : (S : Setting) (q : ℕ) (v : World) → Finishes w (staged w S) q v → (i : ℕ) → i < 16
      → Origin w S q v i
  -- "x is the signed reading of what the order's source opens just before it": so the order's source
  pub source_written : (S : Setting) (q : ℕ) (v : World) → Finishes w (staged w S) q v → (p : ℕ) → p < q
      → (order_of S p).target ≡ (order_of S q).source → UntargetedBetween S (suc p) q (order_of S q).source
      → opens w S v p ≡ (0, reading w S q)
  pub source_given : (S : Setting) (q : ℕ) (v : World) → Finishes w (staged w S) q v
      → UntargetedBetween S 0 q (order_of S q).source
      → opened_given w (staged w S) (order_of S q).source ≡ (0, reading w S q)
  pub source : (S : Setting) (q : ℕ) (v : World) → Finishes w (staged w S) q v
      → Origin w S q v (order_of S q).source
  -- "The fourth word is the second source, a register, for kinds 0, 1, 4"
  pub second_source : (S : Setting) (q : ℕ) (v : World) → Finishes w (staged w S) q v
      → two_sources (order_of S q).kind ≡ true → Origin w S q v (order_of S q).fourth
