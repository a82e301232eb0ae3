-- The job that the three hosts run for a line of the rehearsal: "one curve order on the house table". Assumes nothing.
use Rattle.std.specs.Prelude.{◌≡◌, List, [], ◌∷◌, ℕ, zero, suc, replicate, Ok}
use Rattle.gates.specs.Steps.{Lane}
use Rattle.tables.specs.Table.{house}
use Rattle.calls.specs.Scripts.{job_script}
use Rattle.trio.specs.declared.Trio.{Trio as Trio'}
use Rattle.trio.specs.Together.{Trio, trio_of, together}
use Rattle.sample_masks.specs.Masks.{multiples}
use Rattle.rehearsal_answer.specs.Rehearsal.{first_a, first_b}

-- "mode 0 exact, 1 one-bit"
abbrev pub mode_word : ℕ → ℕ
mode_word zero = 0
mode_word (suc m) = 1

-- a word in register 0
abbrev pub in_first : ℕ → Lane
in_first x = x ∷ replicate 15 0

-- one order, which takes register 0 to register 0
abbrev pub trial_job : (mode : ℕ) → List ℕ
trial_job mode = 10 ∷ 0 ∷ 0 ∷ mode_word mode ∷ []

-- "the first of each splits and the job's lists begin at j = 2", as long as an exact curve needs
abbrev pub trial_a : List ℕ
trial_a = multiples first_a 2 241

abbrev pub trial_b : List ℕ
trial_b = multiples first_b 2 120

unfoldable pub trial : (mode m l1 l2 : ℕ) → Trio
trial mode m l1 l2 =
    together (job_script 32 (trial_job mode) house) trial_a trial_b (in_first m, in_first l1, in_first l2)
    (replicate 121 0)

-- the code's three hosts, whatever became of its buffer
pub record Ran (r : Trio') (s : Trio) : Type 0 where
  pub buffer : List ℕ
  pub is : trio_of (Ok r) buffer ≡ s
