-- Preparation, starting and hearing on the words that C lends: what each answers, and what it leaves in those words.
-- Assumes nothing.
use Rattle.std.specs.Prelude.{List, ℕ}
use Rattle.calls.specs.Scripts.{job_script}
use Rattle.calls.specs.Lent.{lent}
use Rattle.calls.specs.Calls as Calls
use Rattle.lamphiek.specs.declared.Answer.{Answer}
use Rattle.lamphiek.specs.Layout.{answer, written, masks_in, masks_out, state_in, state_out, registers_in}

-- ---- host 0

abbrev pub preparation : (masks job table a b deals : List ℕ) → Calls.Prepared
preparation M J T A B D = Calls.prepare (job_script 32 J T) A B D (masks_in M)

-- count: "preparation reports the deals it wrote"
abbrev pub prepared : Calls.Prepared → Answer
prepared p = answer p.number p.index p.deals 0

abbrev pub masks_left : Calls.Prepared → (old : List ℕ) → List ℕ
masks_left p old = written p.number (masks_out p.masks) old

-- ---- hosts 1 and 2

abbrev pub starting : (state : List ℕ) (host : ℕ) (job table masks deals : List ℕ) → Calls.Answer
starting S h J T M D = Calls.start (lent h (job_script 32 J T) M D) (registers_in S)

abbrev pub hearing : (state : List ℕ) (host : ℕ) (job table masks deals : List ℕ) (heard : ℕ) → Calls.Answer
hearing S h J T M D v = Calls.hear (lent h (job_script 32 J T) M D) (state_in S) v

-- count: "hosts 1 and 2 each the words they have spoken so far"
abbrev pub spoken : Calls.Answer → Answer
spoken a = answer a.number a.index a.spoken a.word

abbrev pub state_left : Calls.Answer → (old : List ℕ) → List ℕ
state_left a old = written a.number (state_out a.state) old
