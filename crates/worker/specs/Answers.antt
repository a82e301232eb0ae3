-- The code's structs as the records of the definitions. Assumes nothing.
use Rattle.std.specs.Prelude.{ℕ, Result, Ok, Err}
use Rattle.gates.specs.Steps.{Lane}
use Rattle.gates.specs.Hosts.{Pair}
use Rattle.jobs.specs.Refusals.{fault_of}
use Rattle.calls.specs.declared.Stored.{Stored}
use Rattle.calls.specs.Calls as Calls
use Rattle.walks.specs.Halts.{going_on}
use Rattle.worker.specs.declared.walk.Halt.{Halt}
use Rattle.worker.specs.declared.State.{State}
use Rattle.worker.specs.declared.Registers.{Registers}
use Rattle.worker.specs.declared.Answer.{Answer}
use Rattle.worker.specs.declared.Refused.{Refused}

-- a host's registers are two lanes of sixteen words
abbrev pub lanes_of : Registers → Pair
lanes_of r = (r.m, r.mask)

abbrev pub state_with : (m mask : Lane) (order turn : ℕ) (stored : Stored) → Calls.State
state_with m l o x u = record { m = m; mask = l; order = o; turn = x; stored = u }

abbrev pub state_of : State → Calls.State
state_of s = state_with s.m s.mask s.order s.turn s.stored

-- "every other number in a refused answer is 0"
abbrev pub answer_of : Result Answer Refused → Calls.Answer
answer_of (Ok a) =
    record { number = 0; index = 0; spoken = a.spoken; word = a.word; state = state_of a.state }
answer_of (Err r) = Calls.refused (fault_of r.refusal) (state_of r.state)

-- where a walk halted, on these lanes: the words spoken so far are as many as words of B used
abbrev pub halt_on : Halt → (m mask : Lane) → Calls.Answer
halt_on h m l = going_on h.stored.b h.word m l h.order h.turn h.stored
