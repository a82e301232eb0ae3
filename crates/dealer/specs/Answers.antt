-- The code's structs as the record of the definition. Assumes nothing.
use Rattle.std.specs.Prelude.{List, ℕ, replicate, Result, Ok, Err}
use Rattle.jobs.specs.declared.Condition.{Condition}
use Rattle.jobs.specs.Refusals.{number_of}
use Rattle.calls.specs.Calls as Calls
use Rattle.dealer.specs.declared.Prepared.{Prepared}
use Rattle.dealer.specs.declared.Refused.{Refused}

-- preparation's answer, with the buffer as the code leaves it; "every other number in a refused answer is 0"
abbrev pub answer : Result Prepared Refused → (buffer : List ℕ) → Calls.Prepared
answer (Ok p) buf =
    record { number = 0; index = 0; deals = p.deals; masks = (p.masks.l1, p.masks.l2); buffer = buf }
answer (Err r) buf =
    record {
      number = number_of r.refusal.condition;
      index = r.refusal.index;
      deals = 0;
      masks = (r.masks.l1, r.masks.l2);
      buffer = buf;
    }

-- a day's refusal
abbrev pub no_masks : Condition → Refused
no_masks c =
    record {
      refusal = record { condition = c; index = 0 };
      masks = record { l1 = replicate 16 0; l2 = replicate 16 0 };
    }
