use Rattle.std.proofs.Common.{◌∙◌, arith}
use Rattle.program_fetch.proofs.Powers.{full}
use Rattle.program_fetch.proofs.kinds.full_power.Goals as goal

pub returns-in-0 : goal.returns-in-0
returns-in-0 c = simp c.in-0.is

pub returns-in_default : goal.returns-in_default
returns-in_default c = c.power.ensures ∙ full 32 _ (omega arith) c.in_default.in_default-own.rest.1
