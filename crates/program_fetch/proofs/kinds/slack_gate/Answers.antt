use Rattle.std.proofs.Common.{sym, ◌∙◌}
use Rattle.gates.specs.Codes.{fetched, gate_with}
use Rattle.gates.proofs.Fetched.{beyond}
use Rattle.programs.specs.Programs.{slack_program}
use Rattle.program_fetch.proofs.Fetched.{none_below}
use Rattle.program_fetch.proofs.kinds.slack_gate.Goals as goal

pub returns-in-0 : goal.returns-in-0
unfolding gate_with fetched slack_program
returns-in-0 c = simp c.in-0.is c.with_constant.ensures

pub returns-in-1 : goal.returns-in-1
unfolding gate_with fetched slack_program
returns-in-1 c = simp c.in-1.is c.with_constant-in-1.ensures

pub returns-in-2 : goal.returns-in-2
unfolding gate_with fetched slack_program
returns-in-2 c = simp c.in-2.is c.on_slots.ensures

pub returns-in_default : goal.returns-in_default
unfolding slack_program
returns-in_default c = c.past.ensures ∙ sym (beyond (slack_program _ _ _) _ (none_below 3 _ c.in_default.in_default-own.rest))
