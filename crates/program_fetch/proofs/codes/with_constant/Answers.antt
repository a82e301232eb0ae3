use Rattle.gates.specs.Codes.{read}
use Rattle.gates.proofs.Codes.{op_of_number}
use Rattle.program_fetch.proofs.codes.with_constant.Goals as goal

pub returns : goal.returns
unfolding read
returns c = simp (op_of_number c.args.op)
