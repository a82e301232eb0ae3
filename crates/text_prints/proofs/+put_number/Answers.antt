use native.Mathlib.Omega.{arith}
use Rattle.text_lines.specs.Buffers.{with_bytes}
use Rattle.text_lines.specs.Answers.{held}
use Rattle.text_prints.proofs.Decimals.{only_digit, last_digit}
use Rattle.text_prints.proofs.+put_number.Goals.{then-n-ge10, else-n-ge10}
use Rattle.text_prints.proofs.+put_number.Goals as goal

pub returns : goal.returns
unfolding with_bytes
returns t c = elim c.if-n-ge10.branch [
  | then-n-ge10 w ↦ last_digit (held c.args.text.now) c.args.n _ w.if-n-ge10.true (omega arith) w.put_number.ensures
      (rw w.text-is at c.push.ensures) (omega arith)
  | else-n-ge10 w ↦ only_digit (held c.args.text.now) c.args.n _ w.if-n-ge10.false (rw w.text-is at c.push.ensures) (omega arith)
]
