use mathlib.Core.List.{[], ◌∷◌}
use Rattle.text_lines.specs.Buffers.{with_bytes}
use Rattle.text_lines.specs.Answers.{held}
use Rattle.text_lines.proofs.Buffers.{behind}
use Rattle.text_prints.specs.Printed.{shown}
use Rattle.text_prints.proofs.Signs.{shows_negative, shows_positive}
use Rattle.text_prints.proofs.put_column.Goals.{then-z-lt0, else-z-lt0}
use Rattle.text_prints.proofs.put_column.Goals as goal

pub returns : goal.returns
unfolding with_bytes
returns c =
    let t = held c.args.text.now in
    let n = c.unsigned_abs in
    elim c.if-z-lt0.branch [
      | then-z-lt0 w ↦
          rw (← shows_negative c.args.z c.ranges.z n.result n.ensures.value w.if-z-lt0.true)
          (behind 80 t (32 ∷ 45 ∷ []) (shown n.result) (behind 80 t (32 ∷ []) (45 ∷ []) c.push.ensures w.push-then-z-lt0.ensures)
          (rw w.text-is at c.put_number.ensures))
      | else-z-lt0 w ↦
          rw (← shows_positive c.args.z c.ranges.z n.result n.ensures.value w.if-z-lt0.false)
          (behind 80 t (32 ∷ []) (shown n.result) c.push.ensures (rw w.text-is at c.put_number.ensures))
    ]
