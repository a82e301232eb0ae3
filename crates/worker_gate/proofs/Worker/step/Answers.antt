use mathlib.Core.Path.{ap, ◌∙◌}
use Prim.Native.Nat.{ℕ}
use Rattle.gates.specs.Codes.{step_of}
use Rattle.gates.specs.Hosts.{on_mask}
use Rattle.gates.proofs.Shapes.{any_word}
use Rattle.worker_gate.proofs.Worker.step.Goals as goal

pub returns-in-Dealing : goal.returns-in-Dealing
returns-in-Dealing c =
    let a = c.args in (
      c.step_m.ensures,
      c.step_mask.ensures ∙ ap (λ (v : ℕ). on_mask (step_of 32 a.g) v a.lanes.now.second) c.deal_taken.ensures,
    )

pub returns-in_default : goal.returns-in_default
returns-in_default c =
    let a = c.args in (
      c.step_m.ensures,
      c.step_mask-in_default.ensures
          ∙ any_word (step_of 32 a.g) _ c.shape_of.ensures c.in_default.not-Dealing 0 _ a.lanes.now.second,
    )
