use mathlib.Core.Path.{◌∙◌}
use Rattle.gates.specs.Codes.{step_of}
use Rattle.walks.proofs.Workers.{says_1, says_2}
use Rattle.worker_gate.proofs.Worker.say.Goals as goal

pub returns-then-self-eq1 : goal.returns-then-self-eq1
returns-then-self-eq1 c =
    let s = c.args.self.now in
    let l = c.args.lanes.now in
    let u = c.args.used in
    c.word1.ensures
    ∙ says_1 s.masks.now s.deals.now u.a u.b u.deals l.first l.second s.host (step_of 32 c.args.g)
    _ _ c.new_mask-new.ensures c.word_at.ensures c.if-self-eq1.true

pub returns-else-self-eq1 : goal.returns-else-self-eq1
returns-else-self-eq1 c =
    let s = c.args.self.now in
    let l = c.args.lanes.now in
    let u = c.args.used in
    c.word2.ensures
    ∙ says_2 s.masks.now s.deals.now u.a u.b u.deals l.first l.second s.host (step_of 32 c.args.g)
    _ _ c.new_mask-new.ensures c.word_at-else-self-eq1.ensures c.if-self-eq1.false
