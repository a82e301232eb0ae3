use Rattle.std.proofs.Common.{◌∙◌, ⊎_elim}
use Rattle.gates.specs.declared.Shape.TheVariants.{Local, Dealing, Product, Undealt}
use Rattle.gates.specs.Codes.{step_of}
use Rattle.walks.proofs.Workers.{hears}
use Rattle.worker_gate.proofs.Worker.meet.Goals as goal

pub returns-in-Product : goal.returns-in-Product
returns-in-Product c =
    let s = c.args.self.now in
    let u = c.args.used in
    let l = c.args.lanes.now in
    let heard =
    hears s.masks.now s.deals.now u.a u.b u.deals l.first l.second s.host (step_of 32 c.args.g) _ c.args.heard _ _ _
    c.shape_of.ensures c.say-own.ensures c.new_mask-new.ensures c.sum_of-sum.ensures in
    (λ i. (c.put.ensures i, c.put-in-Product.ensures i))
    ∙ ⊎_elim (λ p. heard (Product _) p) (λ p. heard (Undealt _) p) c.in-Product.is

pub returns-in-Local : goal.returns-in-Local
returns-in-Local c =
    let s = c.args.self.now in
    let u = c.args.used in
    let l = c.args.lanes.now in
    let heard =
    hears s.masks.now s.deals.now u.a u.b u.deals l.first l.second s.host (step_of 32 c.args.g) _ c.args.heard _ _ _
    c.shape_of.ensures c.say-own.ensures c.new_mask-new.ensures c.sum_of-sum.ensures in
    ⊎_elim (λ p. heard Local p) (λ p. heard (Dealing p.0) p.1) c.in-Local.is
