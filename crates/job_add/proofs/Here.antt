-- What `adds_here` tells. Assumes nothing.
use Rattle.std.proofs.Common.{◌≡◌, ℕ, Bool, true, false, ◌&&◌, eqb, ltb, refl, ltb-true, eqb-true}
use Rattle.programs.specs.declared.Order.{Order}
use Rattle.jobs.specs.Additions.{Additive}
use Rattle.job_add.specs.Here.{adds_here}

pub here : (o : Order) (i : ℕ) → true ≡ adds_here o i → (i ≡ 0) × Additive o
unfolding adds_here
here o i = go (eqb i 0) refl (ltb o.kind 2) refl
  where
    go : (a : Bool) → eqb i 0 ≡ a → (b : Bool) → ltb o.kind 2 ≡ b
        → true ≡ a && b && ltb o.target 16 && ltb o.source 16 && ltb o.fourth 16
        → (i ≡ 0) × Additive o
    go true p true q e = (eqb-true i 0 p, ltb-true o.kind 2 q)
    go true p false q e = cc
    go false p b q e = cc
