use mathlib.Core.Path.{ap}
use Prim.Native.Nat.{ℕ}
use lib.Bits.{bit_and}
use lib.Count.{ones}
use lib.Dec.{ltb}
use Rattle.calendars.proofs.Held.{ones_few}
use Rattle.calendars.proofs.bits.ones_before.Goals as goal

pub returns : goal.returns
returns c =
    let a = c.args in
    let are = ap (λ (m : ℕ). ones (bit_and a.word m)) c.before-2.ensures in
    record { are = are; few = ones_few a.word a.first (λ k. ltb k a.quarter) are }
