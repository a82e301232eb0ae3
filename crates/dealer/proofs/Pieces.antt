-- Host 0's walk over the gates of a piece: a turn, and the end. Assumes nothing.
use mathlib.Core.Path.{◌≡◌}
use mathlib.Core.List.{List, [], ◌∷◌, ◌++◌, map}
use Prim.Native.Nat.{ℕ, ◌+◌, ◌≤◌, ◌<◌}
use native.Mathlib.Numerals.{add-one}
use lib.ListN.{length, drop, drop_of_length-le}
use Rattle.gates.specs.declared.GateCode.{GateCode}
use Rattle.gates.specs.Gates.{Gate}
use Rattle.gates.specs.Steps.{Step}
use Rattle.gates.specs.Meaning.{meaning}
use Rattle.gates.specs.Codes.{fetched, read, step_of}
use Rattle.program_fetch.proofs.PieceSteps.{first_step}
use Rattle.walks.specs.Dealers.{Dealer, dealing, deal_all, Room}
use Rattle.walks.proofs.Preparing.{Midway, room_now, further}

module _ (w : ℕ) (A B : List ℕ) (ss₀ : List Step) (s₀ s : Dealer) (gs : List Gate) (i : ℕ)
    (h : Midway A B ss₀ (map (meaning w) (drop i gs)) s₀ s) where
  module _ (c : GateCode) (e : read c ≡ fetched gs i) (l : i < length gs) where
    next : map (meaning w) (drop i gs) ≡ (step_of w c ∷ []) ++ map (meaning w) (drop (i + 1) gs)
    next = rw (add-one i) (first_step w gs i c e l)

    pub gate_room : Room A B (step_of w c ∷ []) s
    gate_room = room_now A B ss₀ s₀ s _ (step_of w c ∷ []) (map (meaning w) (drop (i + 1) gs)) next h

    pub gate_done : (t : Dealer) → t ≡ dealing A B (step_of w c) s → Midway A B ss₀ (map (meaning w) (drop (i + 1) gs)) s₀ t
    unfolding deal_all
    gate_done t et = further A B ss₀ s₀ s _ (step_of w c ∷ []) (map (meaning w) (drop (i + 1) gs)) next h t et

  pub gates_done : length gs ≤ i → s ≡ deal_all A B ss₀ s₀
  unfolding deal_all
  gates_done l = rw (drop_of_length-le gs l) at h.same
