-- After every run: what opening gives on a finished order's shares. Assumes nothing.
use mathlib.Core.Path.{◌≡◌}
use mathlib.Core.List.{List, [], ◌++◌}
use Prim.Native.Nat.{ℕ, ◌<◌}
use native.Mathlib.Nat.{not-suc-le-zero}
use native.Mathlib.Omega.{arith}
use lib.ListN.{get_or, length, length-append, get_or-append}
use Rattle.words.specs.Signed.{signed}
use Rattle.shares.proofs.RoundTrip.{share_opens}
use Rattle.gates.specs.Steps.{Exchange, Cursor}
use Rattle.gates.specs.Hosts.{Pair, Triple, of0, of1, of2, joint1, joint2, act}
use Rattle.calls.specs.Calls.{State}
use Rattle.runs.proofs.Lists.{get_d_map}
use Rattle.runs.specs.Runs.{Stage, Spoken, World, Call, Run, order1, order2, Finished, opened_after}
use Rattle.runs.specs.Orders.{first, trail, after_order, share_after, value_after}
use Rattle.runs.proofs.Places.{trail_pos, trail_length}
use Rattle.runs.proofs.Ties.{Tied}
use Rattle.runs.proofs.Kept.{all, j₀, last, position, not_yet, dealt_all, wait1, go1, wait2, go2, Ok, ok, kept}

module _ (S : Stage) where
  -- a host's trail has the joint walk's lanes as order q left them
  entry : (h : Triple → Pair) (say : Exchange → Cursor → Triple → ℕ) (s : State) (t : List Pair) (said : List Spoken) (q : ℕ)
      → Tied S.A S.B (all S) (j₀ S) h say s t said → q < s.order → (q < length (trail S)) × (get_or t q ([], []) ≡ h (after_order S q))
  unfolding trail after_order
  entry h say s t said q Z l =
      let n : ℕ = Z.n in
      let J : List Triple = (position S n).trail in
      let r = trail_pos (act S.A S.B) (all S) (j₀ S) n in
      let k : q < length J = rw (trail_length (act S.A S.B) (all S) (j₀ S) n) (rw Z.is at l) in (
        rw r.1 (longer J r.0 q k),
        rw (Z.trails, r.1, get_or-append J r.0 (first S) q k) (get_d_map h J q (first S) ([], []) k),
      )
    where
      longer : (a b : List Triple) (q : ℕ) → q < length a → q < length (a ++ b)
      longer a b q h = omega (arith, length-append a b)

  -- a finished order is one of the script's
  pub finished_order : {cs : List Call} (v : World) → Run S cs v → (q : ℕ) → Finished v q → q < length (trail S)
  finished_order v r q f = go v (kept S r) f.one
    where
      go : (v : World) → Ok S v → q < order1 v → q < length (trail S)
      go _ (ok z (wait1 h) two a) l = absurd (not-suc-le-zero l)
      go _ (ok z (go1 X) two a) l = (entry of1 (joint1 S.A S.B) _ _ _ q X l).0

  -- "What it opens is what opening gives on the three hosts' shares": the value on the joint walk; number 10 is never met
  pub finished_opens : (w : ℕ) {cs : List Call} (v : World) → Run S cs v → (q i : ℕ) → Finished v q
      → opened_after w v q i ≡ (0, signed w (value_after w S q i))
  unfolding opened_after after_order trail
  finished_opens w v r q i f = go v (kept S r) f.one f.two
    where
      go : (v : World) → Ok S v → q < order1 v → q < order2 v → opened_after w v q i ≡ (0, signed w (value_after w S q i))
      go _ (ok z (wait1 h) two a) l k = absurd (not-suc-le-zero l)
      go _ (ok z (go1 X) (wait2 h) a) l k = absurd (not-suc-le-zero k)
      go _ (ok (not_yet h) (go1 X) (go2 Y) a) l k = absurd a
      go _ (ok (dealt_all p g h e) (go1 X) (go2 Y) a) l k =
          let x = entry of1 (joint1 S.A S.B) _ _ _ q X l in
          let y = entry of2 (joint2 S.A S.B) _ _ _ q Y k in
          rw (e, x.1, y.1, get_d_map of0 (last S).trail q (first S) ([], []) x.0) (share_opens w (share_after S q i))
