-- A register that no order between has as its target, from one returned state to another. Assumes nothing.
use mathlib.Core.Path.{◌≡◌, sym, ap, ◌∙◌}
use mathlib.Core.List.{List}
use Prim.Native.Nat.{ℕ, ◌≤◌, ◌<◌}
use borrow.Author.Tests.{ne_eqb}
use Rattle.shares.specs.Gates.{Share}
use Rattle.gates.specs.Hosts.{Pair}
use Rattle.calls.specs.Scripts.{orders_in}
use Rattle.calls.specs.Calls.{State}
use Rattle.runs.specs.Runs.{Setting, staged, Spoken, Dealer, Side, going, world, Call, Run, side_order}
use Rattle.runs.specs.Orders.{share_before, order_of}
use Rattle.runs.proofs.Kept.{Ok, ok, kept}
use Rattle.runs.proofs.Standing.{order1_inside, order2_inside}
use Rattle.runs.proofs.Spared.{kept_between}
use Rattle.runs.proofs.Opened.{untargeted}
use Rattle.runs.proofs.Holdings.{holdings}
use Rattle.demands.specs.Additions.{Leaves, Keeps, lanes}

module _ (w : ℕ) (S : Setting) where
  -- what stands just before order q stood so just before order p
  same_share : (p q i : ℕ) → p ≤ q → q ≤ orders_in (staged w S).script → i < 16 → Leaves S.job p q i
      → share_before (staged w S) q i ≡ share_before (staged w S) p i
  unfolding order_of
  same_share p q i l n h u =
      kept_between (staged w S) p i q l n (λ k a b. untargeted w S k i h (λ m. ne_eqb i (order_of S k).target (u.target k a b)))

  inside1 : {z : Dealer} {buf : List ℕ} {one two : Side} → Ok (staged w S) (world z buf one two)
      → side_order one ≤ orders_in (staged w S).script
  inside1 (ok d a b e) = order1_inside (staged w S) a

  inside2 : {z : Dealer} {buf : List ℕ} {one two : Side} → Ok (staged w S) (world z buf one two)
      → side_order two ≤ orders_in (staged w S).script
  inside2 (ok d a b e) = order2_inside (staged w S) b

  module _ (cs cs' : List Call) (z z' : Dealer) (buf buf' : List ℕ) (s s' : State) (t t' : List Pair) (said said' : List Spoken)
      (other other' : Side) (l : s.order ≤ s'.order) (i : ℕ) (h : i < 16) (u : Leaves S.job s.order s'.order i) where
    pub between1 : Run (staged w S) cs (world z buf (going s t said) other) → Run (staged w S) cs' (world z' buf' (going s' t' said') other')
        → Keeps (lanes s) (lanes s') i
    between1 r r' =
        let x = holdings.job_host1 w S cs z buf s t said other r i h in
        let y = holdings.job_host1 w S cs' z' buf' s' t' said' other' r' i h in
        let e = same_share s.order s'.order i l (inside1 (kept (staged w S) r')) h u in (
          y.0 ∙ ap (λ (a : Share ℕ). a.m) e ∙ sym x.0,
          y.1 ∙ ap (λ (a : Share ℕ). a.l1) e ∙ sym x.1,
        )

    pub between2 : Run (staged w S) cs (world z buf other (going s t said)) → Run (staged w S) cs' (world z' buf' other' (going s' t' said'))
        → Keeps (lanes s) (lanes s') i
    between2 r r' =
        let x = holdings.job_host2 w S cs z buf other s t said r i h in
        let y = holdings.job_host2 w S cs' z' buf' other' s' t' said' r' i h in
        let e = same_share s.order s'.order i l (inside2 (kept (staged w S) r')) h u in (
          y.0 ∙ ap (λ (a : Share ℕ). a.m) e ∙ sym x.0,
          y.1 ∙ ap (λ (a : Share ℕ). a.l2) e ∙ sym x.1,
        )
