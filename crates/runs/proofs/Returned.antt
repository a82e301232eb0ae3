-- After every run: what the hosts now hold opens what the last order that wrote the register opened, or what was given. Assumes nothing.
use mathlib.Core.Path.{◌≡◌, refl, sym, ap, ◌∙◌}
use mathlib.Core.Bool.{Bool, true, false, true≢false}
use mathlib.Core.List.{List, [], ◌∷◌}
use Prim.Native.Nat.{ℕ, zero, suc, ◌≤◌, ◌<◌}
use native.Mathlib.Omega.{arith}
use native.Mathlib.Decide.{dec_le}
use borrow.Author.Tests.{eqb-true}
use lib.Dec.{eqb}
use lib.ListN.{length, take}
use lib.Seq.{get_or-take}
use lib.IntN.{ℤ}
use Rattle.words.specs.Words.{numbers}
use Rattle.words.specs.Signed.{signed}
use Rattle.shares.specs.Gates.{Share, value}
use Rattle.shares.proofs.RoundTrip.{share_opens}
use Rattle.gates.specs.Steps.{Lane, at, Step, local, deal, exchange, end}
use Rattle.gates.specs.Hosts.{Pair, share}
use Rattle.jobs.specs.Job.{orders}
use Rattle.calls.specs.Scripts.{orders_in, Closed}
use Rattle.calls.specs.Calls.{State}
use Rattle.calls.proofs.Lists.{fresh_at}
use Rattle.runs.specs.Runs.{Stage, Setting, staged, Dealer, Side, waiting, going, dealer_holds, World, Call, Run, side_order, order1}
use Rattle.runs.specs.Runs.{order2, Finished, opened_slot, opened_after}
use Rattle.runs.specs.Orders.{Words, before_order, share_before, value_before, Unwritten, order_of, Finishes}
use Rattle.runs.specs.Returned.{side_holds, opened_now, opened_given, UnwrittenFrom, Holds, by_order, by_given, UntargetedFrom}
use Rattle.runs.specs.Returned.{JobHolds, of_order, of_given, Returned}
use Rattle.runs.proofs.Kept.{j₀, last, DealerOk, not_yet, dealt_all, OneOk, wait1, go1, TwoOk, wait2, go2, After, Ok, ok, kept}
use Rattle.runs.proofs.Opened.{untargeted}
use Rattle.runs.proofs.InJob.{good_order}
use Rattle.runs.proofs.Opening.{finished_opens}
use Rattle.runs.proofs.Unwritten.{closed_from}
use Rattle.runs.proofs.Standing.{stands_since, order1_inside, last_since}

-- ---- the three hosts' words of slot i, where they are those of one share

same_share : (w : ℕ) (p0 p1 p2 : Pair) (i : ℕ) (x : Share ℕ) → at p0.0 i ≡ x.l1 → at p0.1 i ≡ x.l2 → at p1.0 i ≡ x.m
    → at p1.1 i ≡ x.l1
    → at p2.0 i ≡ x.m → at p2.1 i ≡ x.l2 → opened_slot w p0 p1 p2 i ≡ (0, signed w (value (numbers w) x))
same_share w p0 p1 p2 i x a b c d e f = rw (a, b, c, d, e, f) (share_opens w x)

module _ (w : ℕ) (S : Stage) (i : ℕ) (hi : i < S.script.slots) where
  front : (l : Lane) → at (take S.script.slots l) i ≡ at l i
  front l = get_or-take S.script.slots l i 0 hi

  -- what was given, as a share
  abbrev pub given_share : Share ℕ
  given_share = record { m = at S.rm i; l1 = at S.r1 i; l2 = at S.r2 i }

  pub given_share_is : share (j₀ S) i ≡ given_share
  given_share_is = rw (fresh_at S.rm i, fresh_at S.r1 i, fresh_at S.r2 i)

  -- ---- where no order from order p on writes slot i, and the hosts are past all orders before it

  module _ (p : ℕ) (u : UnwrittenFrom S p i) where
    at_first : p ≤ 0 → given_share ≡ share_before S p i
    unfolding before_order
    at_first h = let e : 0 ≡ p = omega arith in sym given_share_is ∙ ap (λ (q : ℕ). share_before S q i) e

    host0_has : {z : Dealer} {buf : List ℕ} (two : Side) → DealerOk S z buf → After S z two → p ≤ side_order two → p ≤ orders_in S.script
        → (at (dealer_holds z).0 i ≡ (share_before S p i).l1) × (at (dealer_holds z).1 i ≡ (share_before S p i).l2)
    host0_has (waiting s) (not_yet a) b h k =
        let e = at_first h in (
          ap (λ (r : Pair). at r.0 i) a ∙ ap (λ (x : Share ℕ). x.l1) e,
          ap (λ (r : Pair). at r.1 i) a ∙ ap (λ (x : Share ℕ). x.l2) e,
        )
    host0_has (going s t said) (not_yet a) b h k = absurd b
    host0_has two (dealt_all post g a f) b h k =
        let e = last_since S p i u k in (
          ap (λ (r : Pair). at r.0 i) a ∙ front (last S).state.1 ∙ ap (λ (x : Share ℕ). x.l1) e,
          ap (λ (r : Pair). at r.1 i) a ∙ front (last S).state.2 ∙ ap (λ (x : Share ℕ). x.l2) e,
        )

    host1_has : {x : Side} → OneOk S x → p ≤ side_order x
        → (at (side_holds S.script.slots x).0 i ≡ (share_before S p i).m)
        × (at (side_holds S.script.slots x).1 i ≡ (share_before S p i).l1)
    host1_has (wait1 a) h =
        let e = at_first h in (
          ap (λ (r : Pair). at r.0 i) a ∙ ap (λ (x : Share ℕ). x.m) e,
          ap (λ (r : Pair). at r.1 i) a ∙ ap (λ (x : Share ℕ). x.l1) e,
        )
    host1_has (go1 X) h =
        let e = stands_since S p i X.n X.halts u (rw X.is at h) in (
          front _ ∙ ap (λ (s : State). at s.m i) X.is ∙ ap (λ (x : Share ℕ). x.m) e,
          front _ ∙ ap (λ (s : State). at s.mask i) X.is ∙ ap (λ (x : Share ℕ). x.l1) e,
        )

    host2_has : {x : Side} → TwoOk S x → p ≤ side_order x
        → (at (side_holds S.script.slots x).0 i ≡ (share_before S p i).m)
        × (at (side_holds S.script.slots x).1 i ≡ (share_before S p i).l2)
    host2_has (wait2 a) h =
        let e = at_first h in (
          ap (λ (r : Pair). at r.0 i) a ∙ ap (λ (x : Share ℕ). x.m) e,
          ap (λ (r : Pair). at r.1 i) a ∙ ap (λ (x : Share ℕ). x.l2) e,
        )
    host2_has (go2 Y) h =
        let e = stands_since S p i Y.n Y.halts u (rw Y.is at h) in (
          front _ ∙ ap (λ (s : State). at s.m i) Y.is ∙ ap (λ (x : Share ℕ). x.m) e,
          front _ ∙ ap (λ (s : State). at s.mask i) Y.is ∙ ap (λ (x : Share ℕ). x.l2) e,
        )

    now_since : {cs : List Call} (v : World) → Run S cs v → p ≤ order1 v → p ≤ order2 v
        → opened_now w S.script.slots v i ≡ (0, signed w (value_before w S p i))
    unfolding opened_now
    now_since v r h k = go v (kept S r) h k
      where
        go : (v : World) → Ok S v → p ≤ order1 v → p ≤ order2 v
            → opened_now w S.script.slots v i ≡ (0, signed w (value_before w S p i))
        go _ (ok {z = z} {one = one} {two = two} a b c d) h k =
            let p0 = host0_has two a d k (omega (arith, h, order1_inside S b)) in
            let p1 = host1_has b h in
            let p2 = host2_has c k in
            same_share w (dealer_holds z) (side_holds S.script.slots one) (side_holds S.script.slots two) i (share_before S p i)
            p0.0 p0.1 p1.0 p1.1 p2.0 p2.1

  now_after : {cs : List Call} (v : World) → Run S cs v → (q : ℕ) → Finished v q → UnwrittenFrom S (suc q) i
      → opened_now w S.script.slots v i ≡ opened_after w v q i
  unfolding before_order
  now_after v r q f u = now_since (suc q) u v r f.one f.two ∙ sym (finished_opens S w v r q i f)

  now_given : {cs : List Call} (v : World) → Run S cs v → UnwrittenFrom S 0 i → opened_now w S.script.slots v i ≡ opened_given w S i
  unfolding opened_given before_order
  now_given v r u =
      now_since 0 u v r (omega arith) (omega arith) ∙ ap {B = ℕ × ℤ} (λ (x : Share ℕ). (0, signed w (value (numbers w) x))) given_share_is
      ∙ sym (same_share w (S.r1, S.r2) (S.rm, S.r1) (S.rm, S.r2) i given_share refl refl refl refl refl refl)

written : (w : ℕ) (S : Stage) (q : ℕ) (v : World) → Finishes w S q v → (i : ℕ) → i < S.script.slots → UnwrittenFrom S (suc q) i
    → opened_now w S.script.slots v i ≡ opened_after w v q i
written w S q v F i hi u = now_after w S i hi v F.run q F.finished u

-- ---- the last of the first n orders that writes slot i

-- an order's steps write the slot, or they do not
both_or : {P Q : Type 0} → Dec P → Dec Q → Dec (P × Q)
both_or (yes p) (yes q) = yes (p, q)
both_or (yes p) (no q) = no (λ r. q r.1)
both_or (no p) q = no (λ r. p r.0)

pub unequal : (b : Bool) → Dec (b ≡ false)
unequal true = no (λ e. true≢false e)
unequal false = yes refl

writes : (i q : ℕ) (ss : List Step) → Dec (Unwritten i q ss)
writes i q [] = yes tt
writes i zero (local d m l ∷ ss) = both_or (unequal (eqb i d)) (writes i 0 ss)
writes i zero (deal d f ∷ ss) = both_or (unequal (eqb i d)) (writes i 0 ss)
writes i zero (exchange d e ∷ ss) = both_or (unequal (eqb i d)) (writes i 0 ss)
writes i zero (end ∷ ss) = yes tt
writes i (suc q) (local d m l ∷ ss) = writes i (suc q) ss
writes i (suc q) (deal d f ∷ ss) = writes i (suc q) ss
writes i (suc q) (exchange d e ∷ ss) = writes i (suc q) ss
writes i (suc q) (end ∷ ss) = writes i q ss

-- of the first n: the last for which K does not hold
pub data Last (K : ℕ → Type 0) (n : ℕ) : Type 0 where
  writer : (q : ℕ) → q < n → (K q → ⊥) → ((p : ℕ) → suc q ≤ p → p < n → K p) → Last K n
  nobody : ((p : ℕ) → p < n → K p) → Last K n

pub last_of : (K : ℕ → Type 0) → ((p : ℕ) → Dec (K p)) → (n : ℕ) → Last K n
last_of K dec zero = nobody (λ p h. absurd (omega arith))
last_of K dec (suc n) = go (dec n) (last_of K dec n)
  where
    -- the orders below n, and order n
    upto : (q : ℕ) → K n → ((p : ℕ) → q ≤ p → p < n → K p) → (p : ℕ) → q ≤ p → p < suc n → K p
    upto q e f p l h = at (dec_le (suc p) n)
      where
        at : Dec (suc p ≤ n) → K p
        at (yes k) = f p l k
        at (no k) = let z : n ≡ p = omega arith in rw z at e

    go : Dec (K n) → Last K n → Last K (suc n)
    go (no e) l = writer n (omega arith) e (λ p m h. absurd (omega arith))
    go (yes e) (writer q h t f) = writer q (omega arith) t (upto (suc q) e f)
    go (yes e) (nobody f) = nobody (λ p h. upto 0 e (λ x l y. f x y) p (omega arith) h)

-- up to the last order, and so for every one behind
from_all : (S : Stage) (q i : ℕ) → Closed S.script.steps
    → ((p : ℕ) → q ≤ p → p < orders_in S.script → Unwritten i p S.script.steps) → UnwrittenFrom S q i
from_all S q i shut f p l = go (dec_le (suc p) (orders_in S.script))
  where
    go : Dec (suc p ≤ orders_in S.script) → Unwritten i p S.script.steps
    go (yes h) = f p l h
    go (no h) = closed_from i S.script.steps shut p (omega arith)

every : (w : ℕ) (S : Stage) → Closed S.script.steps → (cs : List Call) (v : World) → Words w S → Run S cs v
    → ((q : ℕ) → q < orders_in S.script → Finished v q)
    → (i : ℕ) → i < S.script.slots → Holds w S v i
every w S shut cs v W r f i hi =
    go (last_of (λ p. Unwritten i p S.script.steps) (λ p. writes i p S.script.steps) (orders_in S.script))
  where
    go : Last (λ p. Unwritten i p S.script.steps) (orders_in S.script) → Holds w S v i
    go (writer q h t u) =
        let g : UnwrittenFrom S (suc q) i = from_all S (suc q) i shut u in
        by_order q h t g (written w S q v (record { words = W; calls = cs; run = r; finished = f q h }) i hi g)
    go (nobody u) = let g : UnwrittenFrom S 0 i = from_all S 0 i shut (λ p l h. u p h) in by_given g (now_given w S i hi v r g)

-- ---- of a job

unwritten : (w : ℕ) (S : Setting) (q i : ℕ) → i < 16 → UntargetedFrom S q i → UnwrittenFrom (staged w S) q i
unwritten w S q i hi u p l = untargeted w S p i hi (u p l)

job_written : (w : ℕ) (S : Setting) (q : ℕ) (v : World) → Finishes w (staged w S) q v → (i : ℕ) → i < 16 → UntargetedFrom S (suc q) i
    → opened_now w 16 v i ≡ opened_after w v q i
job_written w S q v F i hi u = written w (staged w S) q v F i hi (unwritten w S (suc q) i hi u)

pub target_is : (i t : ℕ) → (eqb i t ≡ false → ⊥) → t ≡ i
target_is i t n = go (eqb i t) refl
  where
    go : (b : Bool) → eqb i t ≡ b → t ≡ i
    go true e = sym (eqb-true i t e)
    go false e = absurd (n e)

job_every : (w : ℕ) (S : Setting) (cs : List Call) (v : World) → Words w (staged w S) → Run (staged w S) cs v
    → ((q : ℕ) → q < length (orders S.job) → Finished v q) → (i : ℕ) → i < 16 → JobHolds w S v i
job_every w S cs v W r f i hi =
    go (last_of (λ p. eqb i (order_of S p).target ≡ false) (λ p. unequal (eqb i (order_of S p).target)) (length (orders S.job)))
  where
    go : Last (λ p. eqb i (order_of S p).target ≡ false) (length (orders S.job)) → JobHolds w S v i
    go (writer q h t u) =
        let e : (order_of S q).target ≡ i = target_is i (order_of S q).target t in
        of_order q h e u (job_written w S q v (record { words = W; calls = cs; run = r; finished = f q h }) i hi u
        ∙ ap (opened_after w v q) (sym e))
    go (nobody u) = of_given (λ p l h. u p h) (now_given w (staged w S) i hi v r (unwritten w S 0 i hi (λ p l h. u p h)))

pub returned : (w : ℕ) → Returned w
returned w =
    record {
      written = written w;
      untouched = λ S cs v r i hi u. now_given w S i hi v r u;
      all_done = λ S ok q v F e i hi. written w S q v F i hi (from_all S (suc q) i ok.closed (λ p l h. absurd (omega arith)));
      every_slot = λ S ok. every w S ok.closed;
      job_written = job_written w;
      job_untouched = λ S cs v r i hi u. now_given w (staged w S) i hi v r (unwritten w S 0 i hi u);
      last_writer = λ S q v F u. job_written w S q v F (order_of S q).target (good_order w S q v F).target u;
      every_register = job_every w;
    }
