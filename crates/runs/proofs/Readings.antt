-- What a register reads just before an order is what opening gives: after every run that finishes the order. Assumes nothing.
use mathlib.Core.Path.{◌≡◌, refl, sym, ap, ◌∙◌}
use mathlib.Core.Bool.{false}
use mathlib.Core.List.{List, []}
use Prim.Native.Nat.{ℕ, suc, ◌≤◌, ◌<◌}
use native.Mathlib.Omega.{arith}
use native.Mathlib.Nat.{not-suc-le-zero}
use lib.Dec.{eqb}
use lib.IntN.{ℤ}
use lib.ListN.{get_or, length}
use Rattle.words.specs.Words.{add, numbers}
use Rattle.words.specs.Signed.{signed}
use Rattle.shares.specs.Gates.{Share, mask, value}
use Rattle.shares.proofs.RoundTrip.{share_opens}
use Rattle.gates.specs.Steps.{at}
use Rattle.gates.specs.Hosts.{Pair, of0}
use Rattle.calls.specs.Scripts.{orders_in}
use Rattle.runs.specs.Runs.{Stage, Setting, staged, World, Call, Run, trail0, order1, order2, Finished, opened_after}
use Rattle.runs.specs.Orders.{first, trail, after_order, before_order, mask_before, order_of, reading, Finishes, opens}
use Rattle.runs.specs.Returned.{opened_given}
use Rattle.runs.specs.Readings.{reading_of, mask_after, mask_given, UnwrittenBetween, UntargetedBetween, Origin, of_order, of_given}
use Rattle.runs.specs.Readings.{Readings}
use Rattle.runs.proofs.Lists.{get_d_map}
use Rattle.runs.proofs.Kept.{last, not_yet, dealt_all, wait1, go1, wait2, go2, Ok, ok, kept}
use Rattle.runs.proofs.Spared.{kept_between}
use Rattle.runs.proofs.Opened.{untargeted}
use Rattle.runs.proofs.Opening.{finished_order, finished_opens}
use Rattle.runs.proofs.InJob.{good_order}
use Rattle.runs.proofs.Standing.{in_script}
use Rattle.runs.proofs.Returned.{given_share, given_share_is, unequal, Last, writer, nobody, last_of, target_is}

-- ---- over any stage

module _ (S : Stage) where
  -- host 0's masks as order p left them
  host0_left : {cs : List Call} (v : World) → Run S cs v → (p : ℕ) → Finished v p → get_or (trail0 v) p ([], []) ≡ of0 (after_order S p)
  unfolding after_order trail
  host0_left v r p f = go v (kept S r) f.one f.two (finished_order S v r p f)
    where
      go : (v : World) → Ok S v → p < order1 v → p < order2 v → p < length (trail S) → get_or (trail0 v) p ([], []) ≡ of0 (after_order S p)
      go _ (ok z (wait1 h) two a) l k n = absurd (not-suc-le-zero l)
      go _ (ok z (go1 X) (wait2 h) a) l k n = absurd (not-suc-le-zero k)
      go _ (ok (not_yet h) (go1 X) (go2 Y) a) l k n = absurd a
      go _ (ok (dealt_all d g h e) (go1 X) (go2 Y) a) l k n = rw e (get_d_map of0 (last S).trail p (first S) ([], []) n)

  module _ (w q : ℕ) (v : World) (F : Finishes w S q v) where
    abbrev read : Share ℕ → ℕ × ℤ
    read x = (0, signed w (value (numbers w) x))

    before : q ≤ orders_in S.script
    before = omega (arith, in_script S v F.run q F.finished.one)

    earlier : (p : ℕ) → p < q → Finished v p
    earlier p l = record { one = omega (arith, F.finished.one); two = omega (arith, F.finished.two) }

    written : (p i : ℕ) → p < q → UnwrittenBetween S (suc p) q i → opened_after w v p i ≡ (0, reading_of w S q i)
    unfolding reading_of before_order
    written p i l u = finished_opens S w v F.run p i (earlier p l) ∙ sym (ap read (kept_between S (suc p) i q l before u))

    given : (i : ℕ) → i < S.script.slots → UnwrittenBetween S 0 q i → opened_given w S i ≡ (0, reading_of w S q i)
    unfolding reading_of opened_given before_order
    given i hi u =
        share_opens w (given_share w S i hi) ∙ sym (ap read (kept_between S 0 i q (omega arith) before u ∙ given_share_is w S i hi))

    mask_written : (p i : ℕ) → p < q → UnwrittenBetween S (suc p) q i → mask_after w v p i ≡ mask_before w S q i
    unfolding mask_after before_order
    mask_written p i l u =
        ap (λ (j : Pair). add w (at j.0 i) (at j.1 i)) (host0_left v F.run p (earlier p l))
        ∙ sym (ap (mask (numbers w)) (kept_between S (suc p) i q l before u))

    mask_kept : (i : ℕ) → i < S.script.slots → UnwrittenBetween S 0 q i → mask_given w S i ≡ mask_before w S q i
    unfolding mask_given before_order
    mask_kept i hi u = sym (ap (mask (numbers w)) (kept_between S 0 i q (omega arith) before u ∙ given_share_is w S i hi))

-- ---- of a job

unwritten : (w : ℕ) (S : Setting) (p q i : ℕ) → i < 16 → UntargetedBetween S p q i → UnwrittenBetween (staged w S) p q i
unwritten w S p q i hi u n a b = untargeted w S n i hi (λ h. u n a b)

module _ (w : ℕ) (S : Setting) (q : ℕ) (v : World) (F : Finishes w (staged w S) q v) where
  -- register i, that order p wrote
  written_by : (p i : ℕ) → p < q → i < 16 → (order_of S p).target ≡ i → UntargetedBetween S (suc p) q i
      → opens w S v p ≡ (0, reading_of w (staged w S) q i)
  written_by p i l hi e u = ap (opened_after w v p) e ∙ written (staged w S) w q v F p i l (unwritten w S (suc p) q i hi u)

  given_to : (i : ℕ) → i < 16 → UntargetedBetween S 0 q i → opened_given w (staged w S) i ≡ (0, reading_of w (staged w S) q i)
  given_to i hi u = given (staged w S) w q v F i hi (unwritten w S 0 q i hi u)

  every : (i : ℕ) → i < 16 → Origin w S q v i
  every i hi = go (last_of (λ p. eqb i (order_of S p).target ≡ false) (λ p. unequal (eqb i (order_of S p).target)) q)
    where
      go : Last (λ p. eqb i (order_of S p).target ≡ false) q → Origin w S q v i
      go (writer p l t u) =
          let e : (order_of S p).target ≡ i = target_is i (order_of S p).target t in
          of_order p l e u (written_by p i l hi e u) (mask_written (staged w S) w q v F p i l (unwritten w S (suc p) q i hi u))
      go (nobody u) =
          let n : UntargetedBetween S 0 q i = λ n a b. u n b in
          of_given n (given_to i hi n) (mask_kept (staged w S) w q v F i hi (unwritten w S 0 q i hi n))

  source_low : (order_of S q).source < 16
  source_low = (good_order w S q v F).source

  source_written : (p : ℕ) → p < q → (order_of S p).target ≡ (order_of S q).source → UntargetedBetween S (suc p) q (order_of S q).source
      → opens w S v p ≡ (0, reading w S q)
  unfolding reading reading_of
  source_written p l e u = written_by p (order_of S q).source l source_low e u

  source_given : UntargetedBetween S 0 q (order_of S q).source → opened_given w (staged w S) (order_of S q).source ≡ (0, reading w S q)
  unfolding reading reading_of
  source_given u = given_to (order_of S q).source source_low u

  -- a run that finishes order q finishes the orders before it
  finishes : (p : ℕ) → p < q → Finishes w (staged w S) p v
  finishes p l = record { words = F.words; calls = F.calls; run = F.run; finished = earlier (staged w S) w q v F p l }

pub readings : (w : ℕ) → Readings w
readings w =
    record {
      written = λ S q v F. written S w q v F;
      given = λ S q v F. given S w q v F;
      mask_written = λ S q v F. mask_written S w q v F;
      mask_kept = λ S q v F. mask_kept S w q v F;
      untargeted = unwritten w;
      register_written = λ S q v F p l u. written_by w S q v F p (order_of S p).target l
          (good_order w S p v (finishes w S q v F p l)).target refl u;
      register_given = λ S q v F i hi u. given_to w S q v F i hi u;
      every_register = λ S q v F i hi. every w S q v F i hi;
      source_written = λ S q v F p l e u. source_written w S q v F p l e u;
      source_given = λ S q v F u. source_given w S q v F u;
      source = λ S q v F. every w S q v F (order_of S q).source (source_low w S q v F);
      second_source = λ S q v F t. every w S q v F (order_of S q).fourth ((good_order w S q v F).second t);
    }
