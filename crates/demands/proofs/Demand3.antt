-- Demand 3, proved for every run. Assumes nothing.
use mathlib.Core.Path.{◌≡◌, refl, ap, ◌∙◌}
use mathlib.Core.Bool.{Bool, true, false, cond}
use mathlib.Core.List.{List}
use Prim.Native.Nat.{ℕ, zero, suc, ◌+◌, ◌-◌, ◌*◌, ◌%◌, ◌^◌, ◌≤◌, ◌<◌}
use native.Mathlib.Nat.{mod-eq_of_lt}
use native.Mathlib.Omega.{arith}
use borrow.Author.Tests.{le-leb, lt-leb}
use lib.Dec.{leb, lit≤}
use lib.IntN.{ℤ, pos, negsuc, ◌+ℤ◌, +ℤ_idr}
use lib.ListN.{length, length-set}
use Rattle.words.specs.Words.{add}
use Rattle.words.specs.Signed.{floor, wrap}
use Rattle.truncations.specs.Truncation.{slip}
use Rattle.words.proofs.Integers.{sub_below}
use Rattle.words.proofs.Signed.{wrap_lt}
use Rattle.tables.specs.Table.{rows}
use Rattle.curves.specs.Curve.{scaled, line, Near}
use Rattle.curves.specs.Count.{count}
use Rattle.curves.proofs.Curve.{exact_near, one_bit_near}
use Rattle.curves.proofs.Counting.{count_same, slips_of_words}
use Rattle.jobs.specs.Job.{orders, job_cost}
use Rattle.jobs.specs.FirstFault.{order}
use Rattle.calls.specs.Scripts.{orders_in}
use Rattle.runs.specs.Runs.{Stage, Setting, staged, World, Call, Completes, Run, Finished, buffer_of, Accepted}
use Rattle.runs.specs.Orders.{Words, order_of, refresh_mask, reading, opens, Finishes}
use Rattle.demands.specs.Demand3.{Y_of, Exact, OneBit, refresh_place, with_word, eqZ, Covered, Demand3}
use Rattle.runs.proofs.InJob.{in_job, checked}
use Rattle.demands.proofs.Curves.{rules_kept, exact_opens, one_bit_opens, above_opens}
use Rattle.demands.proofs.Family.{word_of_b, place_needed, reading_same, mask_same}
use Rattle.runs.proofs.Progress.{stuck_ended}

-- ---- a reading up to the last row

module _ (S : Setting) (q : ℕ) (v : World) (F : Finishes 32 (staged 32 S) q v) (h : Covered S q) where
  exact : Exact S q → opens 32 S v q ≡ (0, floor (Y_of 32 S q) 4096)
  exact e = exact_opens S q v F e.kind h e.mode

  one_bit : OneBit S q → opens 32 S v q ≡ (0, floor (Y_of 32 S q) 4096 +ℤ pos (slip 12 (wrap 12 (Y_of 32 S q)) (refresh_mask 32 S q)))
  one_bit e = one_bit_opens S q v F e.kind h 0 e.mode

  near_exact : Exact S q → Near (line (rows S.table) (reading 32 S q)) (opens 32 S v q).1
  unfolding Y_of
  near_exact e = rw (exact e) (exact_near S.table (rules_kept 32 S q v F e.kind) (reading 32 S q))

  near_one_bit : OneBit S q → Near (line (rows S.table) (reading 32 S q)) (opens 32 S v q).1
  unfolding Y_of
  near_one_bit e = rw (one_bit e) (one_bit_near S.table (rules_kept 32 S q v F e.kind) (reading 32 S q) (refresh_mask 32 S q))

-- ---- the count

less : (z : ℤ) → eqZ z (z +ℤ pos 1) ≡ false
less (pos n) = rw (le-leb n (n + 1) (omega arith), lt-leb (n + 1) n (omega arith))
less (negsuc zero) = refl
less (negsuc (suc n)) =
    let e : suc (suc n) - suc 1 ≡ n = omega arith in
    rw (sub_below 1 (suc (suc n)) (omega arith), e, le-leb n (suc n) (omega arith), lt-leb (suc n) n (omega arith))

-- one more, or the same
one_more : (z : ℤ) (b : Bool) → eqZ (z +ℤ pos (cond b 1 0)) (z +ℤ pos 1) ≡ b
one_more z true = equal (z +ℤ pos 1)
  where
    equal : (x : ℤ) → eqZ x x ≡ true
    equal (pos n) = rw (le-leb n n (omega arith))
    equal (negsuc n) = rw (le-leb n n (omega arith))
one_more z false = rw (+ℤ_idr z) (less z)

-- ---- the family of runs

module _ (S : Setting) (q : ℕ) (v : ℕ → World) (words : Words 32 (staged 32 S))
    (F : (a : ℕ) → a < 2 ^ 32 → Finishes 32 (staged 32 (with_word 32 S q a)) q (v a)) (e : OneBit S q)
    (h : Covered S q) where
  abbrev first_run : Finishes 32 (staged 32 (with_word 32 S q 0)) q (v 0)
  first_run = F 0 (omega arith)

  in_orders : q < length (orders S.job)
  unfolding with_word
  in_orders = in_job 32 (with_word 32 S q 0) q (v 0) first_run

  place_listed : refresh_place 32 S q < length S.A
  unfolding with_word job_cost
  place_listed =
      let c = checked 32 (with_word 32 S q 0) q (v 0) first_run in
      omega (arith, place_needed 32 S q e in_orders, c.a, length-set S.A (refresh_place 32 S q) 0)

  -- the refresh's word of B
  abbrev b : ℕ
  b = word_of_b 32 S q

  abbrev y : ℕ
  y = wrap 12 (Y_of 32 S q)

  module _ (a : ℕ) (l : a < 2 ^ 32) where
    same_reading : reading 32 (with_word 32 S q a) q ≡ reading 32 S q
    same_reading = reading_same 32 S q a words (F a l).words in_orders

    same_covered : Covered (with_word 32 S q a) q
    unfolding with_word
    same_covered = record { from_low = rw same_reading h.from_low; to_last = rw same_reading h.to_last }

    word_opens : opens 32 S (v a) q ≡ (0, floor (Y_of 32 S q) 4096 +ℤ pos (slip 12 y (add 32 a b)))
    unfolding with_word order_of Y_of
    word_opens =
        one_bit (with_word 32 S q a) q (v a) (F a l) same_covered (record { kind = e.kind; mode = e.mode })
        ∙ (λ i. (
          0,
          floor (scaled (rows S.table) (same_reading i)) 4096 +ℤ pos
              (slip 12 (wrap 12 (scaled (rows S.table) (same_reading i))) (mask_same 32 S q a place_listed i)),
        ))

    gives_one_more : eqZ (opens 32 S (v a) q).1 (floor (Y_of 32 S q) 4096 +ℤ pos 1) ≡ leb 4096 (y + (a + b) % 2 ^ 32 % 4096)
    unfolding slip add
    gives_one_more =
        ap (λ (p : ℕ × ℤ). eqZ p.1 (floor (Y_of 32 S q) 4096 +ℤ pos 1)) word_opens
        ∙ one_more (floor (Y_of 32 S q) 4096) (leb 4096 (y % 4096 + add 32 a b % 4096))
        ∙ ap (λ (n : ℕ). leb 4096 (n + add 32 a b % 4096)) (mod-eq_of_lt (wrap_lt 12 (Y_of 32 S q)))

  slips : count (2 ^ 32) (λ a. eqZ (opens 32 S (v a) q).1 (floor (Y_of 32 S q) 4096 +ℤ pos 1)) ≡ y * 2 ^ 20
  slips =
      count_same (2 ^ 32) _ (λ a. leb 4096 (y + (a + b) % 2 ^ 32 % 4096)) gives_one_more
      ∙ slips_of_words 32 y b (lit≤ tt) (wrap_lt 12 (Y_of 32 S q))

-- ---- every order

finishes : (S : Stage) (v : World) (cs : List Call) → Run S cs v → Accepted S (buffer_of v)
    → ((c : Call) (v' : World) → Completes S c v v' → ⊥)
    → (q : ℕ) → q < orders_in S.script → Finished v q
finishes S v cs r acc n q h =
    let f = stuck_ended S r acc n in
    record { one = rw f.one h; two = rw f.two h }

pub demand3 : Demand3
demand3 =
    record {
      exact = λ S q v F e h. exact S q v F h e;
      one_bit = λ S q v F e h. one_bit S q v F h e;
      slips = λ S q v words F e h. slips S q v words F e h;
      near_exact = λ S q v F e h. near_exact S q v F h e;
      near_one_bit = λ S q v F e h. near_one_bit S q v F h e;
      above = λ S q v F k l. above_opens S q v F k l;
      finishes = finishes;
    }
