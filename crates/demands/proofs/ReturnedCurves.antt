-- Demand 3 of what the calls returned, and the runs that its count speaks of. Assumes nothing.
use mathlib.Core.Path.{◌≡◌, sym, ap, ◌∙◌, subst}
use mathlib.Core.List.{List, [], ◌∷◌}
use Prim.Native.Nat.{ℕ, zero, suc, ◌*◌, ◌^◌, ◌<◌}
use lib.IntN.{ℤ, pos, ◌+ℤ◌}
use lib.ListN.{length, set, length-set}
use Rattle.words.specs.Signed.{floor, wrap}
use Rattle.tables.specs.Table.{rows}
use Rattle.curves.specs.Curve.{line, Near}
use Rattle.curves.specs.Count.{count}
use Rattle.gates.specs.Steps.{Lane, at}
use Rattle.jobs.specs.Job.{orders}
use Rattle.calls.specs.Scripts.{orders_in}
use Rattle.calls.specs.Calls.{given}
use Rattle.runs.specs.Runs.{Stage, Setting, staged, World, Begins, given_out, begin, Accepted}
use Rattle.runs.specs.Orders.{Words, order_of, reading, opens, Finishes}
use Rattle.demands.specs.Demand3.{Y_of, OneBit, refresh_place, with_word, eqZ, Covered}
use Rattle.runs.specs.Strict.{Done}
use Rattle.demands.specs.Whole.{first_world}
use Rattle.demands.specs.ReturnedCurves.{Stays, target_opens, ReturnedCurves}
use Rattle.runs.proofs.Chain.{job_orders}
use Rattle.curves.proofs.Counting.{count_same}
use Rattle.demands.proofs.Demand3.{demand3}
use Rattle.runs.proofs.Returned.{returned}
use Rattle.runs.proofs.Strict.{wide_on, given_back}
use Rattle.runs.proofs.Same.{strict}

now_opens : (S : Setting) (q : ℕ) (v : World) → Stays 32 S q v → target_opens 32 S v q ≡ opens 32 S v q
now_opens S q v F = (returned 32).last_writer S q v F.finishes F.last

-- ---- the family of runs

set_lt : (l : Lane) (i a n : ℕ) → ((j : ℕ) → at l j < n) → a < n → (j : ℕ) → at (set l i a) j < n
set_lt [] i a n h k j = h j
set_lt (x ∷ l) zero a n h k zero = k
set_lt (x ∷ l) zero a n h k (suc j) = h (suc j)
set_lt (x ∷ l) (suc i) a n h k zero = h zero
set_lt (x ∷ l) (suc i) a n h k (suc j) = set_lt l i a n (λ m. h (suc m)) k j

module _ (w : ℕ) (S : Setting) (q : ℕ) where
  -- the run with the word a
  abbrev with_a : ℕ → Stage
  with_a a = staged w (with_word w S q a)

  words_with : Words w (staged w S) → (a : ℕ) → a < 2 ^ w → Words w (with_a a)
  unfolding with_word
  words_with W a h =
      record { A = set_lt S.A (refresh_place w S q) a (2 ^ w) W.A h; B = W.B; rm = W.rm; r1 = W.r1; r2 = W.r2 }

  accepted_with : (buf : List ℕ) → Accepted (staged w S) buf → (a : ℕ) → Accepted (with_a a) buf
  unfolding with_word
  accepted_with buf acc a =
      record { script = acc.script; a = rw (length-set S.A (refresh_place w S q) a) acc.a; b = acc.b; deals = acc.deals }

  -- the registers given, with nothing kept
  abbrev from : (buf : List ℕ) → ℕ → World
  from buf a = first_world (with_a a) buf (given (S.rm, S.r1)) (given (S.rm, S.r2))

  begins : (buf : List ℕ) (a : ℕ) → Begins (with_a a) (from buf a)
  unfolding with_word
  begins buf a =
      given_out (given_back (staged w S) [] S.rm S.r1 S.rm_sixteen S.r1_sixteen)
      (given_back (staged w S) [] S.rm S.r2 S.rm_sixteen S.r2_sixteen)

  one_of : (buf : List ℕ) → Accepted (staged w S) buf → (a : ℕ) → Done (with_a a) [] (from buf a) [] []
  one_of buf acc a = strict.exists (with_a a) [] (from buf a) (begins buf a) (accepted_with buf acc a)

  same_orders : (a : ℕ) → q < length (orders S.job) → q < orders_in (with_a a).script
  unfolding with_word
  same_orders a h = rw (job_orders w S.job S.table) h

  family : (buf : List ℕ) → Words w (staged w S) → Accepted (staged w S) buf → q < length (orders S.job)
      → (v : ℕ → World) × ((a : ℕ) → a < 2 ^ w → Finishes w (with_a a) q (v a))
  family buf W acc h = (
    λ a. (one_of buf acc a).ends_in,
    λ a l. record {
      words = words_with W a l;
      calls = _;
      run = wide_on (with_a a) (begin (begins buf a)) (one_of buf acc a).calls;
      finished = (one_of buf acc a).finished q (same_orders a h);
    },
  )

-- ---- the count

module _ (S : Setting) (q : ℕ) (v : ℕ → World) (W : Words 32 (staged 32 S))
    (F : (a : ℕ) → a < 2 ^ 32 → Stays 32 (with_word 32 S q a) q (v a)) (e : OneBit S q) (h : Covered S q) where
  word_now : (a : ℕ) → a < 2 ^ 32 → target_opens 32 S (v a) q ≡ opens 32 S (v a) q
  unfolding with_word order_of
  word_now a l = now_opens (with_word 32 S q a) q (v a) (F a l)

  slips : count (2 ^ 32) (λ a. eqZ (target_opens 32 S (v a) q).1 (floor (Y_of 32 S q) 4096 +ℤ pos 1)) ≡ wrap 12 (Y_of 32 S q) * 2 ^ 20
  slips =
      count_same (2 ^ 32) _ (λ a. eqZ (opens 32 S (v a) q).1 (floor (Y_of 32 S q) 4096 +ℤ pos 1))
      (λ a l. ap (λ (p : ℕ × ℤ). eqZ p.1 (floor (Y_of 32 S q) 4096 +ℤ pos 1)) (word_now a l))
      ∙ demand3.slips S q v W (λ a l. (F a l).finishes) e h

-- ---- near the line

abbrev NearLine : Setting → ℕ → ℕ × ℤ → Type 0
NearLine S q p = Near (line (rows S.table) (reading 32 S q)) p.1

pub returned_curves : ReturnedCurves
returned_curves =
    record {
      exact = λ S q v F e h. now_opens S q v F ∙ demand3.exact S q v F.finishes e h;
      one_bit = λ S q v F e h. now_opens S q v F ∙ demand3.one_bit S q v F.finishes e h;
      slips = λ S q v W F e h. slips S q v W F e h;
      near_exact = λ S q v F e h. subst (NearLine S q) (sym (now_opens S q v F)) (demand3.near_exact S q v F.finishes e h);
      near_one_bit = λ S q v F e h. subst (NearLine S q) (sym (now_opens S q v F)) (demand3.near_one_bit S q v F.finishes e h);
      above = λ S q v F k l. now_opens S q v F ∙ demand3.above S q v F.finishes k l;
      family = λ w S q buf W acc h. family w S q buf W acc h;
    }
