-- The three hosts stand where the joint walk halts, and a word heard by each brings both to the next halt. Assumes nothing.
use mathlib.Core.Path.{◌≡◌, refl, sym, ap, ap₂, ◌∙◌}
use mathlib.Core.List.{List, [], ◌++◌}
use Prim.Native.Nat.{ℕ, zero, suc, ◌≤◌, ◌<◌}
use lib.ListN.{length}
use Rattle.gates.specs.Steps.{Exchange, Cursor, origin}
use Rattle.gates.specs.Walk.{Conf, Exchanging}
use Rattle.gates.specs.Hosts.{Pair, Triple, of0, of1, of2, act, deals, joint1, joint2, Supplied}
use Rattle.gates.proofs.Seen.{through, Always}
use Rattle.jobs.specs.Job.{Fault}
use Rattle.calls.specs.Scripts.{Script, script_cost}
use Rattle.calls.specs.Lent.{worker1, worker2, dealer_fault, lent_fault, worker_with, worker_of}
use Rattle.calls.specs.Calls.{State, Answer, Prepared, spoken_at, state_of, report, given, start_walk, start, found_of, resume}
use Rattle.calls.specs.Calls.{hear, prepared as Calls_prepared, prepare, word_at}
use Rattle.runs.specs.Runs.{Stage, ready, lent1, lent2, preparation, Accepted}
use Rattle.runs.proofs.Places.{Halted, one_halt}
use Rattle.runs.proofs.Ties.{shadow1, shadow2, joint, words, Went, starts, hears_on}
use Rattle.runs.proofs.Kept.{all, j₀, DealerOk, dealt_all, prepares_ok, supplied, deals_fit}
use Rattle.demands.proofs.Whole.{whole}
use Rattle.runs.proofs.Progress.{unless_zero, lent1_zero, lent2_zero}
use Rattle.trio.specs.Together.{Trio, after_preparation, begun, heard, left}

-- the three hosts of a stage: at the start, after a word that each hears, and their lanes at the end
abbrev pub begun_of : Stage → (buffer : List ℕ) → Trio
begun_of S buf = begun S.script S.A S.B (S.rm, S.r1, S.r2) buf

abbrev pub heard_of : Stage → Trio → Trio
heard_of S s = heard S.script S.A S.B s

abbrev pub left_of : Stage → Triple
left_of S = left S.script S.A S.B (S.rm, S.r1, S.r2)

prepared_number : (n : ℕ) (f : Fault) (σ : Script) (A B buf : List ℕ) (r : Pair) → f.0 ≡ n → n ≡ (Calls_prepared n f σ A B buf r).number
unfolding Calls_prepared
prepared_number zero f σ A B buf r e = refl
prepared_number (suc n) f σ A B buf r e = sym e

pub prepare_number : (σ : Script) (A B buf : List ℕ) (r : Pair) → (dealer_fault σ A B buf).0 ≡ (prepare σ A B buf r).number
unfolding prepare
prepare_number σ A B buf r = prepared_number _ _ σ A B buf r refl

module _ (S : Stage) (buf : List ℕ) where
  abbrev pub P : Prepared
  P = preparation S buf (S.r1, S.r2)

  abbrev pub D : List ℕ
  D = P.buffer

  abbrev pub at_n : ℕ → Conf Triple
  at_n n = joint S.A S.B (all S) (j₀ S) n

  -- a host's answer where the joint walk is at position n
  abbrev pub answer_at : (Triple → Pair) → (Exchange → Cursor → Triple → ℕ) → ℕ → Answer
  answer_at h say n =
      record {
        number = 0;
        index = 0;
        spoken = spoken_at (at_n n).rest (at_n n).cur;
        word = words S.A S.B (all S) (j₀ S) say n;
        state = state_of (through h (at_n n));
      }

  -- the three hosts behind a preparation that is not refused, with these answers of hosts 1 and 2
  abbrev pub with_answers : (one two : Answer) → Trio
  with_answers a b =
      record {
        number = P.number;
        index = P.index;
        deals = P.deals;
        masks = P.masks;
        one = a;
        two = b;
        buffer = D;
      }

  pub prepared_is : P.number ≡ 0 → (a b : Answer) → after_preparation (S.rm, S.r1, S.r2) P a b ≡ with_answers a b
  unfolding after_preparation
  prepared_is done a b =
      rw (
        unless_zero P.number (P.number, P.index) (given (S.rm, S.r1)) a done,
        unless_zero P.number (P.number, P.index) (given (S.rm, S.r2)) b done,
      )

  -- the three hosts there
  abbrev pub standing : ℕ → Trio
  standing n = with_answers (answer_at of1 (joint1 S.A S.B) n) (answer_at of2 (joint2 S.A S.B) n)

  pub record Standing (s : Trio) : Type 0 where
    pub n : ℕ
    pub halts : Halted (at_n n).rest
    pub is : s ≡ standing n

  -- ---- a preparation that is not refused was lent enough for every call

  module _ (done : P.number ≡ 0) where
    accepted : Accepted S buf
    accepted = whole.accepted S buf (S.r1, S.r2) done

    abbrev Written : Type 0
    Written = (post : List ℕ) × (D ≡ deals S.A S.B (all S) origin (of0 (j₀ S)) ++ post)

    written : Written
    written = go (prepares_ok S (S.r1, S.r2) buf refl done)
      where
        go : {t : List Pair} → DealerOk S (ready P.masks t) D → Written
        go (dealt_all post e m t) = (post, e)

    supply : Supplied S.A S.B D (all S) origin (j₀ S)
    supply = supplied S D written.0 D written.1 refl

    deals_there : (script_cost S.script).deals ≤ length D
    deals_there = deals_fit S D written.0 written.1

    passed1 : (lent_fault (lent1 S D)).0 ≡ 0
    passed1 = lent1_zero S buf accepted D

    passed2 : (lent_fault (lent2 S D)).0 ≡ 0
    passed2 = lent2_zero S buf accepted D deals_there

    abbrev Went1 : ℕ → List Pair → Answer → List Pair → Type 0
    Went1 =
        Went S.A S.B (all S) (j₀ S) (worker1 S.A) of1 (joint1 S.A S.B) (joint2 S.A S.B) Always
        (shadow1 S.A S.B) tt

    abbrev Went2 : ℕ → List Pair → Answer → List Pair → Type 0
    Went2 =
        Went S.A S.B (all S) (j₀ S) (worker2 S.B D) of2 (joint2 S.A S.B) (joint1 S.A S.B) (Supplied S.A S.B D)
        (shadow2 S.A S.B D) supply

    -- two answers that went on from position k leave the three standing
    both : (k : ℕ) (t1 t2 r1 r2 : List Pair) (a b : Answer) → Went1 k t1 a r1 → Went2 k t2 b r2
        → (x : Standing (with_answers a b)) × (k ≤ x.n)
    both k t1 t2 r1 r2 a b X Y =
        let e : at_n Y.to ≡ at_n X.to =
        one_halt (act S.A S.B) (all S) (j₀ S) k Y.to X.to Y.later X.later Y.halts X.halts Y.quietly
        X.quietly in
        let f : b ≡ answer_at of2 (joint2 S.A S.B) X.to = Y.is ∙ ap {B = Answer} (λ (p : Conf Triple). answer_in p) e in
        (record { n = X.to; halts = X.halts; is = ap₂ {C = Trio} (λ (x y : Answer). with_answers x y) X.is f }, X.later)
      where
        answer_in : Conf Triple → Answer
        answer_in p =
            record {
              number = 0;
              index = 0;
              spoken = spoken_at p.rest p.cur;
              word = word_at (joint2 S.A S.B) p.rest p.cur p.state;
              state = state_of (through of2 p);
            }

    -- ---- both startings

    start1_is : start (lent1 S D) (S.rm, S.r1) ≡ report (worker_of (lent1 S D)) (start_walk (lent1 S D) (S.rm, S.r1))
    unfolding start
    start1_is = unless_zero _ _ _ _ passed1

    start2_is : start (lent2 S D) (S.rm, S.r2) ≡ report (worker_of (lent2 S D)) (start_walk (lent2 S D) (S.rm, S.r2))
    unfolding start
    start2_is = unless_zero _ _ _ _ passed2

    begun_is : begun_of S buf ≡ with_answers (start (lent1 S D) (S.rm, S.r1)) (start (lent2 S D) (S.rm, S.r2))
    unfolding begun
    begun_is = prepared_is done _ _

    pub begun_stands : Standing (begun_of S buf)
    unfolding worker_with start_walk
    begun_stands =
        rw (begun_is, start1_is, start2_is)
        (both 0 [] [] _ _ _ _
        (starts S.A S.B (all S) (j₀ S) (worker1 S.A) of1 (joint1 S.A S.B) (joint2 S.A S.B) Always
        (shadow1 S.A S.B) tt (S.rm, S.r1) refl)
        (starts S.A S.B (all S) (j₀ S) (worker2 S.B D) of2 (joint2 S.A S.B) (joint1 S.A S.B)
        (Supplied S.A S.B D) (shadow2 S.A S.B D) supply (S.rm, S.r2) refl)).0

    -- ---- both hearings

    hear1_is : (s : State) (v : ℕ) → hear (lent1 S D) s v ≡ resume (worker_of (lent1 S D)) s v (found_of (lent1 S D) s)
    unfolding hear
    hear1_is s v = unless_zero _ _ _ _ passed1

    hear2_is : (s : State) (v : ℕ) → hear (lent2 S D) s v ≡ resume (worker_of (lent2 S D)) s v (found_of (lent2 S D) s)
    unfolding hear
    hear2_is s v = unless_zero _ _ _ _ passed2

    pub heard_at : (n : ℕ) → Halted (at_n n).rest → Exchanging (at_n n).rest → (x : Standing (heard_of S (standing n))) × (n < x.n)
    unfolding worker_with found_of heard
    heard_at n h x =
        rw (
          hear1_is (state_of (through of1 (at_n n))) (words S.A S.B (all S) (j₀ S) (joint2 S.A S.B) n),
          hear2_is (state_of (through of2 (at_n n))) (words S.A S.B (all S) (j₀ S) (joint1 S.A S.B) n),
        )
        (both (suc n) _ _ _ _ _ _
        (hears_on S.A S.B (all S) (j₀ S) (worker1 S.A) of1 (joint1 S.A S.B) (joint2 S.A S.B) Always
        (shadow1 S.A S.B) tt n _ x h refl)
        (hears_on S.A S.B (all S) (j₀ S) (worker2 S.B D) of2 (joint2 S.A S.B) (joint1 S.A S.B)
        (Supplied S.A S.B D) (shadow2 S.A S.B D) supply n _ x h refl))
