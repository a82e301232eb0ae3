-- What the code's three hosts are, call by call; and what the loop of `run` keeps. Assumes nothing.
use mathlib.Core.Path.{◌≡◌, refl, sym, ap, ◌∙◌}
use mathlib.Core.Logic.{◌≢◌}
use mathlib.Core.List.{List}
use Prim.Native.Nat.{ℕ, zero, suc, ◌≤◌, ◌<◌, ◌/◌}
use lib.ListN.{length}
use Rattle.gates.specs.Hosts.{Triple, of0, of1, of2}
use Rattle.std.specs.Prelude.{Result, Ok, Err, IsOk}
use Rattle.jobs.proofs.Refusals.{numbered}
use Rattle.jobs.proofs.Indices.{order_count}
use Rattle.worker.specs.declared.Answer.{Answer as Reply}
use Rattle.worker.specs.declared.Refused.{Refused}
use Rattle.worker.specs.Answers.{answer_of}
use Rattle.worker.proofs.Jobs.{sized}
use Rattle.calls.specs.Calls.{State, Answer, Prepared, refused, unless, given, start, prepare}
use Rattle.calls.specs.Scripts.{Script, job_script, orders_in, Closed}
use Rattle.calls.specs.Lent.{lent, dealer_fault}
use Rattle.runs.specs.Runs.{Stage}
use Rattle.runs.proofs.Chain.{job_orders}
use Rattle.runs.proofs.Started.{or_else_none}
use Rattle.runs.proofs.Progress.{unless_zero}
use Rattle.trio.specs.Together.{Full, Trio, Speaks, after_preparation, left, end_answer, begun, heard, together}
use Rattle.trio.proofs.Positions.{P, Standing, prepare_number, begun_stands}
use Rattle.trio.proofs.Ends.{ahead, Turn, turn, finish}

-- ---- a starting, or none

pub not_turned : (r : Result Reply Refused) → (answer_of r).number ≡ 0 → IsOk r
not_turned (Ok a) z = refl
not_turned (Err e) z = absurd (numbered e.refusal.condition z)

pub no_start : (n i : ℕ) (s : State) (a : Answer) → n ≢ 0 → refused (n, i) s ≡ unless n (n, i) s a
unfolding unless
no_start zero i s a h = absurd (h refl)
no_start (suc n) i s a h = refl

module _ (σ : Script) (A B : List ℕ) where
  -- ---- preparation and both startings, from the answers of the calls

  pub begins : (r : Triple) (buf D : List ℕ) (p : Prepared) (a b : Answer) → p ≡ prepare σ A B buf (of0 r) → p.buffer ≡ D
      → a ≡ unless p.number (p.number, p.index) (given (of1 r)) (start (lent 1 σ A D) (of1 r))
      → b ≡ unless p.number (p.number, p.index) (given (of2 r)) (start (lent 2 σ B D) (of2 r))
      → record {
        number = p.number;
        index = p.index;
        deals = p.deals;
        masks = p.masks;
        one = a;
        two = b;
        buffer = D;
      } ≡ begun σ A B r buf
  unfolding begun after_preparation
  begins r buf D p a b e d f g = rw (f, g, ← d, e)

  -- ---- the loop

  abbrev pub stage : (r : Triple) → Full σ.slots r → Stage
  stage r h =
      record {
        script = σ;
        A = A;
        B = B;
        rm = r.0;
        r1 = r.1;
        r2 = r.2;
        rm_full = h.m;
        r1_full = h.l1;
        r2_full = h.l2;
      }

  prepared_none : (r : Triple) (h : Full σ.slots r) (buf : List ℕ) (s : Trio) → s ≡ begun σ A B r buf → s.number ≡ 0
      → (P (stage r h) buf).number ≡ 0
  unfolding begun after_preparation
  prepared_none r h buf s e z = ap (λ (x : Trio). x.number) (sym e) ∙ z

  -- a preparation that is not refused was lent enough for both startings
  module _ (r : Triple) (h : Full σ.slots r) (buf D : List ℕ) (p : Prepared) (e : p ≡ prepare σ A B buf (of0 r)) (d : p.buffer ≡ D)
      (z : p.number ≡ 0) where
    begun_speaks : Speaks (begun σ A B r buf)
    begun_speaks =
        let s = begun_stands (stage r h) buf (ap (λ (x : Prepared). x.number) (sym e) ∙ z) in
        (ap (λ (x : Trio). x.one.number) s.is, ap (λ (x : Trio). x.two.number) s.is)

    pub start1_speaks : (start (lent 1 σ A D) (of1 r)).number ≡ 0
    unfolding begun after_preparation
    start1_speaks =
        rw (← d, e) (ap (λ (a : Answer). a.number) (sym (unless_zero _ _ _ _ (ap (λ (x : Prepared). x.number) (sym e) ∙ z))) ∙ begun_speaks.0)

    pub start2_speaks : (start (lent 2 σ B D) (of2 r)).number ≡ 0
    unfolding begun after_preparation
    start2_speaks =
        rw (← d, e) (ap (λ (a : Answer). a.number) (sym (unless_zero _ _ _ _ (ap (λ (x : Prepared). x.number) (sym e) ∙ z))) ∙ begun_speaks.1)

  -- what the loop keeps of the three hosts s, whatever registers and buffer they began with
  abbrev pub Going : (first s : Trio) → Type 0
  Going f s = (r : Triple) (h : Full σ.slots r) (buf : List ℕ) → f ≡ begun σ A B r buf → f.number ≡ 0 → Standing (stage r h) buf s

  pub going_in : (s : Trio) → Going s s
  going_in s r h buf e z = rw e (begun_stands (stage r h) buf (prepared_none r h buf s e z))

  -- k is the number of orders
  module _ (shut : Closed σ.steps) (k : ℕ) (ek : orders_in σ ≡ k) (f s : Trio) (g : Going f s) where
    turned : (r : Triple) (h : Full σ.slots r) (buf : List ℕ) (e : f ≡ begun σ A B r buf) (z : f.number ≡ 0)
        → s.one.state.order < k → Turn (stage r h) shut buf (prepared_none r h buf f e z) s
    turned r h buf e z l = turn (stage r h) shut buf (prepared_none r h buf f e z) s (g r h buf e z) (rw ek l)

    pub still_speaks : (r : Triple) (h : Full σ.slots r) (buf : List ℕ) (e : f ≡ begun σ A B r buf) (z : f.number ≡ 0)
        → s.one.state.order < k → Speaks (heard σ A B s)
    still_speaks r h buf e z l =
        let u = (turned r h buf e z l).stands in
        (ap (λ (x : Trio). x.one.number) u.is, ap (λ (x : Trio). x.two.number) u.is)

    pub going_on : (t : Trio) → t ≡ heard σ A B s → s.one.state.order < k → Going f t
    going_on t p l r h buf e z = rw p (turned r h buf e z l).stands

    pub nearer : (r : Triple) (h : Full σ.slots r) (buf : List ℕ) (e : f ≡ begun σ A B r buf) (z : f.number ≡ 0) (t : Trio)
        → t ≡ heard σ A B s → s.one.state.order < k → ahead σ t.one.state < ahead σ s.one.state
    nearer r h buf e z t p l = rw p (turned r h buf e z l).fewer

    pub arrived : (r : Triple) (h : Full σ.slots r) (buf : List ℕ) (e : f ≡ begun σ A B r buf) (z : f.number ≡ 0)
        → k ≤ s.one.state.order → s ≡ together σ A B r buf
    arrived r h buf e z l = finish (stage r h) shut buf (prepared_none r h buf f e z) s (g r h buf e z) (rw ek l)

  -- an accepted script has no fault; an accepted job is short
  begun_accepted : (r : Triple) (buf : List ℕ) (s : Trio) → s ≡ begun σ A B r buf → s.number ≡ 0 → σ.fault.0 ≡ 0
  unfolding begun after_preparation dealer_fault
  begun_accepted r buf s e z =
      (or_else_none σ.fault _ (prepare_number σ A B buf (of0 r) ∙ ap (λ (x : Trio). x.number) (sym e) ∙ z)).0

pub few_words : (job table A B : List ℕ) (r : Triple) (buf : List ℕ) (s : Trio) → s ≡ begun (job_script 32 job table) A B r buf
    → s.number ≡ 0 → length job ≤ 256
few_words job table A B r buf s e z = (sized job table (begun_accepted (job_script 32 job table) A B r buf s e z)).few_words

-- a job's orders
pub order_number : (job table : List ℕ) → orders_in (job_script 32 job table) ≡ length job / 4
order_number job table = job_orders 32 job table ∙ order_count job

-- a refused preparation is the end
refused_alike : (n i : ℕ) (s : State) (a b : Answer) → n ≢ 0 → unless n (n, i) s a ≡ unless n (n, i) s b
unfolding unless
refused_alike zero i s a b h = absurd (h refl)
refused_alike (suc n) i s a b h = refl

pub refused_together : (σ : Script) (A B : List ℕ) (r : Triple) (buf : List ℕ) (s : Trio) → s ≡ begun σ A B r buf → s.number ≢ 0
    → s ≡ together σ A B r buf
unfolding begun together after_preparation
refused_together σ A B r buf s e h =
    let p : Prepared = prepare σ A B buf (of0 r) in
    let n : p.number ≢ 0 = λ z. h (ap (λ (x : Trio). x.number) e ∙ z) in
    e ∙ rw (
      refused_alike p.number p.index (given (of1 r)) (start (lent 1 σ A p.buffer) (of1 r)) (end_answer σ (of1 (left σ A B r))) n,
      refused_alike p.number p.index (given (of2 r)) (start (lent 2 σ B p.buffer) (of2 r)) (end_answer σ (of2 (left σ A B r))) n,
    )
