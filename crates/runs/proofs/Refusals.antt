-- A call's answer is a refusal or its walk's report; and a refused call changes nothing of what a host holds. Assumes nothing.
use mathlib.Core.Path.{◌≡◌, refl, ap, ◌∙◌}
use mathlib.Core.Logic.{◌≢◌}
use mathlib.Core.List.{List, ◌++◌}
use Prim.Native.Nat.{ℕ, zero, suc, ◌≤◌}
use native.Mathlib.Nat.{min-eq_left}
use native.Mathlib.Omega.{arith}
use lib.ListN.{length, take, drop, replicate, take-append-drop, length-take}
use lib.Seq.{take-append-le, take_all}
use Rattle.gates.specs.Hosts.{Pair}
use Rattle.jobs.specs.Job.{Fault}
use Rattle.calls.specs.Scripts.{Script}
use Rattle.calls.specs.Lent.{Lent, worker_of, lent_fault, dealer_fault}
use Rattle.calls.specs.Calls.{State, Answer, fresh, report, unless, start_walk, given, start, hear_walk, hearing_fault, found_of, resume}
use Rattle.calls.specs.Calls.{hear, prepared, prepare}
use Rattle.runs.specs.Runs.{Dealer, idle, ready, Side, waiting, going, dealer_holds, with_masks, side_state, with_state, registers}
use Rattle.runs.specs.Runs.{Turned, at_start, at_hearing}

-- an answer that is no refusal
pub unless_none : (n : ℕ) (f : Fault) (s : State) (a : Answer) → f.0 ≡ n → (unless n f s a).number ≡ 0 → (n ≡ 0) × (unless n f s a ≡ a)
unfolding unless
unless_none zero f s a e h = (refl, refl)
unless_none (suc n) f s a e h = absurd (omega arith)

-- a refusal gives back the state it was given, if what it would else report does
unless_state : (n : ℕ) (f : Fault) (s : State) (a : Answer) → f.0 ≡ n → (unless n f s a).number ≢ 0 → (a.number ≢ 0 → a.state ≡ s)
    → (unless n f s a).state ≡ s
unfolding unless
unless_state zero f s a e h k = k h
unless_state (suc n) f s a e h k = refl

pub start_none : (loan : Lent) (r : Pair) → (start loan r).number ≡ 0
    → ((lent_fault loan).0 ≡ 0) × (start loan r ≡ report (worker_of loan) (start_walk loan r))
unfolding start
start_none loan r h = unless_none (lent_fault loan).0 (lent_fault loan) (given r) (report (worker_of loan) (start_walk loan r)) refl h

pub start_state : (loan : Lent) (r : Pair) → (start loan r).number ≢ 0 → (start loan r).state ≡ given r
unfolding start
start_state loan r h =
    unless_state (lent_fault loan).0 (lent_fault loan) (given r) (report (worker_of loan) (start_walk loan r)) refl h
    (λ k. absurd (k refl))

pub hear_none : (loan : Lent) (s : State) (v : ℕ) → (hear loan s v).number ≡ 0
    → ((lent_fault loan).0 ≡ 0) × (hear loan s v ≡ resume (worker_of loan) s v (found_of loan s))
unfolding hear
hear_none loan s v h = unless_none (lent_fault loan).0 (lent_fault loan) s (resume (worker_of loan) s v (found_of loan s)) refl h

pub hear_state : (loan : Lent) (s : State) (v : ℕ) → (hear loan s v).number ≢ 0 → (hear loan s v).state ≡ s
unfolding hear resume
hear_state loan s v h =
    let f = found_of loan s in
    let P = worker_of loan in
    unless_state (lent_fault loan).0 (lent_fault loan) s
    (unless (hearing_fault s.stored f) (hearing_fault s.stored f, 0) s (report P (hear_walk P s v f))) refl h
    (λ k. unless_state (hearing_fault s.stored f) (hearing_fault s.stored f, 0) s (report P (hear_walk P s v f)) refl k
    (λ z. absurd (z refl)))

prepared_back : (n : ℕ) (f : Fault) (σ : Script) (A B buf : List ℕ) (r : Pair) → f.0 ≡ n → (prepared n f σ A B buf r).number ≢ 0
    → ((prepared n f σ A B buf r).masks ≡ r) × ((prepared n f σ A B buf r).buffer ≡ buf)
unfolding prepared
prepared_back zero f σ A B buf r e h = absurd (h refl)
prepared_back (suc n) f σ A B buf r e h = (refl, refl)

pub prepare_back : (σ : Script) (A B buf : List ℕ) (r : Pair) → (prepare σ A B buf r).number ≢ 0
    → ((prepare σ A B buf r).masks ≡ r) × ((prepare σ A B buf r).buffer ≡ buf)
unfolding prepare
prepare_back σ A B buf r h = prepared_back (dealer_fault σ A B buf).0 (dealer_fault σ A B buf) σ A B buf r refl h

-- host 0 holds what it held
pub masks_back : (σ : Script) (A B buf : List ℕ) (z : Dealer) → (prepare σ A B buf (dealer_holds z)).number ≢ 0
    → with_masks z (prepare σ A B buf (dealer_holds z)).masks ≡ z
masks_back σ A B buf (idle r) h = ap idle (prepare_back σ A B buf r h).0
masks_back σ A B buf (ready r t) h = ap (λ (p : Pair). ready p t) (prepare_back σ A B buf r h).0

-- ---- a refused starting or hearing, on a state of n slots and more

pub record HasSlots (n : ℕ) (s : State) : Type 0 where
  pub m : n ≤ length s.m
  pub mask : n ≤ length s.mask

take_fresh : (n : ℕ) (l : List ℕ) → n ≤ length l → take n (fresh (take n l)) ++ drop n l ≡ l
unfolding fresh
take_fresh n l h =
    let k : length (take n l) ≡ n = length-take n l ∙ min-eq_left h in
    ap (λ (x : List ℕ). x ++ drop n l) (take-append-le n (take n l) (replicate 8 0) (omega arith) ∙ take_all n (take n l) (omega arith))
    ∙ take-append-drop n l

pub turned_same : (n : ℕ) {s s' : State} → HasSlots n s → Turned n s s' → s' ≡ s
unfolding given
turned_same n {s} z (at_start loan h) =
    rw (start_state loan (registers n s) h, take_fresh n s.m z.m, take_fresh n s.mask z.mask)
turned_same n {s} z (at_hearing loan v h) = hear_state loan s v h

-- host 1 or 2 holds what it held
pub turned_back : (n : ℕ) (x : Side) {s : State} → HasSlots n (side_state x) → Turned n (side_state x) s → with_state x s ≡ x
turned_back n (waiting s) z h = ap waiting (turned_same n z h)
turned_back n (going s t said) z h = ap (λ (p : State). going p t said) (turned_same n z h)
