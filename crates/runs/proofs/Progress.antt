-- Progress: where some order of an accepted script is not finished, some call can complete. Assumes nothing.
use mathlib.Core.Path.{◌≡◌, refl, sym, ap, ◌∙◌}
use mathlib.Core.List.{List, [], ◌++◌}
use mathlib.Core.Logic.{◌⊎◌, inl, inr}
use Prim.Native.Nat.{ℕ, zero, suc, ◌≤◌}
use native.Mathlib.Nat.{zero-add}
use native.Mathlib.Omega.{arith}
use native.Mathlib.Decide.{dec_le}
use borrow.Author.Tests.{le-ltb, eq-eqb}
use lib.ListN.{length}
use Rattle.gates.specs.Steps.{origin}
use Rattle.gates.specs.Walk.{Conf, Exchanging}
use Rattle.gates.specs.Hosts.{Pair, Triple, of0, of1, of2, deals, joint1, joint2, act, Supplied}
use Rattle.gates.specs.Costs.{Cost}
use Rattle.gates.proofs.Seen.{Always}
use Rattle.jobs.specs.Job.{Fault, short_a, short_b, short_deals}
use Rattle.calls.specs.Scripts.{Script, script_cost, ends, orders_in}
use Rattle.calls.specs.Lent.{Lent, worker1, worker2, worker_with, worker_of, or_else, lists_fault, lent_fault, dealer_lists_fault}
use Rattle.calls.specs.Lent.{dealer_fault}
use Rattle.calls.specs.Calls.{State, Answer, report, unless, start_walk, given, start, found_of, resume, hear, prepared, prepare}
use Rattle.runs.specs.Runs.{Stage, Spoken, Dealer, going, World, world, Call, lent1, lent2, held, Completes, prepares, starts1}
use Rattle.runs.specs.Runs.{starts2, hears1, hears2, Run, order1, order2, buffer_of, Accepted}
use Rattle.runs.proofs.Places.{ends_pos, rest_later, exchange_or_end}
use Rattle.runs.proofs.Ties.{shadow1, shadow2, can_hear}
use Rattle.runs.proofs.Kept.{all, j₀, position, Tied1, Tied2, HasDeals, not_yet, dealt_all, wait1, go1, wait2, go2, Ok, ok, supplied}
use Rattle.runs.proofs.Kept.{kept}

-- ---- no fault, no refusal

pub unless_zero : (n : ℕ) (f : Fault) (s : State) (a : Answer) → n ≡ 0 → unless n f s a ≡ a
unfolding unless
unless_zero zero f s a e = refl
unless_zero (suc n) f s a e = absurd (omega arith)

pub start_zero : (loan : Lent) (r : Pair) → (lent_fault loan).0 ≡ 0 → (start loan r).number ≡ 0
unfolding start
start_zero loan r e =
    ap (λ (a : Answer). a.number)
    (unless_zero (lent_fault loan).0 (lent_fault loan) (given r) (report (worker_of loan) (start_walk loan r)) e)

pub hear_zero : (loan : Lent) (s : State) (v : ℕ) → (lent_fault loan).0 ≡ 0
    → (resume (worker_of loan) s v (found_of loan s)).number ≡ 0 → (hear loan s v).number ≡ 0
unfolding hear
hear_zero loan s v e h =
    ap (λ (a : Answer). a.number)
    (unless_zero (lent_fault loan).0 (lent_fault loan) s (resume (worker_of loan) s v (found_of loan s)) e)
    ∙ h

or_else_zero : (f : Fault) (n : ℕ) → f.0 ≡ 0 → n ≡ 0 → (or_else f n).0 ≡ 0
unfolding or_else
or_else_zero f n e h = rw (eq-eqb f.0 0 e) h

prepared_zero : (n : ℕ) (f : Fault) (σ : Script) (A B buf : List ℕ) (r : Pair) → n ≡ 0 → (prepared n f σ A B buf r).number ≡ 0
unfolding prepared
prepared_zero zero f σ A B buf r e = refl
prepared_zero (suc n) f σ A B buf r e = absurd (omega arith)

module _ (S : Stage) where
  abbrev k : Cost
  k = script_cost S.script

  module _ (buf : List ℕ) (acc : Accepted S buf) where
    pub lent1_zero : (D : List ℕ) → (lent_fault (lent1 S D)).0 ≡ 0
    unfolding lent_fault lists_fault short_a
    lent1_zero D = or_else_zero S.script.fault _ acc.script (rw (le-ltb (length S.A) k.a acc.a))

    pub lent2_zero : (D : List ℕ) → k.deals ≤ length D → (lent_fault (lent2 S D)).0 ≡ 0
    unfolding lent_fault lists_fault short_b short_deals
    lent2_zero D h =
        or_else_zero S.script.fault _ acc.script (rw (le-ltb (length S.B) k.b acc.b, le-ltb (length D) k.deals h))

    prepare_zero : (r : Pair) → (prepare S.script S.A S.B buf r).number ≡ 0
    unfolding prepare dealer_fault dealer_lists_fault short_a short_b short_deals
    prepare_zero r =
        prepared_zero _ _ S.script S.A S.B buf r
        (or_else_zero S.script.fault _ acc.script
        (rw (le-ltb (length S.A) k.a acc.a, le-ltb (length S.B) k.b acc.b, le-ltb (length buf) k.deals acc.deals)))

  -- both hosts' places are the end
  pub record Ended (v : World) : Type 0 where
    pub one : order1 v ≡ orders_in S.script
    pub two : order2 v ≡ orders_in S.script

  abbrev pub Onward : World → Type 0
  Onward v = (c : Call) × (v' : World) × Completes S c v v'

  module _ (z : Dealer) (buf : List ℕ) (s s2 : State) (t t2 : List Pair) (said said2 : List Spoken)
      (X : Tied1 S s t said)
      (Y : Tied2 S s2 t2 said2)
      (post : List ℕ) (g : buf ≡ deals S.A S.B (all S) origin (of0 (j₀ S)) ++ post) (acc : Accepted S buf) where
    abbrev at_n : ℕ → Conf Triple
    at_n n = position S n

    ended : (n : ℕ) → (at_n n).rest ≡ [] → (at_n n).cur.order ≡ orders_in S.script
    unfolding ends
    ended n e = sym (zero-add _) ∙ (rw e at (ends_pos (act S.A S.B) (all S) (j₀ S) n))

    both_ended : at_n X.n ≡ at_n Y.n → (at_n X.n).rest ≡ [] → Ended (world z buf (going s t said) (going s2 t2 said2))
    both_ended p e =
        record {
          one = ap (λ (x : State). x.order) X.is ∙ ended X.n e;
          two = ap (λ (x : State). x.order) Y.is ∙ ended Y.n (rw p at e);
        }

    move : Onward (world z buf (going s t said) (going s2 t2 said2)) ⊎ Ended (world z buf (going s t said) (going s2 t2 said2))
    unfolding worker_with found_of
    move =
        go (dec_le X.n Y.n) (exchange_or_end (act S.A S.B) (all S) (j₀ S) _ X.halts)
        (exchange_or_end (act S.A S.B) (all S) (j₀ S) _ Y.halts)
      where
        go : Dec (X.n ≤ Y.n) → Exchanging (at_n X.n).rest ⊎ ((at_n X.n).rest ≡ [])
            → Exchanging (at_n Y.n).rest ⊎ ((at_n Y.n).rest ≡ [])
            → Onward (world z buf (going s t said) (going s2 t2 said2)) ⊎ Ended (world z buf (going s t said) (going s2 t2 said2))
        go (yes l) (inl x) y =
            let c =
            can_hear S.A S.B (all S) (j₀ S) (worker1 S.A) of1 (joint1 S.A S.B) (joint2 S.A S.B) Always
            (shadow1 S.A S.B) tt s t said said2 (suc Y.n) X x Y.heard (omega arith) in
            inl (_, _, hears1 [] c.word c.among (hear_zero (lent1 S []) s c.word (lent1_zero buf acc []) c.completes))
        go (yes l) (inr e) y = inr (both_ended (rest_later (act S.A S.B) (all S) (j₀ S) X.n Y.n l e) e)
        go (no l) x (inl y) =
            let h : HasDeals S buf = supplied S buf post buf g refl in
            let c =
            can_hear S.A S.B (all S) (j₀ S) (worker2 S.B buf) of2 (joint2 S.A S.B) (joint1 S.A S.B)
            (Supplied S.A S.B buf) (shadow2 S.A S.B buf) h s2 t2 said2 said (suc X.n) Y y X.heard (omega arith) in
            inl (
              _,
              _,
              hears2 buf refl c.word c.among
                  (hear_zero (lent2 S buf) s2 c.word (lent2_zero buf acc buf acc.deals) c.completes),
            )
        go (no l) x (inr e) =
            let p : at_n X.n ≡ at_n Y.n = sym (rest_later (act S.A S.B) (all S) (j₀ S) Y.n X.n (omega arith) e) in
            inr (both_ended p (rw (← p) at e))

  -- where some order is not finished, some call completes
  pub progress : {cs : List Call} {v : World} → Run S cs v → Accepted S (buffer_of v) → Onward v ⊎ Ended v
  progress {v} r acc = go v (kept S r) acc
    where
      go : (v : World) → Ok S v → Accepted S (buffer_of v) → Onward v ⊎ Ended v
      go _ (ok {buf = buf} (not_yet {r = r} h) one two a) acc = inl (_, _, prepares (prepare_zero buf acc r))
      go _ (ok {buf = buf} (dealt_all p g h e) (wait1 {s = s} q) two a) acc =
          inl (_, _, starts1 [] (start_zero (lent1 S []) (held S s) (lent1_zero buf acc [])))
      go _ (ok {buf = buf} (dealt_all p g h e) (go1 X) (wait2 {s = s} q) a) acc =
          inl (_, _, starts2 buf refl (start_zero (lent2 S buf) (held S s) (lent2_zero buf acc buf acc.deals)))
      go _ (ok {buf = buf} (dealt_all p g h e) (go1 X) (go2 Y) a) acc = move _ buf _ _ _ _ _ _ X Y p g acc

  -- "A run of a job accepted with its lists, after which only refused calls can stand, has finished every order."
  pub stuck_ended : {cs : List Call} {v : World} → Run S cs v → Accepted S (buffer_of v)
      → ((c : Call) (v' : World) → Completes S c v v' → ⊥) → Ended v
  stuck_ended {v} r acc n = go (progress r acc)
    where
      go : Onward v ⊎ Ended v → Ended v
      go (inl c) = absurd (n c.0 c.1 c.2)
      go (inr f) = f
