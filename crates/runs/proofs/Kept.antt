-- What every run keeps: the three hosts hold the lanes of one joint walk, and have spoken its words. Assumes nothing.
use mathlib.Core.Path.{◌≡◌, refl, sym, ap, ◌∙◌, subst}
use mathlib.Core.List.{List, [], ◌∷◌, ◌++◌, map}
use Prim.Native.Nat.{ℕ, zero, suc, ◌+◌, ◌≤◌}
use native.Mathlib.Omega.{arith}
use lib.ListN.{length, take, drop, replicate, length-set, length-append, take-append-drop, length-take}
use lib.Seq.{take-append-le, take_all}
use Rattle.gates.specs.Steps.{Lane, at, Exchange, Step, local, deal, exchange, end, Cursor, origin}
use Rattle.gates.specs.Walk.{Conf, conf, next, whole}
use Rattle.gates.specs.Hosts.{Pair, Triple, of0, of1, of2, act0, deals, joint1, joint2, act, Starts, Supplied}
use Rattle.gates.proofs.Seen.{through, Always, see_whole}
use Rattle.gates.proofs.LaneByLane.{seen0}
use Rattle.gates.proofs.Needs.{deals_length}
use Rattle.jobs.specs.Job.{Fault}
use Rattle.calls.specs.Scripts.{script_cost}
use Rattle.calls.specs.Lent.{worker1, worker2, worker_with, dealer_fault}
use Rattle.calls.specs.Calls.{State, fresh, fresh2, start_walk, start, found_of, hear, prepare_walk, script_deals, prepared, prepare}
use Rattle.runs.specs.Runs.{Stage, Spoken, placed_word, Among, Dealer, idle, ready, Side, waiting, going, dealer_holds, side_state}
use Rattle.runs.specs.Runs.{World, world, registers, Refuses, refuses0, refuses0_elsewhere, refuses1, refuses2, Call, lent1, lent2}
use Rattle.runs.specs.Runs.{Dealt, preparation, started, stepped, Completes, prepares, starts1, starts2, hears1, hears2, given_out}
use Rattle.runs.specs.Runs.{Run, begin, complete, refuse}
use Rattle.runs.proofs.Places.{pos}
use Rattle.runs.proofs.Ties.{shadow1, shadow2, joint, Heard, Tied, tie_start, tie_hear}
use Rattle.runs.proofs.Refusals.{start_none, hear_none, prepare_back, masks_back, HasSlots, turned_back}
use Rattle.runs.specs.Orders.{first}

-- ---- the deals in front of a list

starts_shift : (x dealt : ℕ) (D ds : List ℕ) → Starts D dealt ds → Starts (x ∷ D) (suc dealt) ds
starts_shift x dealt D [] h = tt
starts_shift x dealt D (d ∷ ds) h = (h.0, starts_shift x (suc dealt) D ds h.1)

starts_front : (ds post : List ℕ) → Starts (ds ++ post) 0 ds
starts_front [] post = tt
starts_front (d ∷ ds) post = (refl, starts_shift d 0 (ds ++ post) ds (starts_front ds post))

-- a list that begins as one with the deals in front does
starts_alike : (ds post D : List ℕ) → take (length ds) D ≡ take (length ds) (ds ++ post) → Starts D 0 ds
starts_alike ds post D e =
    let f : take (length ds) D ≡ ds = e ∙ take-append-le (length ds) ds post (omega arith) ∙ take_all (length ds) ds (omega arith) in
    subst (λ (l : List ℕ). Starts l 0 ds) (ap (λ (x : List ℕ). x ++ drop (length ds) D) (sym f) ∙ take-append-drop (length ds) D)
    (starts_front ds (drop (length ds) D))

-- ---- the lanes keep their lengths

pub record Lengths (n : ℕ) (j : Triple) : Type 0 where
  pub m : length j.0 ≡ n
  pub l1 : length j.1 ≡ n
  pub l2 : length j.2 ≡ n

act_lengths : (A B : List ℕ) (x : Step) (c : Cursor) (j : Triple) (n : ℕ) → Lengths n j → Lengths n (act A B x c j)
unfolding act
act_lengths A B (local d m l) c j n h = record { m = simp length-set h.m; l1 = simp length-set h.l1; l2 = simp length-set h.l2 }
act_lengths A B (deal d f) c j n h = record { m = simp length-set h.m; l1 = simp length-set h.l1; l2 = simp length-set h.l2 }
act_lengths A B (exchange d e) c j n h = record { m = simp length-set h.m; l1 = simp length-set h.l1; l2 = simp length-set h.l2 }
act_lengths A B end c j n h = h

next_lengths : (A B : List ℕ) (p : Conf Triple) (n : ℕ) → Lengths n p.state → Lengths n (next (act A B) p).state
next_lengths A B p n h = go p.rest
  where
    go : (ss : List Step) → Lengths n (next (act A B) (conf ss p.cur p.state p.trail)).state
    go [] = h
    go (x ∷ ss) = act_lengths A B x p.cur p.state n h

pub pos_lengths : (A B : List ℕ) (all : List Step) (j₀ : Triple) (n k : ℕ) → Lengths n j₀ → Lengths n (joint A B all j₀ k).state
unfolding pos
pos_lengths A B all j₀ n zero h = h
pos_lengths A B all j₀ n (suc k) h = next_lengths A B (joint A B all j₀ k) n (pos_lengths A B all j₀ n k h)

module _ (S : Stage) where
  abbrev pub all : List Step
  all = S.script.steps

  -- the slots given
  abbrev n : ℕ
  n = S.script.slots

  abbrev A : List ℕ
  A = S.A

  abbrev B : List ℕ
  B = S.B

  abbrev pub j₀ : Triple
  j₀ = first S

  -- the joint walk's end
  abbrev pub last : Conf Triple
  last = whole (act A B) all origin j₀ []

  fresh_length : (l : Lane) → length l ≡ n → length (fresh l) ≡ n + 8
  unfolding fresh
  fresh_length l h = length-append l (replicate 8 0) ∙ omega (arith, h)

  pub j₀_lengths : Lengths (n + 8) j₀
  j₀_lengths =
      record { m = fresh_length S.rm S.rm_full; l1 = fresh_length S.r1 S.r1_full; l2 = fresh_length S.r2 S.r2_full }

  -- position k of the joint walk; host 1 or 2 tied to it, and the words that they have spoken before position k
  abbrev pub position : (k : ℕ) → Conf Triple
  position k = joint A B all j₀ k

  abbrev pub Tied1 : State → List Pair → List Spoken → Type 0
  Tied1 s t said = Tied A B all j₀ of1 (joint1 A B) s t said

  abbrev pub Tied2 : State → List Pair → List Spoken → Type 0
  Tied2 s t said = Tied A B all j₀ of2 (joint2 A B) s t said

  abbrev pub Heard1 : (k : ℕ) → List Spoken → Type 0
  Heard1 k said = Heard A B all j₀ (joint1 A B) k said

  abbrev pub Heard2 : (k : ℕ) → List Spoken → Type 0
  Heard2 k said = Heard A B all j₀ (joint2 A B) k said

  -- D begins with the deals of the joint walk
  abbrev pub HasDeals : (D : List ℕ) → Type 0
  HasDeals D = Supplied A B D all origin j₀

  -- ---- what is true of each host

  pub data DealerOk : Dealer → List ℕ → Type 0 where
    not_yet : {r : Pair} {buf : List ℕ} → r ≡ (S.r1, S.r2) → DealerOk (idle r) buf
    dealt_all : {r : Pair} {t : List Pair} {buf : List ℕ} (post : List ℕ) → buf ≡ deals A B all origin (of0 j₀) ++ post
        → r ≡ (take n last.state.1, take n last.state.2) → t ≡ map of0 last.trail → DealerOk (ready r t) buf

  pub data OneOk : Side → Type 0 where
    wait1 : {s : State} → registers n s ≡ (S.rm, S.r1) → OneOk (waiting s)
    go1 : {s : State} {t : List Pair} {said : List Spoken} → Tied1 s t said → OneOk (going s t said)

  pub data TwoOk : Side → Type 0 where
    wait2 : {s : State} → registers n s ≡ (S.rm, S.r2) → TwoOk (waiting s)
    go2 : {s : State} {t : List Pair} {said : List Spoken} → Tied2 s t said → TwoOk (going s t said)

  -- host 2 goes on only after the preparation
  abbrev pub After : Dealer → Side → Type 0
  After (idle r) (waiting s) = Unit
  After (idle r) (going s t said) = ⊥
  After (ready r t₀) two = Unit

  pub data Ok : World → Type 0 where
    ok : {z : Dealer} {buf : List ℕ} {one two : Side} → DealerOk z buf → OneOk one → TwoOk two → After z two → Ok (world z buf one two)

  -- ---- calls that complete keep it

  pub supplied : (buf post D : List ℕ) → buf ≡ deals A B all origin (of0 j₀) ++ post → Dealt S buf D → HasDeals D
  supplied buf post D e h =
      let k : length (deals A B all origin (of0 j₀)) ≡ (script_cost S.script).deals = deals_length A B all origin (of0 j₀) in
      starts_alike (deals A B all origin (of0 j₀)) post D (rw k (rw e at h))

  -- such a buffer has room for every deal
  pub deals_fit : (buf post : List ℕ) → buf ≡ deals A B all origin (of0 j₀) ++ post → (script_cost S.script).deals ≤ length buf
  deals_fit buf post e =
      omega (arith, ap length e, length-append (deals A B all origin (of0 j₀)) post, deals_length A B all origin (of0 j₀))

  pub prepared_none : (k : ℕ) (f : Fault) (buf : List ℕ) (r : Pair) → f.0 ≡ k → (prepared k f S.script A B buf r).number ≡ 0
      → ((prepared k f S.script A B buf r).masks
      ≡ (take n (prepare_walk S.script A B r).state.0, take n (prepare_walk S.script A B r).state.1))
      × ((prepared k f S.script A B buf r).buffer
      ≡ script_deals S.script A B r ++ drop (length (script_deals S.script A B r)) buf)
      × ((prepared k f S.script A B buf r).deals ≡ length (script_deals S.script A B r))
  unfolding prepared
  prepared_none zero f buf r e h = (refl, refl, refl)
  prepared_none (suc k) f buf r e h = absurd (omega arith)

  pub prepares_ok : (r : Pair) (buf : List ℕ) → r ≡ (S.r1, S.r2) → (preparation S buf r).number ≡ 0
      → DealerOk (ready (preparation S buf r).masks (prepare_walk S.script A B r).trail) (preparation S buf r).buffer
  unfolding prepare script_deals prepare_walk
  prepares_ok r buf h e =
      let f = dealer_fault S.script A B buf in
      let q = prepared_none f.0 f buf r refl e in
      let v : whole (act0 A B) all origin (fresh2 r) [] ≡ through of0 last =
      ap {B = Conf Pair} (λ (p : Pair). whole (act0 A B) all origin (fresh2 p) []) h
      ∙ see_whole (act A B) (act0 A B) of0 Always (seen0 A B) all origin j₀ [] tt in
      dealt_all (drop (length (deals A B all origin (fresh2 r))) buf)
      (q.1 ∙ ap (λ (p : Pair). deals A B all origin (fresh2 p) ++ drop (length (deals A B all origin (fresh2 r))) buf) h)
      (q.0 ∙ ap {B = Pair} (λ (c : Conf Pair). (take n c.state.0, take n c.state.1)) v)
      (ap (λ (c : Conf Pair). c.trail) v)

  start1_ok : (D : List ℕ) (s : State) → registers n s ≡ (S.rm, S.r1) → (start (lent1 S D) (registers n s)).number ≡ 0
      → OneOk (started S (lent1 S D) s)
  unfolding worker_with start_walk
  start1_ok D s h e =
      rw (start_none (lent1 S D) (registers n s) e).1
      (go1 (tie_start A B all j₀ (worker1 A) of1 (joint1 A B) (joint2 A B) Always (shadow1 A B) tt (registers n s)
      (ap {B = Pair} (λ (p : Pair). fresh2 p) h)))

  start2_ok : (D : List ℕ) (s : State) → HasDeals D → registers n s ≡ (S.rm, S.r2)
      → (start (lent2 S D) (registers n s)).number ≡ 0
      → TwoOk (started S (lent2 S D) s)
  unfolding worker_with start_walk
  start2_ok D s g h e =
      rw (start_none (lent2 S D) (registers n s) e).1
      (go2 (tie_start A B all j₀ (worker2 B D) of2 (joint2 A B) (joint1 A B) (Supplied A B D) (shadow2 A B D) g (registers n s)
      (ap {B = Pair} (λ (p : Pair). fresh2 p) h)))

  hear1_ok : (D : List ℕ) (s : State) (t : List Pair) (said said2 : List Spoken) (k v : ℕ) → Tied1 s t said
      → Heard2 k said2
      → Among (placed_word s v) said2 → (hear (lent1 S D) s v).number ≡ 0 → OneOk (stepped S (lent1 S D) s v t said)
  unfolding worker_with found_of
  hear1_ok D s t said said2 k v Z H m e =
      let q = (hear_none (lent1 S D) s v e).1 in
      rw q (go1 (tie_hear A B all j₀ (worker1 A) of1 (joint1 A B) (joint2 A B) Always (shadow1 A B) tt s t said said2 k v Z H m
      (rw q at e)))

  hear2_ok : (D : List ℕ) (s : State) (t : List Pair) (said said1 : List Spoken) (k v : ℕ) → HasDeals D
      → Tied2 s t said
      → Heard1 k said1 → Among (placed_word s v) said1 → (hear (lent2 S D) s v).number ≡ 0
      → TwoOk (stepped S (lent2 S D) s v t said)
  unfolding worker_with found_of
  hear2_ok D s t said said1 k v g Z H m e =
      let q = (hear_none (lent2 S D) s v e).1 in
      rw q (go2 (tie_hear A B all j₀ (worker2 B D) of2 (joint2 A B) (joint1 A B) (Supplied A B D) (shadow2 A B D) g s t said said1 k v Z H m
      (rw q at e)))

  completes_ok : {c : Call} {v v' : World} → Completes S c v v' → Ok v → Ok v'
  completes_ok (prepares {r = r} {buf = buf} e) (ok (not_yet h) one two a) = ok (prepares_ok r buf h e) one two tt
  completes_ok (starts1 {s = s} D e) (ok z (wait1 h) two a) = ok z (start1_ok D s h e) two a
  completes_ok (starts2 {buf = buf} {s = s} D d e) (ok (dealt_all p g h k) one (wait2 q) a) =
      ok (dealt_all p g h k) one (start2_ok D s (supplied buf p D g d) q e) tt
  completes_ok (hears1 D v m e) (ok z (go1 Z) (go2 Y) a) = ok z (hear1_ok D _ _ _ _ _ v Z Y.heard m e) (go2 Y) a
  completes_ok (hears2 D d v m e) (ok (not_yet h) (go1 Z) (go2 Y) a) = absurd a
  completes_ok (hears2 {buf = buf} D d v m e) (ok (dealt_all p g h k) (go1 Z) (go2 Y) a) =
      ok (dealt_all p g h k) (go1 Z) (hear2_ok D _ _ _ _ _ v (supplied buf p D g d) Y Z.heard m e) tt

  -- ---- a refused call changes nothing

  holds_waiting : (s : State) (m mask : Lane) → registers n s ≡ (m, mask) → length m ≡ n → length mask ≡ n → HasSlots n s
  holds_waiting s m mask e h k =
      let a : length (take n s.m) ≡ n = ap (λ (p : Pair). length p.0) e ∙ h in
      let b : length (take n s.mask) ≡ n = ap (λ (p : Pair). length p.1) e ∙ k in
      record { m = omega (arith, length-take n s.m); mask = omega (arith, length-take n s.mask) }

  holds_tied : (h : Triple → Pair) (say : Exchange → Cursor → Triple → ℕ) (s : State) (t : List Pair) (said : List Spoken)
      → ((j : Triple) → Lengths (n + 8) j → (length (h j).0 ≡ n + 8) × (length (h j).1 ≡ n + 8)) → Tied A B all j₀ h say s t said
      → HasSlots n s
  holds_tied h say s t said f Z =
      let g = f (position Z.n).state (pos_lengths A B all j₀ (n + 8) Z.n j₀_lengths) in
      rw Z.is (record { m = omega (arith, g.0); mask = omega (arith, g.1) })

  pub one_holds : {x : Side} → OneOk x → HasSlots n (side_state x)
  one_holds (wait1 h) = holds_waiting _ S.rm S.r1 h S.rm_full S.r1_full
  one_holds (go1 Z) = holds_tied of1 (joint1 A B) _ _ _ (λ j h. (h.m, h.l1)) Z

  pub two_holds : {x : Side} → TwoOk x → HasSlots n (side_state x)
  two_holds (wait2 h) = holds_waiting _ S.rm S.r2 h S.rm_full S.r2_full
  two_holds (go2 Z) = holds_tied of2 (joint2 A B) _ _ _ (λ j h. (h.m, h.l2)) Z

  pub refuses_nothing : {v v' : World} → Ok v → Refuses n v v' → v' ≡ v
  refuses_nothing o (refuses0 {z = z} {buf = buf} σ A' B' e) =
      rw (masks_back σ A' B' buf z e, (prepare_back σ A' B' buf (dealer_holds z) e).1)
  refuses_nothing o (refuses0_elsewhere {z = z} σ A' B' b e) = rw (masks_back σ A' B' b z e)
  refuses_nothing (ok z one two a) (refuses1 {one = x} h) = rw (turned_back n x (one_holds one) h)
  refuses_nothing (ok z one two a) (refuses2 {two = x} h) = rw (turned_back n x (two_holds two) h)

  pub kept : {cs : List Call} {v : World} → Run S cs v → Ok v
  kept (begin (given_out h k)) = ok (not_yet refl) (wait1 h) (wait2 k) tt
  kept (complete r c) = completes_ok c (kept r)
  kept (refuse r c) = rw (refuses_nothing (kept r) c) (kept r)
