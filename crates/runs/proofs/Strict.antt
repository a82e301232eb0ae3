-- Document 01's own runs: each is a run; a word is heard at most once; where no call of them can complete, every order is finished; and
-- they can be carried on until then. Assumes nothing.
use mathlib.Core.Path.{◌≡◌, refl, sym, ap, ◌∙◌}
use mathlib.Core.Logic.{◌⊎◌, inl, inr}
use mathlib.Core.List.{List, [], ◌∷◌, ◌++◌, append-nil}
use Prim.Native.Nat.{ℕ, zero, suc, ◌+◌, ◌<◌}
use native.Mathlib.Omega.{arith}
use lib.ListN.{length, take, replicate}
use lib.Seq.{take-append-le, take_all}
use Rattle.gates.specs.Steps.{Lane, Exchange, Step, Cursor, origin}
use Rattle.gates.specs.Walk.{Conf, Exchanging}
use Rattle.gates.specs.Hosts.{Pair, Triple, of1, of2, joint1, joint2, act, Supplied}
use Rattle.gates.proofs.Seen.{through, Always}
use Rattle.calls.specs.Scripts.{orders_in}
use Rattle.calls.specs.Places.{Found, seek}
use Rattle.calls.specs.Lent.{Worker, worker1, worker2, worker_with, lists_fault, lent_fault}
use Rattle.calls.specs.Calls.{State, Answer, fresh, state_of, given, start, found_of, resume, hear}
use Rattle.calls.proofs.Hearing.{resume_is}
use Rattle.runs.specs.Runs.{Stage, Spoken, placed_word, Among, Dealer, idle, ready, Side, waiting, going, World, world, registers}
use Rattle.runs.specs.Runs.{Call, lent1, lent2, held, Completes, prepares, starts1, starts2, hears1, hears2, Begins, given_out, Run}
use Rattle.runs.specs.Runs.{begin, complete, refuse, Finished, buffer_of, Accepted}
use Rattle.runs.specs.Strict.{Narrow, heard_by_1, heard_by_2, Calls, none, completes, refuses, StrictRun, Done}
use Rattle.runs.proofs.Places.{Halted, steps_in, once, seek_pos, shrinks}
use Rattle.runs.proofs.Ties.{Shadow, shadow1, shadow2, Heard, Tied, hears_on, live_at, word_right}
use Rattle.runs.proofs.Refusals.{start_none, hear_none}
use Rattle.runs.proofs.Kept.{all, j₀, position, Heard1, Heard2, HasDeals, not_yet, dealt_all, go1, go2, Ok, ok, supplied, deals_fit}
use Rattle.runs.proofs.Kept.{refuses_nothing, kept}
use Rattle.runs.proofs.Progress.{start_zero, hear_zero, lent2_zero, Ended, Onward, progress, stuck_ended}
use Rattle.runs.proofs.Standing.{rest_length}

-- ---- the number of a hearing does not depend on the words lent

pub resume_number : (P Q : Worker) (s : State) (v : ℕ) (f : Found) → (resume P s v f).number ≡ (resume Q s v f).number
resume_number P Q s v f = resume_is P s v f ∙ sym (resume_is Q s v f)

module _ (S : Stage) where
  abbrev A : List ℕ
  A = S.A

  abbrev B : List ℕ
  B = S.B

  abbrev pub at_n : ℕ → Conf Triple
  at_n n = position S n

  -- a host that stands at position n
  pub record Stands (h : Triple → Pair) (s : State) (n : ℕ) : Type 0 where
    pub halts : Halted (at_n n).rest
    pub is : s ≡ state_of (through h (at_n n))

  -- a hearing took it on, past a product or refresh
  pub record Moved (h : Triple → Pair) (s : State) (n : ℕ) : Type 0 where
    pub to : ℕ
    pub later : n < to
    pub heard : Exchanging (at_n n).rest
    pub stands : Stands h s to

  module _ (P : Worker) (h : Triple → Pair) (own other : Exchange → Cursor → Triple → ℕ) (Good : List Step → Cursor → Triple → Type 0)
      (sh : Shadow A B P h own other Good) (good : Good (all S) origin (j₀ S)) where
    moved_at : (n k v : ℕ) (said : List Spoken) → Halted (at_n n).rest → Heard A B (all S) (j₀ S) other k said
        → Among ((at_n n).cur.order, (at_n n).cur.turn, v) said
        → (resume P (state_of (through h (at_n n))) v (seek (at_n n).cur.order (at_n n).cur.turn (all S) origin)).number ≡ 0
        → Moved h (resume P (state_of (through h (at_n n))) v (seek (at_n n).cur.order (at_n n).cur.turn (all S) origin)).state n
    moved_at n k v said g H m e =
        let x : Exchanging (at_n n).rest = live_at A B (all S) (j₀ S) P h own other Good sh good n v g e in
        let W =
        hears_on A B (all S) (j₀ S) P h own other Good sh good n v x g
        (word_right A B (all S) (j₀ S) P h own other Good sh good n k v said x H m) in
        record { to = W.to; later = W.later; heard = x; stands = record { halts = W.halts; is = ap (λ (a : Answer). a.state) W.is } }

    moved : (s : State) (n k v : ℕ) (said : List Spoken) → Stands h s n → Heard A B (all S) (j₀ S) other k said
        → Among (placed_word s v) said
        → (resume P s v (seek s.order s.turn (all S) origin)).number ≡ 0
        → Moved h (resume P s v (seek s.order s.turn (all S) origin)).state n
    moved s n k v said Z H m e = rw Z.is (moved_at n k v said Z.halts H (rw Z.is at m) (rw Z.is at e))

  pub moved1 : (D : List ℕ) (s : State) (n k v : ℕ) (said2 : List Spoken) → Stands of1 s n → Heard2 S k said2
      → Among (placed_word s v) said2
      → (hear (lent1 S D) s v).number ≡ 0 → Moved of1 (hear (lent1 S D) s v).state n
  unfolding worker_with found_of
  moved1 D s n k v said2 Z H m e =
      let q = (hear_none (lent1 S D) s v e).1 in
      rw q (moved (worker1 A) of1 (joint1 A B) (joint2 A B) Always (shadow1 A B) tt s n k v said2 Z H m (rw q at e))

  pub moved2 : (D : List ℕ) → HasDeals S D → (s : State) (n k v : ℕ) (said1 : List Spoken) → Stands of2 s n
      → Heard1 S k said1 → Among (placed_word s v) said1
      → (hear (lent2 S D) s v).number ≡ 0 → Moved of2 (hear (lent2 S D) s v).state n
  unfolding worker_with found_of
  moved2 D g s n k v said1 Z H m e =
      let q = (hear_none (lent2 S D) s v e).1 in
      rw q (moved (worker2 B D) of2 (joint2 A B) (joint1 A B) (Supplied A B D) (shadow2 A B D) g s n k v said1 Z H m (rw q at e))

  -- ---- what a host has heard lies before its place

  pub record Spent (h : Triple → Pair) (s : State) (u : List Spoken) : Type 0 where
    pub n : ℕ
    pub stands : Stands h s n
    pub before : (p : Spoken) → Among p u
        → (i : ℕ) × (i < n) × Exchanging (at_n i).rest × ((at_n i).cur.order ≡ p.0) × ((at_n i).cur.turn ≡ p.1)

  abbrev pub SideSpent : (Triple → Pair) → Side → List Spoken → Type 0
  SideSpent h (waiting s) u = u ≡ []
  SideSpent h (going s t said) u = Spent h s u

  spent_first : (h : Triple → Pair) (say : Exchange → Cursor → Triple → ℕ) (s : State) (t : List Pair) (said u : List Spoken)
      → Tied A B (all S) (j₀ S) h say s t said → u ≡ [] → Spent h s u
  spent_first h say s t said u Z e =
      record { n = Z.n; stands = record { halts = Z.halts; is = Z.is }; before = λ p m. absurd (rw e at m) }

  spent_more : (h : Triple → Pair) (s s' : State) (u : List Spoken) (v : ℕ) (Z : Spent h s u) → Moved h s' Z.n
      → Spent h s' (placed_word s v ∷ u)
  spent_more h s s' u v Z M = record { n = M.to; stands = M.stands; before = before }
    where
      before : (p : Spoken) → Among p (placed_word s v ∷ u)
          → (i : ℕ) × (i < M.to) × Exchanging (at_n i).rest × ((at_n i).cur.order ≡ p.0) × ((at_n i).cur.turn ≡ p.1)
      before p (inl e) = (
        Z.n,
        M.later,
        M.heard,
        sym (ap (λ (x : Spoken). x.0) e ∙ ap (λ (x : State). x.order) Z.stands.is),
        sym (ap (λ (x : Spoken). x.1) e ∙ ap (λ (x : State). x.turn) Z.stands.is),
      )
      before p (inr m) = let b = Z.before p m in (b.0, omega (arith, b.1, M.later), b.2, b.3, b.4)

  -- so the word at its place is not among them
  pub unheard : (h : Triple → Pair) (s s' : State) (u : List Spoken) (v : ℕ) (Z : Spent h s u) → Moved h s' Z.n
      → Among (placed_word s v) u → ⊥
  unheard h s s' u v Z M m =
      let b = Z.before _ m in
      once (act A B) (all S) (j₀ S) b.0 Z.n b.2 b.1 (b.3 ∙ ap (λ (x : State). x.order) Z.stands.is)
      (b.4 ∙ ap (λ (x : State). x.turn) Z.stands.is)

  -- ---- along a run

  pub wide_on : {E : List ℕ} {cs : List Call} {v : World} {h1 h2 : List Spoken} {more : List Call} {v' : World} {u1 u2 : List Spoken} → Run S cs v → Calls S E v h1 h2 more v' u1 u2
      → Run S (more ++ cs) v'
  wide_on r none = r
  wide_on r (completes c k n) = complete (wide_on r c) k
  wide_on r (refuses c f) = refuse (wide_on r c) f

  pub wide : {E : List ℕ} {cs : List Call} {v : World} {h1 h2 : List Spoken} → StrictRun S E cs v h1 h2 → Run S cs v
  wide {cs = cs} r = rw (append-nil cs) at (wide_on (begin r.begins) r.calls)

  pub joined : {E : List ℕ} {v : World} {h1 h2 : List Spoken} {cs : List Call} {v' : World} {u1 u2 : List Spoken} {more : List Call} {v'' : World} {x1 x2 : List Spoken} → Calls S E v h1 h2 cs v' u1 u2
      → Calls S E v' u1 u2 more v'' x1 x2 → Calls S E v h1 h2 (more ++ cs) v'' x1 x2
  joined r none = r
  joined r (completes c k n) = completes (joined r c) k n
  joined r (refuses c f) = refuses (joined r c) f

  pub longer : {E : List ℕ} {v v' : World} {cs more : List Call} {h1 h2 u1 u2 : List Spoken} → StrictRun S E cs v h1 h2
      → Calls S E v h1 h2 more v' u1 u2
      → StrictRun S E (more ++ cs) v' u1 u2
  longer r c = record { from = r.from; begins = r.begins; calls = joined r.calls c }

  pub data BothSpent : World → (h1 h2 : List Spoken) → Type 0 where
    both : {z : Dealer} {buf : List ℕ} {one two : Side} {h1 h2 : List Spoken} → SideSpent of1 one h1 → SideSpent of2 two h2
        → BothSpent (world z buf one two) h1 h2

  spent_on : {c : Call} {v v' : World} {h1 h2 : List Spoken} (k : Completes S c v v') → Ok S v → Ok S v' → BothSpent v h1 h2
      → BothSpent v' (heard_by_1 S k h1) (heard_by_2 S k h2)
  spent_on (prepares e) o o' (both a b) = both a b
  spent_on (starts1 D e) o (ok z (go1 X) two x) (both a b) = both (spent_first of1 (joint1 A B) _ _ _ _ X a) b
  spent_on (starts2 D d e) o (ok z one (go2 Y) x) (both a b) = both a (spent_first of2 (joint2 A B) _ _ _ _ Y b)
  spent_on (hears1 D v m e) (ok z (go1 X) (go2 Y) x) o' (both a b) =
      both (spent_more of1 _ _ _ v a (moved1 D _ a.n _ v _ a.stands Y.heard m e)) b
  spent_on (hears2 D d v m e) (ok (not_yet h) (go1 X) (go2 Y) x) o' (both a b) = absurd x
  spent_on (hears2 {buf = buf} D d v m e) (ok (dealt_all p g h k) (go1 X) (go2 Y) x) o' (both a b) =
      both a (spent_more of2 _ _ _ v b (moved2 D (supplied S buf p D g d) _ b.n _ v _ b.stands X.heard m e))

  none_spent : {v : World} → Begins S v → BothSpent v [] []
  none_spent (given_out a b) = both refl refl

  spent_along : {E : List ℕ} {v v' : World} {cs : List Call} {h1 h2 : List Spoken} → Begins S v → Calls S E v [] [] cs v' h1 h2
      → BothSpent v' h1 h2
  spent_along b none = none_spent b
  spent_along b (completes c k n) = spent_on k (kept S (wide_on (begin b) c)) (kept S (complete (wide_on (begin b) c) k)) (spent_along b c)
  spent_along b (refuses c f) = rw (refuses_nothing S (kept S (wide_on (begin b) c)) f) (spent_along b c)

  pub spent : {E : List ℕ} {cs : List Call} {v : World} {h1 h2 : List Spoken} → StrictRun S E cs v h1 h2 → BothSpent v h1 h2
  spent r = spent_along r.begins r.calls

  -- ---- a call that can complete can be lent exactly what document 01 says

  module _ (E : List ℕ) where
    pub start_other : (D : List ℕ) (r : Pair) → (start (lent1 S D) r).number ≡ 0 → (start (lent1 S E) r).number ≡ 0
    unfolding lent_fault lists_fault
    start_other D r e = start_zero (lent1 S E) r (start_none (lent1 S D) r e).0

    pub hear_other1 : (D : List ℕ) (s : State) (v : ℕ) → (hear (lent1 S D) s v).number ≡ 0 → (hear (lent1 S E) s v).number ≡ 0
    unfolding lent_fault lists_fault worker_with found_of
    hear_other1 D s v e =
        let q = hear_none (lent1 S D) s v e in
        let h : (resume (worker1 A) s v (found_of (lent1 S D) s)).number ≡ 0 = rw q.1 at e in
        hear_zero (lent1 S E) s v q.0 h

    hear_other2 : (buf D : List ℕ) (s : State) (v : ℕ) → Accepted S buf → (hear (lent2 S D) s v).number ≡ 0
        → (hear (lent2 S buf) s v).number ≡ 0
    unfolding worker_with found_of
    hear_other2 buf D s v acc e =
        let q = hear_none (lent2 S D) s v e in
        let h : (resume (worker2 B D) s v (found_of (lent2 S D) s)).number ≡ 0 = rw q.1 at e in
        hear_zero (lent2 S buf) s v (lent2_zero S buf acc buf acc.deals)
        (resume_number (worker2 B buf) (worker2 B D) s v (found_of (lent2 S D) s) ∙ h)

    -- as narrow as the words heard so far ask
    record Tight (c : Call) (v : World) (h1 h2 : List Spoken) : Type 0 where
      pub next : World
      pub call : Completes S c v next
      pub narrow : Narrow S E h1 h2 call

    tight : {c : Call} {v v' : World} {h1 h2 : List Spoken} → Completes S c v v' → Ok S v → BothSpent v h1 h2 → Accepted S (buffer_of v)
        → Tight c v h1 h2
    tight (prepares e) o b acc = record { next = _; call = prepares e; narrow = tt }
    tight (starts1 {s = s} D e) o b acc =
        record { next = _; call = starts1 E (start_other D (held S s) e); narrow = refl }
    tight (starts2 {buf = buf} {s = s} D d e) o b acc =
        record {
          next = _;
          call = starts2 buf refl (start_zero (lent2 S buf) (held S s) (lent2_zero S buf acc buf acc.deals));
          narrow = refl;
        }
    tight (hears1 {s = s} D v m e) (ok z (go1 X) (go2 Y) x) (both a b) acc =
        record {
          next = _;
          call = hears1 E v m (hear_other1 D s v e);
          narrow = (refl, unheard of1 s _ _ v a (moved1 D s a.n _ v _ a.stands Y.heard m e));
        }
    tight (hears2 D d v m e) (ok (not_yet h) (go1 X) (go2 Y) x) (both a b) acc = absurd x
    tight (hears2 {buf = buf} {s = s} D d v m e) (ok (dealt_all p g h k) (go1 X) (go2 Y) x) (both a b) acc =
        record {
          next = _;
          call = hears2 buf refl v m (hear_other2 buf D s v acc e);
          narrow = (refl, unheard of2 s _ _ v b (moved2 D (supplied S buf p D g d) s b.n _ v _ b.stands X.heard m e));
        }

    pub strictly_ended : {cs : List Call} {v : World} {h1 h2 : List Spoken} → StrictRun S E cs v h1 h2 → Accepted S (buffer_of v)
        → ((c : Call) (v' : World) (k : Completes S c v v') → Narrow S E h1 h2 k → ⊥) → Ended S v
    strictly_ended r acc n =
        stuck_ended S (wide r) acc (λ c v' k. let t = tight k (kept S (wide r)) (spent r) acc in n c t.next t.call t.narrow)

  -- ---- every call that completes leaves fewer steps ahead

  abbrev side_ahead : Side → ℕ
  side_ahead (waiting s) = suc (length (all S))
  side_ahead (going s t said) = steps_in (seek s.order s.turn (all S) origin)

  abbrev dealer_ahead : Dealer → ℕ
  dealer_ahead (idle r) = 1
  dealer_ahead (ready r t) = 0

  abbrev ahead : World → ℕ
  ahead (world z buf one two) = dealer_ahead z + side_ahead one + side_ahead two

  stands_ahead : (h : Triple → Pair) (s : State) (n : ℕ) → Stands h s n
      → steps_in (seek s.order s.turn (all S) origin) ≡ length (at_n n).rest
  stands_ahead h s n Z = rw Z.is (ap steps_in (seek_pos (act A B) (all S) (j₀ S) n Z.halts))

  started_fewer : (h : Triple → Pair) (say : Exchange → Cursor → Triple → ℕ) (s : State) (t : List Pair) (said : List Spoken)
      → Tied A B (all S) (j₀ S) h say s t said → steps_in (seek s.order s.turn (all S) origin) < suc (length (all S))
  started_fewer h say s t said Z =
      omega (arith, stands_ahead h s Z.n (record { halts = Z.halts; is = Z.is }), rest_length A B (all S) (j₀ S) Z.n)

  moved_fewer : (h : Triple → Pair) (s s' : State) (n : ℕ) → Stands h s n → Moved h s' n
      → steps_in (seek s'.order s'.turn (all S) origin) < steps_in (seek s.order s.turn (all S) origin)
  moved_fewer h s s' n Z M =
      omega (
        arith,
        stands_ahead h s n Z,
        stands_ahead h s' M.to M.stands,
        shrinks (act A B) (all S) (j₀ S) n M.to M.heard M.later,
      )

  fewer : {c : Call} {v v' : World} → Completes S c v v' → Ok S v → Ok S v' → ahead v' < ahead v
  fewer (prepares e) o o' = omega arith
  fewer (starts1 {s = s} D e) o (ok z (go1 X) two x) = let f = started_fewer of1 (joint1 A B) _ _ _ X in omega (arith, f)
  fewer (starts2 {s = s} D d e) o (ok z one (go2 Y) x) = let f = started_fewer of2 (joint2 A B) _ _ _ Y in omega (arith, f)
  fewer (hears1 {s = s} D v m e) (ok z (go1 X) (go2 Y) x) o' =
      let Z : Stands of1 s X.n = record { halts = X.halts; is = X.is } in
      let f = moved_fewer of1 s _ X.n Z (moved1 D s X.n _ v _ Z Y.heard m e) in
      omega (arith, f)
  fewer (hears2 D d v m e) (ok (not_yet h) (go1 X) (go2 Y) x) o' = absurd x
  fewer (hears2 {buf = buf} {s = s} D d v m e) (ok (dealt_all p g h k) (go1 X) (go2 Y) x) o' =
      let Z : Stands of2 s Y.n = record { halts = Y.halts; is = Y.is } in
      let f = moved_fewer of2 s _ Y.n Z (moved2 D (supplied S buf p D g d) s Y.n _ v _ Z X.heard m e) in
      omega (arith, f)

  -- ---- the buffer stays long enough

  pub buffer_kept : {c : Call} {v v' : World} → Completes S c v v' → Ok S v' → Accepted S (buffer_of v) → Accepted S (buffer_of v')
  buffer_kept (prepares e) (ok (dealt_all p g h k) one two x) acc =
      record {
        script = acc.script;
        a = acc.a;
        b = acc.b;
        deals = deals_fit S _ p g;
      }
  buffer_kept (starts1 D e) o acc = acc
  buffer_kept (starts2 D d e) o acc = acc
  buffer_kept (hears1 D v m e) o acc = acc
  buffer_kept (hears2 D d v m e) o acc = acc

  -- ---- to the end

  pub finished_all : (v : World) → Ended S v → (q : ℕ) → q < orders_in S.script → Finished v q
  finished_all v f q h = record { one = rw f.one h; two = rw f.two h }

  module _ (E : List ℕ) where
    -- one more run, by a call that completes
    pub next_run : {cs : List Call} {c : Call} {v v' : World} {h1 h2 : List Spoken} → StrictRun S E cs v h1 h2 → (k : Completes S c v v')
        → Narrow S E h1 h2 k
        → StrictRun S E (c ∷ cs) v' (heard_by_1 S k h1) (heard_by_2 S k h2)
    next_run r k n = record { from = r.from; begins = r.begins; calls = completes r.calls k n }

    after_call : {c : Call} {v v' : World} {h1 h2 : List Spoken} (k : Completes S c v v') → Narrow S E h1 h2 k
        → Done S E v' (heard_by_1 S k h1) (heard_by_2 S k h2) → Done S E v h1 h2
    after_call {c} k n d =
        record {
          more = d.more ++ (c ∷ []);
          ends_in = d.ends_in;
          heard1 = d.heard1;
          heard2 = d.heard2;
          calls = joined (completes none k n) d.calls;
          finished = d.finished;
        }

    -- whatever K every call that completes keeps
    module _ (K : World → Type 0) (keeps : (c : Call) (v v' : World) → Completes S c v v' → K v → K v') where
      carry : (k : ℕ) {cs : List Call} {v : World} {h1 h2 : List Spoken} → ahead v < k → StrictRun S E cs v h1 h2 → Accepted S (buffer_of v)
          → K v
          → (d : Done S E v h1 h2) × K d.ends_in
      unfolding after_call
      carry zero l r acc x = absurd (omega arith)
      carry (suc k) {cs} {v} {h1} {h2} l r acc x = go (progress S (wide r) acc) (λ c v' u1 u2 m r' a x'. carry k m r' a x')
        where
          go : Onward S v ⊎ Ended S v
              → ((c : Call) (v' : World) (u1 u2 : List Spoken) → ahead v' < k → StrictRun S E (c ∷ cs) v' u1 u2 → Accepted S (buffer_of v')
              → K v'
              → (d : Done S E v' u1 u2) × K d.ends_in)
              → (d : Done S E v h1 h2) × K d.ends_in
          go (inl o) f =
              let t = tight E o.2 (kept S (wide r)) (spent r) acc in
              let r' = next_run r t.call t.narrow in
              let g = fewer t.call (kept S (wide r)) (kept S (wide r')) in
              let d = f _ t.next _ _ (omega (arith, g, l)) r' (buffer_kept t.call (kept S (wide r')) acc) (keeps _ _ _ t.call x) in
              (after_call t.call t.narrow d.0, d.1)
          go (inr e) f = (record { more = []; ends_in = v; heard1 = h1; heard2 = h2; calls = none; finished = finished_all v e }, x)

      pub carried_with : {cs : List Call} {v : World} {h1 h2 : List Spoken} → StrictRun S E cs v h1 h2 → Accepted S (buffer_of v) → K v
          → (d : Done S E v h1 h2) × K d.ends_in
      carried_with {v = v} r acc x = carry (suc (ahead v)) (omega arith) r acc x

    pub carried : {cs : List Call} {v : World} {h1 h2 : List Spoken} → StrictRun S E cs v h1 h2 → Accepted S (buffer_of v)
        → Done S E v h1 h2
    carried r acc = (carried_with (λ v. Unit) (λ c v v' k x. tt) r acc tt).0

    pub begun : (v : World) → Begins S v → Accepted S (buffer_of v) → Done S E v [] []
    begun v b acc = carried (record { from = v; begins = b; calls = none }) acc

    -- ---- from the registers given

    pub front_back : (l : Lane) → length l ≡ S.script.slots → take S.script.slots (fresh l) ≡ l
    unfolding fresh
    front_back l n = take-append-le S.script.slots l (replicate 8 0) (omega arith) ∙ take_all S.script.slots l (omega arith)

    pub given_back : (l k : Lane) → length l ≡ S.script.slots → length k ≡ S.script.slots
        → registers S.script.slots (given (l, k)) ≡ (l, k)
    unfolding given
    given_back l k m n = rw (front_back l m, front_back k n)
