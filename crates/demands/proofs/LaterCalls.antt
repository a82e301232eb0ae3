-- R-7: the later calls of a run on other lists that have the same words from where the hosts stand on. Assumes nothing.
use mathlib.Core.Path.{◌≡◌, refl, sym, ap, ap₂, subst, ◌∙◌}
use mathlib.Core.Bool.{Bool, true, false, cond}
use mathlib.Core.Logic.{◌⊎◌, inl, inr}
use mathlib.Core.List.{List, [], ◌∷◌, ◌++◌, append-nil}
use Prim.Native.Nat.{ℕ, zero, suc, ◌+◌, ◌≤◌}
use native.Mathlib.Omega.{arith}
use native.Mathlib.Decide.{dec_le}
use borrow.Author.Tests.{le-ltb, eq-eqb}
use lib.Dec.{ltb}
use lib.ListN.{length}
use Rattle.gates.specs.Steps.{Exchange, Step, local, deal, exchange, end, Cursor, origin}
use Rattle.gates.specs.Walk.{Conf, conf, Exchanging, next, far}
use Rattle.gates.specs.Hosts.{Pair, Triple, of1, of2, act}
use Rattle.jobs.specs.Job.{short_a, short_b, short_deals}
use Rattle.calls.specs.declared.Stored.{Stored}
use Rattle.calls.specs.Places.{Found, nowhere, found, seek}
use Rattle.calls.specs.Scripts.{Script, script_cost, ends, orders_in, Closed, Orderly}
use Rattle.calls.specs.Lent.{lent, worker_with, or_else, lists_fault, lent_fault}
use Rattle.calls.specs.Calls.{State, Answer, counted_to, stored_at, hear_walk, found_of, hear}
use Rattle.calls.proofs.Faults.{no_fault}
use Rattle.runs.specs.Runs.{Stage, Spoken, placed_word, Dealer, idle, ready, Side, going, World, world, Call, hearing1, hearing2}
use Rattle.runs.specs.Runs.{lent1, lent2, stepped}
use Rattle.runs.specs.Runs.{Completes, prepares, starts1, starts2, hears1, hears2, Run}
use Rattle.runs.specs.Strict.{Narrow, heard_by_1, heard_by_2, Calls, none, completes, refuses}
use Rattle.runs.proofs.Places.{pos, seek_pos, exchange_or_end, ends_pos}
use Rattle.runs.proofs.Refusals.{hear_none}
use Rattle.runs.proofs.Progress.{hear_zero}
use Rattle.runs.proofs.Kept.{all, j₀, position, not_yet, dealt_all, go1, go2, Ok, ok, kept, refuses_nothing, supplied}
use Rattle.runs.proofs.Strict.{resume_number, Stands, moved1, moved2, wide_on}
use Rattle.demands.specs.Conditions.{used_in}
use Rattle.demands.specs.Completed.{Located}
use Rattle.demands.specs.RememberedPlaces.{SameFrom, Looks, from_exchange, from_end, relisted}
use Rattle.demands.proofs.Completed.{counted_far, seek_to}
use Rattle.demands.proofs.More.{closed_behind}
use Rattle.demands.proofs.Standing.{remembers, front}
use Rattle.demands.proofs.OwnWords.{Below, grows, below_trans, Alike, alike1, alike2, hearings_alike, trails_alike}

-- ---- positions of the joint walk: how far they have come

module _ {S : Type 0} (f : Step → Cursor → S → S) (ss : List Step) (s₀ : S) where
  next_grows : (rest : List Step) (c : Cursor) (s : S) (t : List S) → Below (counted_to c) (counted_to (next f (conf rest c s t)).cur)
  next_grows [] c s t = (omega arith, omega arith, omega arith)
  next_grows (x ∷ rest) c s t = grows x c

  pub pos_grows : (i n : ℕ) → i ≤ n → Below (counted_to (pos f ss s₀ i).cur) (counted_to (pos f ss s₀ n).cur)
  unfolding pos
  pos_grows i zero h = let e : i ≡ 0 = omega arith in rw e (omega arith, omega arith, omega arith)
  pos_grows i (suc n) h = go (dec_le i n) (λ l. pos_grows i n l)
    where
      go : Dec (i ≤ n) → (i ≤ n → Below (counted_to (pos f ss s₀ i).cur) (counted_to (pos f ss s₀ n).cur))
          → Below (counted_to (pos f ss s₀ i).cur) (counted_to (pos f ss s₀ (suc n)).cur)
      go (yes l) ih =
          let p = pos f ss s₀ n in
          below_trans (ih l) (next_grows p.rest p.cur p.state p.trail)
      go (no l) ih = let e : i ≡ suc n = omega arith in rw e (omega arith, omega arith, omega arith)

-- ---- where a host looks first, by its position

abbrev cursor_in : Found → Cursor
cursor_in nowhere = origin
cursor_in (found ss c) = c

some_end : (ss : List Step) → Closed ss → Exchanging ss → 1 ≤ ends ss
some_end [] c x = absurd x
some_end (y ∷ ss) c x = c.0

module _ (S : Stage) (fine : Orderly S.script) (h : Triple → Pair) (s : State) (n : ℕ) (Z : Stands S h s n) where
  abbrev p : Conf Triple
  p = position S n

  pub order_is : s.order ≡ p.cur.order
  order_is = ap (λ (x : State). x.order) Z.is

  pub turn_is : s.turn ≡ p.cur.turn
  turn_is = ap (λ (x : State). x.turn) Z.is

  abbrev pub before : List Step
  before = (front (act S.A S.B) (all S) (j₀ S) n).0

  pub steps_are : all S ≡ before ++ p.rest
  steps_are = (front (act S.A S.B) (all S) (j₀ S) n).1

  pub cur_is : p.cur ≡ far before origin
  cur_is = (front (act S.A S.B) (all S) (j₀ S) n).2

  -- past every order no step is left
  none_left : orders_in S.script ≡ s.order → p.rest ≡ []
  none_left e = go (exchange_or_end (act S.A S.B) (all S) (j₀ S) _ Z.halts)
    where
      go : Exchanging p.rest ⊎ (p.rest ≡ []) → p.rest ≡ []
      go (inl x) =
          let l = some_end p.rest (closed_behind before p.rest (subst Closed steps_are fine.closed)) x in
          absurd (omega (arith, l, e, order_is, ends_pos (act S.A S.B) (all S) (j₀ S) n))
      go (inr q) = q

  pub looks_at : {u : Stored} → Looks S.script s u → u ≡ counted_to p.cur
  looks_at (from_exchange l) =
      let c : Cursor = far l.before origin in
      let q : found (exchange l.target l.gate ∷ l.behind) c ≡ found p.rest p.cur =
      sym (seek_to l.before l.behind l.target l.gate origin)
      ∙ ap (λ (ss : List Step). seek c.order c.turn ss origin) (sym l.is)
      ∙ ap₂ (λ (i j : ℕ). seek i j (all S) origin) (l.order ∙ order_is) (l.turn ∙ turn_is)
      ∙ seek_pos (act S.A S.B) (all S) (j₀ S) n Z.halts in
      sym (counted_far l.before) ∙ ap (λ (f : Found). counted_to (cursor_in f)) q
  looks_at (from_end o t) =
      let q : all S ≡ before = steps_are ∙ ap (λ (ss : List Step). before ++ ss) (none_left o) ∙ append-nil before in
      ap used_in q ∙ sym (counted_far before) ∙ ap counted_to (sym cur_is)

-- ---- the same lists for checks 6 and 7

module _ (σ : Script) (M M' D : List ℕ) where
  lists_2 : (b d : Bool) → ◌≡◌ {A = ℕ} (cond b 6 (cond d 7 0)) 0 → ◌≡◌ {A = ℕ} (cond d 7 0) 0
  lists_2 true d e = absurd (omega arith)
  lists_2 false d e = e

  passes1 : (lent_fault (lent 1 σ M D)).0 ≡ 0 → (script_cost σ).a ≤ length M' → (lent_fault (lent 1 σ M' D)).0 ≡ 0
  unfolding lent_fault lists_fault or_else short_a
  passes1 e l =
      rw (eq-eqb σ.fault.0 0 (no_fault 1 σ M D e), le-ltb (length M') (script_cost σ).a l) refl

  passes2 : (lent_fault (lent 2 σ M D)).0 ≡ 0 → (script_cost σ).b ≤ length M' → (lent_fault (lent 2 σ M' D)).0 ≡ 0
  unfolding lent_fault lists_fault or_else short_b short_deals
  passes2 e l =
      let f = eq-eqb σ.fault.0 0 (no_fault 2 σ M D e) in
      rw (f, le-ltb (length M') (script_cost σ).b l)
      (lists_2 (ltb (length M) (script_cost σ).b) (ltb (length D) (script_cost σ).deals) (rw f at e))

hears_as_well : (h : ℕ) (σ : Script) (M M' D : List ℕ) (s : State) (v : ℕ) → (hear (lent h σ M D) s v).number ≡ 0
    → (lent_fault (lent h σ M' D)).0 ≡ 0 → (hear (lent h σ M' D) s v).number ≡ 0
unfolding found_of
hears_as_well h σ M M' D s v z e =
    let q = (hear_none (lent h σ M D) s v z).1 in
    let f : Found = found_of (lent h σ M D) s in
    hear_zero (lent h σ M' D) s v e
    (resume_number (worker_with h M' D) (worker_with h M D) s v f ∙ sym (ap (λ (a : Answer). a.number) q) ∙ z)

-- ---- one hearing

exchange_form : (ss : List Step) → Exchanging ss → (d : ℕ) × (e : Exchange) × (rest : List Step) × (ss ≡ exchange d e ∷ rest)
exchange_form [] x = absurd x
exchange_form (local d m l ∷ ss) x = absurd x
exchange_form (deal d f ∷ ss) x = absurd x
exchange_form (exchange d e ∷ ss) x = (d, e, ss, refl)
exchange_form (end ∷ ss) x = absurd x

-- the words from a later place on, up to an earlier one
within : (i : ℕ) (X Y : List ℕ) (need from to : ℕ) → SameFrom i need X Y → i ≤ from → to ≤ need → SameFrom from to X Y
within i X Y need from to h a b = λ k p q. h k (omega arith) (omega arith)

side_path : {s s' : State} {t t' : List Pair} {u u' : List Spoken} → s ≡ s' → t ≡ t' → u ≡ u' → going s t u ≡ going s' t' u'
side_path p q r = rw (p, q, r)

module _ (S : Stage) (fine : Orderly S.script) where
  abbrev σ : Script
  σ = S.script

  -- no stored place is past the need
  few : (h : Triple → Pair) (s : State) (n : ℕ) → Stands S h s n → Below s.stored (used_in σ.steps)
  few h s n Z =
      let r = remembers σ fine (before S fine h s n Z) (position S n).rest (steps_are S fine h s n Z) Z.halts s
      (order_is S fine h s n Z ∙ ap (λ (c : Cursor). c.order) (cur_is S fine h s n Z))
      (turn_is S fine h s n Z ∙ ap (λ (c : Cursor). c.turn) (cur_is S fine h s n Z))
      (ap (λ (x : State). x.stored) Z.is ∙ ap (stored_at (position S n).rest) (cur_is S fine h s n Z)) in
      (omega (arith, r.left_a), omega (arith, r.left_b), omega (arith, r.left_deals))

  -- a hearing of host i, whose walk sees the lanes h, at position n
  module _ (i : ℕ) (h : Triple → Pair) (M M' D : List ℕ) (Near : Stored → Stored → Type 0)
      (k : Alike (worker_with i M D) (worker_with i M' D) Near) (s : State) (n : ℕ) (Z : Stands S h s n)
      (x : Exchanging (position S n).rest) (v : ℕ) (z : (hear (lent i σ M D) s v).number ≡ 0) (z' : (hear (lent i σ M' D) s v).number ≡ 0)
      (near : Near (counted_to (position S n).cur) (hear (lent i σ M D) s v).state.stored) where
    -- its product or refresh
    place : Located σ.steps origin s.order s.turn
    place =
        let form = exchange_form (position S n).rest x in
        record {
          before = before S fine h s n Z;
          target = form.0;
          gate = form.1;
          behind = form.2;
          is = steps_are S fine h s n Z ∙ ap (λ (ss : List Step). before S fine h s n Z ++ ss) form.3;
          order = sym (order_is S fine h s n Z ∙ ap (λ (c : Cursor). c.order) (cur_is S fine h s n Z));
          turn = sym (turn_is S fine h s n Z ∙ ap (λ (c : Cursor). c.turn) (cur_is S fine h s n Z));
        }

    near_place : Near (used_in place.before) (hear (lent i σ M D) s v).state.stored
    unfolding place
    near_place =
        subst (λ (u : Stored). Near u (hear (lent i σ M D) s v).state.stored)
        (ap counted_to (cur_is S fine h s n Z) ∙ counted_far (before S fine h s n Z)) near

    same_answer : hear (lent i σ M' D) s v ≡ hear (lent i σ M D) s v
    same_answer = hearings_alike i σ M M' D D Near k s v z place near_place z'

    there : (M : List ℕ) → found_of (lent i σ M D) s
        ≡ found (exchange place.target place.gate ∷ place.behind) (far place.before origin)
    unfolding found_of
    there M =
        ap₂ (λ (i j : ℕ). seek i j σ.steps origin) (sym place.order) (sym place.turn)
        ∙ ap (λ (ss : List Step). seek (far place.before origin).order (far place.before origin).turn ss origin) place.is
        ∙ seek_to place.before place.behind place.target place.gate origin

    same_trail : (hear_walk (worker_with i M' D) s v (found_of (lent i σ M' D) s)).trail
        ≡ (hear_walk (worker_with i M D) s v (found_of (lent i σ M D) s)).trail
    unfolding hear_walk
    same_trail =
        ap (λ (f : Found). (hear_walk (worker_with i M' D) s v f).trail) (there M')
        ∙ ap (λ (p : Conf Pair). p.trail) (trails_alike i σ M M' D D Near k s v z place near_place)
        ∙ sym (ap (λ (f : Found). (hear_walk (worker_with i M D) s v f).trail) (there M))

    pub same_side : (tr : List Pair) (said : List Spoken) (S' : Stage)
        → stepped S' (lent i σ M' D) s v tr said ≡ stepped S (lent i σ M D) s v tr said
    same_side tr said S' =
        side_path (ap (λ (a : Answer). a.state) same_answer) (ap (λ (u : List Pair). tr ++ u) same_trail)
        (ap {B = List Spoken} (λ (a : Answer). placed_word a.state a.word ∷ said) same_answer)

-- ---- call after call

module _ (S : Stage) (fine : Orderly S.script) (A' B' : List ℕ) (la : (script_cost S.script).a ≤ length A')
    (lb : (script_cost S.script).b ≤ length B') (n1 n2 : ℕ)
    (one : SameFrom (position S n1).cur.a (script_cost S.script).a S.A A')
    (two : SameFrom (position S n2).cur.b (script_cost S.script).b S.B B') where
  abbrev S' : Stage
  S' = relisted S A' B'

  -- both hosts are started, and not before these positions
  data Both : World → Type 0 where
    both : {r : Pair} {t₀ : List Pair} {buf : List ℕ} {s s2 : State} {t t2 : List Pair} {said said2 : List Spoken} (m1 m2 : ℕ)
        → Stands S of1 s m1 → Stands S of2 s2 m2 → n1 ≤ m1 → n2 ≤ m2
        → Both (world (ready r t₀) buf (going s t said) (going s2 t2 said2))

  -- the calls on the other lists, from v₀ to v
  abbrev Onward : (E : List ℕ) (v₀ : World) (h1 h2 : List Spoken) (cs : List Call) (v : World) (g1 g2 : List Spoken) → Type 0
  Onward E v₀ h1 h2 cs v g1 g2 = Calls S' E v₀ h1 h2 cs v g1 g2 × Both v

  module _ (E : List ℕ) (v₀ : World) (h1 h2 : List Spoken) where
    step : {cs : List Call} {c : Call} {v v' : World} {g1 g2 : List Spoken} (k : Completes S c v v') → Narrow S E g1 g2 k → Ok S v
        → Onward E v₀ h1 h2 cs v g1 g2 → Onward E v₀ h1 h2 (c ∷ cs) v' (heard_by_1 S k g1) (heard_by_2 S k g2)
    unfolding worker_with
    step {cs = cs} {g1 = g1} {g2 = g2} (prepares {r = r} {buf = buf} _) n _ (C, h) = elim h [ ]
    step {cs = cs} {g1 = g1} {g2 = g2} (starts1 {z = z} {buf = buf} {s = s} D _) n _ (C, h) = elim h [ ]
    step {cs = cs} {g1 = g1} {g2 = g2} (starts2 {r = r} {t₀ = t₀} {buf = buf} {s = s} D _ _) n _ (C, h) = elim h [ ]
    step {cs = cs} {g1 = g1} {g2 = g2} (hears1 {z = z} {buf = buf} {s = s} {s2 = s2} {t = t} {t2 = t2} {said = said} {said2 = said2} D v m e) n
        (ok a (go1 X) (go2 Y) w) (C, both m1 m2 Z Q l1 l2) =
        let M = moved1 S D s m1 (suc Y.n) v said2 Z Y.heard m e in
        let near : SameFrom (position S m1).cur.a (hear (lent1 S D) s v).state.stored.a S.A A' =
        within (position S n1).cur.a S.A A' (script_cost S.script).a _ _ one
        (pos_grows (act S.A S.B) (all S) (j₀ S) n1 m1 l1).0 (few S fine of1 _ M.to M.stands).0 in
        let e' : (hear (lent1 S' D) s v).number ≡ 0 =
        hears_as_well 1 S.script S.A A' D s v e (passes1 S.script S.A A' D (hear_none (lent1 S D) s v e).0 la) in
        let q = same_side S fine 1 of1 S.A A' D _ (alike1 S.A A') s m1 Z M.heard v e e' near t said S' in (
          subst (λ (x : Side). Calls S' E v₀ h1 h2 (hearing1 v ∷ cs) (world z buf x (going s2 t2 said2)) (placed_word s v ∷ g1) g2) q (completes C (hears1 D v m e') n),
          both M.to m2 M.stands Q (omega (arith, M.later, l1)) l2,
        )
    step {cs = cs} {g1 = g1} {g2 = g2} (hears2 {buf = buf} {s = s} {s1 = s1} {t = t} {t1 = t1} {said = said} {said1 = said1} D d v m e) n
        (ok (not_yet {r = r} _) _ _ w) _ = elim w [ ]
    step {cs = cs} {g1 = g1} {g2 = g2} (hears2 {z = z} {buf = buf} {s = s} {s1 = s1} {t = t} {t1 = t1} {said = said} {said1 = said1} D d v m e) n
        (ok (dealt_all p g x y) (go1 X) (go2 Y) w) (C, both m1 m2 Z Q l1 l2) =
        let M = moved2 S D (supplied S buf p D g d) s m2 (suc X.n) v said1 Q X.heard m e in
        let near : SameFrom (position S m2).cur.b (hear (lent2 S D) s v).state.stored.b S.B B' =
        within (position S n2).cur.b S.B B' (script_cost S.script).b _ _ two
        (pos_grows (act S.A S.B) (all S) (j₀ S) n2 m2 l2).1 (few S fine of2 _ M.to M.stands).1 in
        let e' : (hear (lent2 S' D) s v).number ≡ 0 =
        hears_as_well 2 S.script S.B B' D s v e (passes2 S.script S.B B' D (hear_none (lent2 S D) s v e).0 lb) in
        let q = same_side S fine 2 of2 S.B B' D _ (alike2 S.B B' D D) s m2 Q M.heard v e e' (near, λ k a b. refl) t said S' in (
          subst (λ (x : Side). Calls S' E v₀ h1 h2 (hearing2 v ∷ cs) (world z buf (going s1 t1 said1) x) g1 (placed_word s v ∷ g2)) q (completes C (hears2 D d v m e') n),
          both m1 M.to Z M.stands l1 (omega (arith, M.later, l2)),
        )

    onward : {cs₀ cs : List Call} {v : World} {g1 g2 : List Spoken} → Run S cs₀ v₀ → Both v₀ → Calls S E v₀ h1 h2 cs v g1 g2
        → Onward E v₀ h1 h2 cs v g1 g2
    onward r b none = (none, b)
    onward r b (completes C k n) = step k n (kept S (wide_on S r C)) (onward r b C)
    onward r b (refuses C f) =
        let q = onward r b C in
        (refuses q.0 f, subst Both (sym (refuses_nothing S (kept S (wide_on S r C)) f)) q.1)

-- ---- from where both hosts are started

module _ (S : Stage) (fine : Orderly S.script) (A' B' : List ℕ) (la : (script_cost S.script).a ≤ length A')
    (lb : (script_cost S.script).b ≤ length B') (buf : List ℕ) (s s2 : State) (t t2 : List Pair) (said said2 : List Spoken)
    (u u2 : Stored) (f : Looks S.script s u) (f2 : Looks S.script s2 u2)
    (one : SameFrom u.a (script_cost S.script).a S.A A') (two : SameFrom u2.b (script_cost S.script).b S.B B')
    (E : List ℕ) (h1 h2 g1 g2 : List Spoken) (cs more : List Call) (v : World) where
  abbrev from : Dealer → World
  from z = world z buf (going s t said) (going s2 t2 said2)

  started : (z : Dealer) → Ok S (from z) → Run S cs (from z) → Calls S E (from z) h1 h2 more v g1 g2
      → Calls (relisted S A' B') E (from z) h1 h2 more v g1 g2
  started (idle r) (ok a (go1 X) (go2 Y) w) R C = absurd w
  started (ready r t₀) (ok a (go1 X) (go2 Y) w) R C =
      let Z : Stands S of1 s X.n = record { halts = X.halts; is = X.is } in
      let Q : Stands S of2 s2 Y.n = record { halts = Y.halts; is = Y.is } in
      let e = ap (λ (x : Stored). x.a) (looks_at S fine of1 s X.n Z f) in
      let e2 = ap (λ (x : Stored). x.b) (looks_at S fine of2 s2 Y.n Q f2) in
      (onward S fine A' B' la lb X.n Y.n
      (subst (λ (i : ℕ). SameFrom i (script_cost S.script).a S.A A') e one)
      (subst (λ (i : ℕ). SameFrom i (script_cost S.script).b S.B B') e2 two) E (from (ready r t₀)) h1 h2 R
      (both X.n Y.n Z Q (omega arith) (omega arith)) C).0

  pub later : (z : Dealer) → Run S cs (from z) → Calls S E (from z) h1 h2 more v g1 g2
      → Calls (relisted S A' B') E (from z) h1 h2 more v g1 g2
  later z R C = started z (kept S R) R C
