-- Where a call leaves a host, and its number, do not depend on the words that it is lent and holds: they follow from the script, the
-- lists' lengths and the state's place and stored places. Assumes nothing.
use mathlib.Core.Path.{◌≡◌, refl, sym, ap, ap₂, subst, ◌∙◌}
use mathlib.Core.List.{List, [], ◌∷◌, ◌++◌}
use Prim.Native.Nat.{ℕ, zero, suc, ◌+◌, ◌-◌}
use native.Mathlib.Omega.{arith}
use lib.ListN.{length, drop, length-append, length-drop}
use Rattle.gates.specs.Steps.{Step, local, deal, exchange, end, Cursor, origin}
use Rattle.gates.specs.Walk.{Conf, walk}
use Rattle.gates.specs.Hosts.{Pair}
use Rattle.gates.proofs.Needs.{deals_length}
use Rattle.jobs.specs.Job.{Fault, short_a, short_b, short_deals}
use Rattle.calls.specs.Scripts.{Script, script_cost}
use Rattle.calls.specs.Lent.{Lent, lent, Worker, worker_of, lent_fault, lists_fault, dealer_fault, dealer_lists_fault}
use Rattle.calls.specs.Places.{Found, nowhere, found, seek}
use Rattle.calls.specs.Calls.{State, Answer, fresh2, stored_at, state_of, unless, start_walk, start, hear_walk, found_of}
use Rattle.calls.specs.Calls.{hearing_fault, resume, hear, prepared, prepare, script_deals}
use Rattle.calls.proofs.Hearing.{resume_is, resume_none, resumed_there}
use Rattle.runs.proofs.Refusals.{start_none, hear_none}

-- ---- two states at one place, with the same stored places

pub record Level (s s' : State) : Type 0 where
  pub order : s.order ≡ s'.order
  pub turn : s.turn ≡ s'.turn
  pub stored : s.stored ≡ s'.stored

pub same_level : (s : State) → Level s s
same_level s = record { order = refl; turn = refl; stored = refl }

-- from two others
pub between : {s s' r r' : State} → Level s r → Level r r' → Level s' r' → Level s s'
between p l q =
    record {
      order = p.order ∙ l.order ∙ sym q.order;
      turn = p.turn ∙ l.turn ∙ sym q.turn;
      stored = p.stored ∙ l.stored ∙ sym q.stored;
    }

-- ---- a walk halts at the same place whatever it carries

pub record Halt (R T : Type 0) (p : Conf R) (q : Conf T) : Type 0 where
  pub rest : p.rest ≡ q.rest
  pub cur : p.cur ≡ q.cur

pub walk_halt : {R T : Type 0} (f : Step → Cursor → R → R) (g : Step → Cursor → T → T) (ss : List Step) (c : Cursor) (s : R) (r : T)
    (t : List R) (u : List T) → Halt R T (walk f ss c s t) (walk g ss c r u)
unfolding walk
walk_halt f g [] c s r t u = record { rest = refl; cur = refl }
walk_halt f g (local d m l ∷ ss) c s r t u = walk_halt f g ss _ _ _ t u
walk_halt f g (deal d h ∷ ss) c s r t u = walk_halt f g ss _ _ _ t u
walk_halt f g (exchange d e ∷ ss) c s r t u = record { rest = refl; cur = refl }
walk_halt f g (end ∷ ss) c s r t u = walk_halt f g ss _ _ _ _ _

halt_level : (p q : Conf Pair) → Halt Pair Pair p q → Level (state_of p) (state_of q)
halt_level p q h =
    record { order = λ i. (h.cur i).order; turn = λ i. (h.cur i).turn; stored = λ i. stored_at (h.rest i) (h.cur i) }

hear_halt : (P Q : Worker) (s s' : State) (v v' : ℕ) (f : Found) → Halt Pair Pair (hear_walk P s v f) (hear_walk Q s' v' f)
unfolding hear_walk
hear_halt P Q s s' v v' nowhere = walk_halt _ _ [] _ _ _ _ _
hear_halt P Q s s' v v' (found [] c) = walk_halt _ _ [] _ _ _ _ _
hear_halt P Q s s' v v' (found (local d m l ∷ ss) c) = walk_halt _ _ [] _ _ _ _ _
hear_halt P Q s s' v v' (found (deal d f ∷ ss) c) = walk_halt _ _ [] _ _ _ _ _
hear_halt P Q s s' v v' (found (exchange d e ∷ ss) c) = walk_halt _ _ ss _ _ _ _ _
hear_halt P Q s s' v v' (found (end ∷ ss) c) = walk_halt _ _ [] _ _ _ _ _

level_path : {s r : State} → s ≡ r → Level s r
level_path e =
    record { order = ap (λ (x : State). x.order) e; turn = ap (λ (x : State). x.turn) e; stored = ap (λ (x : State). x.stored) e }

level_of : {s s' r r' : State} → s ≡ r → s' ≡ r' → Level r r' → Level s s'
level_of p q l = between (level_path p) l (level_path q)

module _ (h h' : ℕ) (σ : Script) (M M' D D' : List ℕ) where
  abbrev loan : Lent
  loan = lent h σ M D

  abbrev loan' : Lent
  loan' = lent h' σ M' D'

  pub start_level : (r r' : Pair) → (start loan r).number ≡ 0 → (start loan' r').number ≡ 0
      → Level (start loan r).state (start loan' r').state
  unfolding start_walk
  start_level r r' e e' =
      level_of (ap (λ (a : Answer). a.state) (start_none loan r e).1) (ap (λ (a : Answer). a.state) (start_none loan' r' e').1)
      (halt_level (start_walk loan r) (start_walk loan' r') (walk_halt _ _ σ.steps origin _ _ [] []))

  found_level : (s s' : State) → Level s s' → found_of loan s ≡ found_of loan' s'
  unfolding found_of
  found_level s s' l = λ i. seek (l.order i) (l.turn i) σ.steps origin

  heard_by : (P : Worker) (s : State) (v : ℕ) (f : Found) → (resume P s v f).number ≡ 0 → (resume P s v f).state ≡ state_of (hear_walk P s v f)
  heard_by P s v f e = let k = resume_none P s v f e in ap (λ (a : Answer). a.state) (resumed_there P s v f k.0 k.1)

  pub hear_level : (s s' : State) (v v' : ℕ) → Level s s' → (hear loan s v).number ≡ 0 → (hear loan' s' v').number ≡ 0
      → Level (hear loan s v).state (hear loan' s' v').state
  hear_level s s' v v' l e e' =
      let q = hear_none loan s v e in
      let q' = hear_none loan' s' v' e' in
      let P = worker_of loan in
      let P' = worker_of loan' in
      let n : (resume P s v (found_of loan s)).number ≡ 0 = sym (ap (λ (a : Answer). a.number) q.1) ∙ e in
      let n' : (resume P' s' v' (found_of loan' s')).number ≡ 0 = sym (ap (λ (a : Answer). a.number) q'.1) ∙ e' in
      level_of (ap (λ (a : Answer). a.state) q.1 ∙ heard_by P s v (found_of loan s) n)
      (ap (λ (a : Answer). a.state) q'.1 ∙ heard_by P' s' v' (found_of loan' s') n')
      (halt_level (hear_walk P s v (found_of loan s)) (hear_walk P' s' v' (found_of loan' s'))
      (subst (λ (f : Found). Halt Pair Pair (hear_walk P s v (found_of loan s)) (hear_walk P' s' v' f)) (found_level s s' l)
      (hear_halt P P' s s' v v' (found_of loan s))))

-- ---- a call's number

-- the first number, or where it is 0 the second
unfoldable first_of : (n k : ℕ) → ℕ
first_of zero k = k
first_of (suc n) k = suc n

unless_number : (n : ℕ) (f : Fault) (s : State) (a : Answer) → f.0 ≡ n → (unless n f s a).number ≡ first_of n a.number
unfolding unless first_of
unless_number zero f s a e = refl
unless_number (suc n) f s a e = e

pub start_number : (loan loan' : Lent) (r r' : Pair) → (lent_fault loan).0 ≡ (lent_fault loan').0
    → (start loan r).number ≡ (start loan' r').number
unfolding start
start_number loan loan' r r' e =
    unless_number (lent_fault loan).0 (lent_fault loan) _ _ refl ∙ ap (λ (n : ℕ). first_of n 0) e
    ∙ sym (unless_number (lent_fault loan').0 (lent_fault loan') _ _ refl)

pub hear_number : (loan loan' : Lent) (s s' : State) (v v' : ℕ) → loan.script ≡ loan'.script
    → (lent_fault loan).0 ≡ (lent_fault loan').0 → Level s s' → (hear loan s v).number ≡ (hear loan' s' v').number
unfolding hear found_of
hear_number loan loan' s s' v v' σ e l =
    unless_number (lent_fault loan).0 (lent_fault loan) s _ refl
    ∙ ap₂ first_of e
    (resume_is (worker_of loan) s v _
    ∙ (λ i. hearing_fault (l.stored i) (seek (l.order i) (l.turn i) (σ i).steps origin))
    ∙ sym (resume_is (worker_of loan') s' v' _))
    ∙ sym (unless_number (lent_fault loan').0 (lent_fault loan') s' _ refl)

-- by the lists' lengths alone
pub lent_same : (h : ℕ) (σ : Script) (M M' D D' : List ℕ) → length M ≡ length M' → length D ≡ length D'
    → lent_fault (lent h σ M D) ≡ lent_fault (lent h σ M' D')
unfolding lent_fault lists_fault short_a short_b short_deals
lent_same h σ M M' D D' m d = rw (m, d)

pub dealer_same : (σ : Script) (A A' B B' D D' : List ℕ) → length A ≡ length A' → length B ≡ length B' → length D ≡ length D'
    → dealer_fault σ A B D ≡ dealer_fault σ A' B' D'
unfolding dealer_fault dealer_lists_fault short_a short_b short_deals
dealer_same σ A A' B B' D D' a b d = rw (a, b, d)

prepared_number : (n : ℕ) (f : Fault) (σ : Script) (A B buf : List ℕ) (r : Pair) → f.0 ≡ n → (prepared n f σ A B buf r).number ≡ n
unfolding prepared
prepared_number zero f σ A B buf r e = refl
prepared_number (suc n) f σ A B buf r e = e

pub prepare_number : (σ : Script) (A A' B B' D D' : List ℕ) (r r' : Pair) → dealer_fault σ A B D ≡ dealer_fault σ A' B' D'
    → (prepare σ A B D r).number ≡ (prepare σ A' B' D' r').number
unfolding prepare
prepare_number σ A A' B B' D D' r r' e =
    prepared_number (dealer_fault σ A B D).0 (dealer_fault σ A B D) σ A B D r refl ∙ ap (λ (f : Fault). f.0) e
    ∙ sym (prepared_number (dealer_fault σ A' B' D').0 (dealer_fault σ A' B' D') σ A' B' D' r' refl)

-- ---- a preparation that completes: its buffer, and its length

prepared_buffer : (n : ℕ) (f : Fault) (σ : Script) (A B buf : List ℕ) (r : Pair) → f.0 ≡ n → (prepared n f σ A B buf r).number ≡ 0
    → (prepared n f σ A B buf r).buffer ≡ script_deals σ A B r ++ drop (script_cost σ).deals buf
unfolding prepared script_deals
prepared_buffer zero f σ A B buf r e h =
    ap (λ (n : ℕ). script_deals σ A B r ++ drop n buf) (deals_length A B σ.steps origin (fresh2 r))
prepared_buffer (suc n) f σ A B buf r e h = absurd (omega (arith, e, h))

pub buffer_is : (σ : Script) (A B buf : List ℕ) (r : Pair) → (prepare σ A B buf r).number ≡ 0
    → (prepare σ A B buf r).buffer ≡ script_deals σ A B r ++ drop (script_cost σ).deals buf
unfolding prepare
buffer_is σ A B buf r e = prepared_buffer (dealer_fault σ A B buf).0 (dealer_fault σ A B buf) σ A B buf r refl e

long : (σ : Script) (A B buf : List ℕ) (r : Pair) → (prepare σ A B buf r).number ≡ 0
    → length (prepare σ A B buf r).buffer ≡ (script_cost σ).deals + (length buf - (script_cost σ).deals)
unfolding script_deals
long σ A B buf r e =
    ap length (buffer_is σ A B buf r e) ∙ length-append (script_deals σ A B r) (drop (script_cost σ).deals buf)
    ∙ ap₂ ◌+◌ (deals_length A B σ.steps origin (fresh2 r)) (length-drop (script_cost σ).deals buf)

pub buffer_long : (σ : Script) (A A' B B' buf buf' : List ℕ) (r r' : Pair) → (prepare σ A B buf r).number ≡ 0
    → (prepare σ A' B' buf' r').number ≡ 0 → length buf ≡ length buf'
    → length (prepare σ A B buf r).buffer ≡ length (prepare σ A' B' buf' r').buffer
buffer_long σ A A' B B' buf buf' r r' e e' l =
    long σ A B buf r e ∙ ap (λ (n : ℕ). (script_cost σ).deals + (n - (script_cost σ).deals)) l ∙ sym (long σ A' B' buf' r' e')
