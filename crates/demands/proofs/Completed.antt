-- A call that meets no condition does its work, whatever it is lent and given. Assumes nothing.
use mathlib.Core.Path.{◌≡◌, refl, sym, ap, ◌∙◌}
use mathlib.Core.Logic.{inl, inr}
use mathlib.Core.Bool.{Bool, true, false, cond}
use mathlib.Core.List.{List, [], ◌∷◌, ◌++◌}
use Prim.Native.Nat.{ℕ, zero, suc}
use native.Mathlib.Nat.{zero-add}
use native.Mathlib.Omega.{arith}
use lib.ListN.{length, take, drop}
use Rattle.gates.specs.Steps.{Exchange, Step, local, deal, exchange, end, Cursor, origin, past}
use Rattle.gates.specs.Walk.{far}
use Rattle.gates.specs.Costs.{cost}
use Rattle.gates.proofs.Needs.{far_used}
use Rattle.gates.specs.Hosts.{Pair}
use Rattle.jobs.specs.Job.{Fault}
use Rattle.calls.specs.Scripts.{Script}
use Rattle.calls.specs.Places.{Found, nowhere, found, here, seek}
use Rattle.calls.specs.Lent.{Lent, dealer_fault, worker_of}
use Rattle.calls.specs.Calls.{State, Answer, fresh, counted_to, stored_at, report, start_walk, hear_walk, place_fault, walked_to}
use Rattle.calls.specs.Calls.{found_of, hear}
use Rattle.calls.proofs.Hearing.{places_path, resumed_there, resume_none}
use Rattle.calls.specs.Calls.{Prepared, script_deals, prepare_walk, prepared, prepare}
use Rattle.runs.specs.Runs.{Among}
use Rattle.demands.specs.Conditions.{Place, places_from, used_in}
use Rattle.demands.specs.Completed.{walks_on, Located, Completed}
use Rattle.runs.proofs.Places.{here_self, here_other, Upto, level, upto_past, upto_not}
use Rattle.runs.proofs.Refusals.{start_none, hear_none}
use Rattle.demands.proofs.Placed.{Placed, a_turn, the_end, nothing, placed}

-- ---- `seek` finds the product or refresh behind the steps pre

upto_far : (o x : ℕ) (ss : List Step) (c : Cursor) → Upto o x c → Upto o x (far ss c)
unfolding far
upto_far o x [] c u = u
upto_far o x (y ∷ ss) c u = upto_far o x ss (past y c) (upto_past o x y c u)

behind : (d : ℕ) (e : Exchange) (c : Cursor) → Upto c.order (suc c.turn) (past (exchange d e) c)
unfolding past
behind d e c = level refl (omega arith)

pub seek_to : (pre ss : List Step) (d : ℕ) (e : Exchange) (c : Cursor)
    → seek (far pre c).order (far pre c).turn (pre ++ (exchange d e ∷ ss)) c ≡ found (exchange d e ∷ ss) (far pre c)
unfolding seek far
seek_to [] ss d e c = rw (here_self c)
seek_to (local d' m l ∷ pre) ss d e c = seek_to pre ss d e (past (local d' m l) c)
seek_to (deal d' f ∷ pre) ss d e c = seek_to pre ss d e (past (deal d' f) c)
seek_to (exchange d' e' ∷ pre) ss d e c =
    rw (here_other (far pre (past (exchange d' e') c)).order (far pre (past (exchange d' e') c)).turn c
    (λ p q. upto_not c.order c.turn (far pre (past (exchange d' e') c))
    (upto_far c.order (suc c.turn) pre (past (exchange d' e') c) (behind d' e' c)) p q))
    (seek_to pre ss d e (past (exchange d' e') c))
seek_to (end ∷ pre) ss d e c = seek_to pre ss d e (past end c)

-- ---- the three calls

-- what preparation answers where it meets no condition
abbrev pub all_prepared : Script → (A B buf : List ℕ) → Pair → Prepared
all_prepared σ A B buf r =
    record {
      number = 0;
      index = 0;
      deals = length (script_deals σ A B r);
      masks = (take σ.slots (prepare_walk σ A B r).state.0, take σ.slots (prepare_walk σ A B r).state.1);
      buffer = script_deals σ A B r ++ drop (length (script_deals σ A B r)) buf;
    }

prepared_done : (k : ℕ) (f : Fault) (σ : Script) (A B buf : List ℕ) (r : Pair) → f.0 ≡ k → (prepared k f σ A B buf r).number ≡ 0
    → (k ≡ 0) × (prepared k f σ A B buf r ≡ all_prepared σ A B buf r)
unfolding prepared
prepared_done zero f σ A B buf r e h = (refl, refl)
prepared_done (suc k) f σ A B buf r e h = absurd (omega arith)

pub prepare_none : (σ : Script) (A B buf : List ℕ) (r : Pair) → (prepare σ A B buf r).number ≡ 0
    → ((dealer_fault σ A B buf).0 ≡ 0) × (prepare σ A B buf r ≡ all_prepared σ A B buf r)
unfolding prepare
prepare_none σ A B buf r h = prepared_done (dealer_fault σ A B buf).0 (dealer_fault σ A B buf) σ A B buf r refl h

-- what a hearing that meets no condition answers, by what is found at its place
pub resumed : (loan : Lent) (s : State) (v : ℕ) → (hear loan s v).number ≡ 0
    → hear loan s v ≡ report (worker_of loan) (hear_walk (worker_of loan) s v (found_of loan s))
resumed loan s v z =
    let p = hear_none loan s v z in
    let q = resume_none (worker_of loan) s v (found_of loan s) (sym (ap (λ (a : Answer). a.number) p.1) ∙ z) in
    p.1 ∙ resumed_there (worker_of loan) s v (found_of loan s) q.0 q.1

module _ (loan : Lent) (s : State) (v : ℕ) (pre ss : List Step) (d : ℕ) (e : Exchange)
    (is : loan.script.steps ≡ pre ++ (exchange d e ∷ ss))
    (o : s.order ≡ (far pre origin).order) (x : s.turn ≡ (far pre origin).turn) where
  found_there : found_of loan s ≡ found (exchange d e ∷ ss) (far pre origin)
  unfolding found_of
  found_there = rw (o, x, is) (seek_to pre ss d e origin)

  pub heard : (hear loan s v).number ≡ 0
      → hear loan s v ≡ walks_on loan ss (past (exchange d e) (far pre origin))
      ((worker_of loan).hear d e (far pre origin) (s.m, s.mask) v)
  unfolding hear_walk
  heard h = resumed loan s v h ∙ ap (λ (f : Found). report (worker_of loan) (hear_walk (worker_of loan) s v f)) found_there

-- ---- every place has its product or refresh

past_one : (y : Step) (ss : List Step) (c : Cursor) (o x : ℕ) → Located ss (past y c) o x → Located (y ∷ ss) c o x
unfolding far
past_one y ss c o x z =
    record {
      before = y ∷ z.before;
      target = z.target;
      gate = z.gate;
      behind = z.behind;
      is = ap (λ (l : List Step). y ∷ l) z.is;
      order = z.order;
      turn = z.turn;
    }

pub located_at : (ss : List Step) (c : Cursor) (o x : ℕ) → Among (o, x) (places_from c.order c.turn ss) → Located ss c o x
unfolding places_from past far
located_at [] c o x h = absurd h
located_at (local d m l ∷ ss) c o x h = past_one (local d m l) ss c o x (located_at ss (past (local d m l) c) o x h)
located_at (deal d f ∷ ss) c o x h = past_one (deal d f) ss c o x (located_at ss (past (deal d f) c) o x h)
located_at (exchange d e ∷ ss) c o x (inl p) =
    record {
      before = [];
      target = d;
      gate = e;
      behind = ss;
      is = refl;
      order = sym (ap (λ (q : Place). q.0) p);
      turn = sym (ap (λ (q : Place). q.1) p);
    }
located_at (exchange d e ∷ ss) c o x (inr h) = past_one (exchange d e) ss c o x (located_at ss (past (exchange d e) c) o x h)
located_at (end ∷ ss) c o x h = past_one end ss c o x (located_at ss (past end c) o x h)

-- ---- R-7: the walk's places where `seek` finds a place, by what the steps up to and with it use

pub counted_far : (ss : List Step) → counted_to (far ss origin) ≡ used_in ss
counted_far ss =
    let k = far_used ss origin in
    places_path (k.a ∙ zero-add (cost ss).a) (k.b ∙ zero-add (cost ss).b) (k.deals ∙ zero-add (cost ss).deals)

pub far_append : (ss ts : List Step) (c : Cursor) → far (ss ++ ts) c ≡ far ts (far ss c)
unfolding far
far_append [] ts c = refl
far_append (x ∷ ss) ts c = far_append ss ts (past x c)

pub walked_there : (ss : List Step) (o x : ℕ) (l : Located ss origin o x)
    → walked_to (seek o x ss origin) ≡ used_in (l.before ++ (exchange l.target l.gate ∷ []))
unfolding walked_to stored_at far
walked_there ss o x l =
    let own : List Step = exchange l.target l.gate ∷ [] in
    rw (← l.order, ← l.turn)
    (ap (λ (ts : List Step). walked_to (seek (far l.before origin).order (far l.before origin).turn ts origin)) l.is
    ∙ ap walked_to (seek_to l.before l.behind l.target l.gate origin))
    ∙ ap counted_to (sym (far_append l.before own origin))
    ∙ counted_far (l.before ++ own)

-- at the end all steps are passed
ends_over : (o x : ℕ) (ss : List Step) (c : Cursor) → place_fault (seek o x ss c) ≡ 9 → walked_to (seek o x ss c) ≡ counted_to (far ss c)
unfolding seek far walked_to stored_at place_fault
ends_over o x [] c = go (here o x c)
  where
    go : (b : Bool) → place_fault (cond b (found [] c) nowhere) ≡ 9 → walked_to (cond b (found [] c) nowhere) ≡ counted_to c
    go true e = refl
    go false e = absurd (omega arith)
ends_over o x (local d m l ∷ ss) c = ends_over o x ss (past (local d m l) c)
ends_over o x (deal d f ∷ ss) c = ends_over o x ss (past (deal d f) c)
ends_over o x (exchange d y ∷ ss) c = go (here o x c) (ends_over o x ss (past (exchange d y) c))
  where
    go : (b : Bool) → (place_fault (seek o x ss (past (exchange d y) c)) ≡ 9
        → walked_to (seek o x ss (past (exchange d y) c)) ≡ counted_to (far ss (past (exchange d y) c)))
        → place_fault (cond b (found (exchange d y ∷ ss) c) (seek o x ss (past (exchange d y) c))) ≡ 9
        → walked_to (cond b (found (exchange d y ∷ ss) c) (seek o x ss (past (exchange d y) c)))
        ≡ counted_to (far ss (past (exchange d y) c))
    go true h e = absurd (omega arith)
    go false h e = h e
ends_over o x (end ∷ ss) c = ends_over o x ss (past end c)

pub walked_over : (ss : List Step) (o x : ℕ) → place_fault (seek o x ss origin) ≡ 9 → walked_to (seek o x ss origin) ≡ used_in ss
walked_over ss o x e = ends_over o x ss origin e ∙ counted_far ss

-- where a completed hearing stands
pub standing_at : (loan : Lent) (s : State) (v : ℕ) → (hear loan s v).number ≡ 0
    → Located loan.script.steps origin s.order s.turn
unfolding found_of
standing_at loan s v z = go (placed s.order s.turn loan.script.steps origin)
  where
    f : Found
    f = seek s.order s.turn loan.script.steps origin

    fine : place_fault f ≡ 0
    fine =
        let p = hear_none loan s v z in
        (resume_none (worker_of loan) s v f (sym (ap (λ (x : Answer). x.number) p.1) ∙ z)).0

    go : {q y : ℕ} → Placed s.order s.turn (places_from 0 0 loan.script.steps) q y (place_fault f)
        → Located loan.script.steps origin s.order s.turn
    go (a_turn a e) = located_at loan.script.steps origin s.order s.turn a
    go (the_end a b e) = absurd (omega (arith, e, fine))
    go (nothing a b e) = absurd (omega (arith, e, fine))

-- and the stored places that it was given
pub own_places : (loan : Lent) (s : State) (v : ℕ) → (hear loan s v).number ≡ 0
    → (l : Located loan.script.steps origin s.order s.turn)
    → s.stored ≡ used_in (l.before ++ (exchange l.target l.gate ∷ []))
unfolding found_of
own_places loan s v z l =
    let p = hear_none loan s v z in
    (resume_none (worker_of loan) s v (found_of loan s) (sym (ap (λ (a : Answer). a.number) p.1) ∙ z)).1
    ∙ walked_there loan.script.steps s.order s.turn l

pub completed : Completed
unfolding script_deals prepare_walk fresh start_walk
completed =
    record {
      preparing = λ σ A B buf r h. (prepare_none σ A B buf r h).1;
      starting = λ loan r h. (start_none loan r h).1;
      hearing = λ loan s v pre ss d e is o x h. heard loan s v pre ss d e is o x h;
      located = λ ss o x h. located_at ss origin o x h;
    }
