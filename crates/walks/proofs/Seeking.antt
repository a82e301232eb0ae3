-- The place of a program's n-th product or refresh in a walk's steps: where `seek` finds it, with what is used before it in the
-- program; or that there is none. Assumes nothing.
use mathlib.Core.Path.{◌≡◌, refl, ap}
use mathlib.Core.Bool.{Bool, true, false, ◌&&◌}
use mathlib.Core.List.{List, [], ◌∷◌}
use Prim.Native.Nat.{ℕ, zero, suc, ◌+◌, ◌*◌, ◌≤◌, ◌<◌}
use native.Mathlib.Omega.{arith}
use borrow.Author.Tests.{eq-eqb, ne_eqb}
use lib.Dec.{eqb}
use lib.ListN.{length, drop}
use Rattle.std.specs.Prelude.{Some, None}
use Rattle.std.proofs.lemmas.Option.{same_Some}
use Rattle.gates.specs.Gates.{Gate}
use Rattle.gates.specs.Steps.{Exchange, product, refresh, known_product, Step, local, deal, exchange, end, new_at, past_deal, Cursor, past}
use Rattle.gates.specs.Meaning.{meaning, order_steps}
use Rattle.gates.specs.Walk.{Exchanging}
use Rattle.gates.specs.Speech.{shape}
use Rattle.gates.specs.Codes.{At, fetched}
use Rattle.programs.specs.declared.GatePlace.{GatePlace}
use Rattle.programs.specs.Seek.{gate_place, sought_at, sought}
use Rattle.calls.specs.Places.{Found, nowhere, found, here, seek}
use Rattle.gates.proofs.GateSteps.{OfGate, of_gate}
use Rattle.gates.proofs.Fetched.{never}

-- ---- not here

pub not_here : (o x : ℕ) (c : Cursor) → (c.order ≡ o → ⊥) → here o x c ≡ false
not_here o x c h = rw (ne_eqb c.order o h)

pub not_yet : (o x : ℕ) (c : Cursor) → (c.turn ≡ x → ⊥) → here o x c ≡ false
not_yet o x c h = go (eqb c.order o)
  where
    go : (b : Bool) → (b && eqb c.turn x) ≡ false
    go true = ne_eqb c.turn x h
    go false = refl

pub just_here : (o x : ℕ) (c : Cursor) → c.order ≡ o → c.turn ≡ x → here o x c ≡ true
just_here o x c p q = rw (eq-eqb c.order o p, eq-eqb c.turn x q)

-- a search past the order o finds nothing of it
pub gone : (o x : ℕ) (ss : List Step) (c : Cursor) → o < c.order → seek o x ss c ≡ nowhere
unfolding seek past
gone o x [] c h = rw (not_here o x c (λ e. omega arith))
gone o x (local d m l ∷ ss) c h = gone o x ss _ h
gone o x (deal d f ∷ ss) c h = gone o x ss _ h
gone o x (exchange d e ∷ ss) c h = rw (not_here o x c (λ e. omega arith)) (gone o x ss _ h)
gone o x (end ∷ ss) c h = gone o x ss _ (omega arith)

-- ---- within a program

-- the steps ss are found, with a cursor that stands behind c as the counts say
pub record Reached (f : Found) (ss : List Step) (c : Cursor) (n a dealt a' dealt' : ℕ) : Type 0 where
  pub cur : Cursor
  pub is : f ≡ found ss cur
  pub in_order : cur.order ≡ c.order
  pub at_turn : cur.turn ≡ c.turn + n
  pub used_a : cur.a + a ≡ c.a + a'
  pub used_b : cur.b ≡ c.b + n
  pub used_deals : cur.deals + dealt ≡ c.deals + dealt'

-- the n-th product or refresh of gs stands j gates on
pub record Placed (w : ℕ) (gs : List Gate) (ss : List Step) (n i a dealt i' a' dealt' : ℕ) : Type 0 where
  pub j : ℕ
  pub gate : Gate
  pub on : i' ≡ i + j
  pub there : fetched gs j ≡ At gate
  pub speaks : Exchanging (meaning w gate ∷ [])
  pub inside : j < length gs
  pub turns : n ≤ j
  pub few_a : a' ≤ a + 2 * j
  pub few_deals : dealt' ≤ dealt + j
  pub reached : (o x : ℕ) (c : Cursor) → c.order ≡ o → x ≡ c.turn + n
      → Reached (seek o x (order_steps w gs ss) c) (meaning w gate ∷ order_steps w (drop (suc j) gs) ss) c n a dealt a' dealt'

-- what an exchange takes, wherever it stands: g1 or nothing, and a deal or none
g1_of : Exchange → ℕ
g1_of (product O p q) = 1
g1_of (refresh O p) = 0
g1_of (known_product O p q) = 0

takes : (e : Exchange) (a dealt : ℕ) → (new_at e a ≡ a + g1_of e) × (past_deal e dealt ≡ dealt + g1_of e) × (g1_of e ≤ 1)
unfolding new_at past_deal g1_of
takes (product O p q) a dealt = omega arith
takes (refresh O p) a dealt = omega arith
takes (known_product O p q) a dealt = omega arith

module _ (w : ℕ) (g : Gate) (gs : List Gate) (ss : List Step) (i a dealt i' a' dealt' : ℕ) where
  -- at a gate that is passed, the law of the gates behind it
  further : (n m a₁ dealt₁ : ℕ) → Placed w gs ss m (suc i) a₁ dealt₁ i' a' dealt' → n ≤ suc m → a₁ ≤ a + 2 → dealt₁ ≤ suc dealt
      → ((o x : ℕ) (c : Cursor) → c.order ≡ o → x ≡ c.turn + n → (q : Placed w gs ss m (suc i) a₁ dealt₁ i' a' dealt')
      → Reached (seek o x (meaning w g ∷ order_steps w gs ss) c) (meaning w q.gate ∷ order_steps w (drop (suc q.j) gs) ss) c
      n a dealt a' dealt')
      → Placed w (g ∷ gs) ss n i a dealt i' a' dealt'
  unfolding fetched order_steps
  further n m a₁ dealt₁ p hn ha hk r =
      record {
        j = suc p.j;
        gate = p.gate;
        on = omega (arith, p.on);
        there = p.there;
        speaks = p.speaks;
        inside = omega (arith, p.inside);
        turns = omega (arith, p.turns);
        few_a = omega (arith, p.few_a);
        few_deals = omega (arith, p.few_deals);
        reached = λ o x c ho hx. r o x c ho hx p;
      }

  -- at the gate that is sought
  arrived : (d : ℕ) (e : Exchange) → meaning w g ≡ exchange d e → Some (gate_place i a dealt) ≡ Some (gate_place i' a' dealt')
      → Placed w (g ∷ gs) ss 0 i a dealt i' a' dealt'
  unfolding fetched order_steps seek
  arrived d e m f =
      let p = same_Some _ _ f in
      let ei : i ≡ i' = ap (λ (p : GatePlace). p.gate) p in
      let ea : a ≡ a' = ap (λ (p : GatePlace). p.a) p in
      let ed : dealt ≡ dealt' = ap (λ (p : GatePlace). p.deals) p in
      record {
        j = 0;
        gate = g;
        on = omega arith;
        there = refl;
        speaks = rw m tt;
        inside = omega arith;
        turns = omega arith;
        few_a = omega arith;
        few_deals = omega arith;
        reached = λ o x c ho hx. record {
          cur = c;
          is = rw (m, just_here o x c ho (omega arith));
          in_order = refl;
          at_turn = omega arith;
          used_a = omega arith;
          used_b = omega arith;
          used_deals = omega arith;
        };
      }

  -- an exchange before it
  before : (d : ℕ) (e : Exchange) (n : ℕ) → meaning w g ≡ exchange d e
      → Placed w gs ss n (suc i) (suc (new_at e a)) (past_deal e dealt) i' a' dealt'
      → Placed w (g ∷ gs) ss (suc n) i a dealt i' a' dealt'
  unfolding seek past
  before d e n m z =
      let t = takes e a dealt in
      further (suc n) n (suc (new_at e a)) (past_deal e dealt) z (omega arith) (omega arith) (omega arith) (λ o x c ho hx q.
      let r = q.reached o x (past (exchange d e) c) ho (omega arith) in
      let t' = takes e c.a c.deals in
      record {
        cur = r.cur;
        is = rw (m, not_yet o x c (λ h. omega arith)) r.is;
        in_order = r.in_order;
        at_turn = omega (arith, r.at_turn);
        used_a = omega (arith, r.used_a);
        used_b = omega (arith, r.used_b);
        used_deals = omega (arith, r.used_deals);
      })

  passed : ((m j a₁ dealt₁ : ℕ) → sought w gs m j a₁ dealt₁ ≡ Some (gate_place i' a' dealt') → Placed w gs ss m j a₁ dealt₁ i' a' dealt')
      → (y : Step) (n : ℕ) → meaning w g ≡ y → OfGate y → sought_at (shape y) n i a dealt (sought w gs) ≡ Some (gate_place i' a' dealt')
      → Placed w (g ∷ gs) ss n i a dealt i' a' dealt'
  unfolding sought_at shape seek past new_at past_deal
  passed ih (local d m l) n e h f =
      further n n a dealt (ih n (suc i) a dealt f) (omega arith) (omega arith) (omega arith)
      (λ o x c ho hx q. rw e (q.reached o x c ho hx))
  passed ih (deal d m) n e h f =
      further n n (suc a) (suc dealt) (ih n (suc i) (suc a) (suc dealt) f) (omega arith) (omega arith) (omega arith) (λ o x c ho hx q.
      let r = q.reached o x (past (deal d m) c) ho hx in
      record {
        cur = r.cur;
        is = rw e r.is;
        in_order = r.in_order;
        at_turn = r.at_turn;
        used_a = omega (arith, r.used_a);
        used_b = r.used_b;
        used_deals = omega (arith, r.used_deals);
      })
  passed ih (exchange d (product O p q)) zero e h f = arrived d (product O p q) e f
  passed ih (exchange d (product O p q)) (suc n) e h f =
      let two : 2 + a ≡ suc (suc a) = omega arith in
      before d (product O p q) n e (ih n (suc i) (suc (suc a)) (suc dealt) (rw two at f))
  passed ih (exchange d (refresh O p)) zero e h f = arrived d (refresh O p) e f
  passed ih (exchange d (known_product O p q)) zero e h f = arrived d (known_product O p q) e f
  passed ih (exchange d (refresh O p)) (suc n) e h f = before d (refresh O p) n e (ih n (suc i) (suc a) dealt f)
  passed ih (exchange d (known_product O p q)) (suc n) e h f = before d (known_product O p q) n e (ih n (suc i) (suc a) dealt f)
  passed ih end n e h f = absurd h

pub placed : (w : ℕ) (gs : List Gate) (ss : List Step) (n i a dealt i' a' dealt' : ℕ)
    → sought w gs n i a dealt ≡ Some (gate_place i' a' dealt')
    → Placed w gs ss n i a dealt i' a' dealt'
unfolding sought
placed w [] ss n i a dealt i' a' dealt' e = never (cc)
placed w (g ∷ gs) ss n i a dealt i' a' dealt' e =
    passed w g gs ss i a dealt i' a' dealt' (λ m j a₁ dealt₁ f. placed w gs ss m j a₁ dealt₁ i' a' dealt' f) (meaning w g) n refl
    (of_gate w g) e

-- where there is no n-th product or refresh in the order o, there is no such place
pub not_placed : (w : ℕ) (gs : List Gate) (ss : List Step) (n i a dealt o x : ℕ) (c : Cursor)
    → sought w gs n i a dealt ≡ None → c.order ≡ o → x ≡ c.turn + n
    → seek o x (order_steps w gs ss) c ≡ nowhere
unfolding sought sought_at shape order_steps seek past
not_placed w [] ss n i a dealt o x c e ho hx = gone o x ss _ (omega arith)
not_placed w (g ∷ gs) ss n i a dealt o x c e ho hx =
    go (λ m j a₁ dealt₁ d f p q. not_placed w gs ss m j a₁ dealt₁ o x d f p q) (meaning w g) n refl (of_gate w g) e hx
  where
    go : ((m j a₁ dealt₁ : ℕ) (d : Cursor) → sought w gs m j a₁ dealt₁ ≡ None → d.order ≡ o → x ≡ d.turn + m
        → seek o x (order_steps w gs ss) d ≡ nowhere)
        → (y : Step) (m : ℕ) → meaning w g ≡ y → OfGate y → sought_at (shape y) m i a dealt (sought w gs) ≡ None → x ≡ c.turn + m
        → seek o x (meaning w g ∷ order_steps w gs ss) c ≡ nowhere
    go ih (local d l r) m p h f hm = rw p (ih m (suc i) a dealt _ f ho hm)
    go ih (deal d r) m p h f hm = rw p (ih m (suc i) (suc a) (suc dealt) _ f ho hm)
    go ih (exchange d (product O s t)) zero p h f hm = never (cc)
    go ih (exchange d (product O s t)) (suc m) p h f hm =
        rw (p, not_yet o x c (λ z. omega arith)) (ih m (suc i) (2 + a) (suc dealt) _ f ho (omega arith))
    go ih (exchange d (refresh O s)) zero p h f hm = never (cc)
    go ih (exchange d (known_product O s t)) zero p h f hm = never (cc)
    go ih (exchange d (refresh O s)) (suc m) p h f hm =
        rw (p, not_yet o x c (λ z. omega arith)) (ih m (suc i) (suc a) dealt _ f ho (omega arith))
    go ih (exchange d (known_product O s t)) (suc m) p h f hm =
        rw (p, not_yet o x c (λ z. omega arith)) (ih m (suc i) (suc a) dealt _ f ho (omega arith))
    go ih end m p h f hm = absurd h
