-- The place that a state names: `seek` finds a product or refresh exactly where the place is listed, and the end
-- exactly there. Assumes nothing.
use mathlib.Core.Path.{◌≡◌, refl, ap, ap₂, ◌∙◌}
use mathlib.Core.Logic.{inl, inr}
use mathlib.Core.Bool.{Bool, true, false, ◌&&◌, cond}
use mathlib.Core.List.{List, [], ◌∷◌, ◌++◌}
use Prim.Native.Nat.{ℕ, suc, ◌+◌, ◌<◌}
use native.Mathlib.Omega.{arith}
use borrow.Author.Tests.{eqb-true, eqb-false}
use lib.Dec.{eqb}
use Rattle.gates.specs.Gates.{Gate, Add, Sub, Xor, Mul, And, Refresh, MulKnown, AndKnown, Scale, Plus, Up, Bit, Const, Public, Deal, DealBits}
use Rattle.gates.specs.Steps.{Exchange, Step, local, deal, exchange, end, Cursor, past}
use Rattle.gates.specs.Meaning.{meaning, order_steps, job_steps}
use Rattle.calls.specs.Scripts.{ends, Closed}
use Rattle.calls.specs.Places.{Found, nowhere, found, seek}
use Rattle.calls.specs.Calls.{place_fault}
use Rattle.runs.specs.Runs.{Among}
use Rattle.demands.specs.Conditions.{Place, places_from, speaks, order_places, gate_places}

-- the turn at the end of steps that begin with turn t
unfoldable pub last_turn : (t : ℕ) → List Step → ℕ
last_turn t [] = t
last_turn t (local d m l ∷ ss) = last_turn t ss
last_turn t (deal d f ∷ ss) = last_turn t ss
last_turn t (exchange d e ∷ ss) = last_turn (suc t) ss
last_turn t (end ∷ ss) = last_turn 0 ss

place_order : {p q : Place} → p ≡ q → p.0 ≡ q.0
place_order e = ap (λ (p : Place). p.0) e

place_turn : {p q : Place} → p ≡ q → p.1 ≡ q.1
place_turn e = ap (λ (p : Place). p.1) e

module _ (o x : ℕ) where
  -- the number n of the place (o, x), where ps are the places and (q, y) is the end
  pub data Placed (ps : List Place) (q y n : ℕ) : Type 0 where
    a_turn : Among (o, x) ps → n ≡ 0 → Placed ps q y n
    the_end : o ≡ q → x ≡ y → n ≡ 9 → Placed ps q y n
    nothing : (Among (o, x) ps → ⊥) → (o ≡ q → x ≡ y → ⊥) → n ≡ 8 → Placed ps q y n

  -- past a product or refresh that has another place
  on : (p t q y n : ℕ) (ps : List Place) → (p ≡ o → t ≡ x → ⊥) → Placed ps q y n → Placed ((p, t) ∷ ps) q y n
  on p t q y n ps f (a_turn h z) = a_turn (inr h) z
  on p t q y n ps f (the_end a b z) = the_end a b z
  on p t q y n ps f (nothing h g z) = nothing none g z
    where
      none : Among (o, x) ((p, t) ∷ ps) → ⊥
      none (inl e) = f (omega (arith, place_order e)) (omega (arith, place_turn e))
      none (inr k) = h k

  at_exchange : (a b : Bool) (p t q y d : ℕ) (e : Exchange) (ss : List Step) (c : Cursor) (f : Found) (ps : List Place) → eqb p o ≡ a
      → eqb t x ≡ b
      → Placed ps q y (place_fault f) → Placed ((p, t) ∷ ps) q y (place_fault (cond (a && b) (found (exchange d e ∷ ss) c) f))
  unfolding place_fault
  at_exchange true true p t q y d e ss c f ps g h z =
      a_turn (inl (ap₂ {C = Place} (λ (i j : ℕ). (i, j)) (omega (arith, eqb-true p o g)) (omega (arith, eqb-true t x h)))) refl
  at_exchange true false p t q y d e ss c f ps g h z = on p t q y _ ps (λ u v. eqb-false t x h v) z
  at_exchange false b p t q y d e ss c f ps g h z = on p t q y _ ps (λ u v. eqb-false p o g u) z

  at_last : (a b : Bool) (c : Cursor) → eqb c.order o ≡ a → eqb c.turn x ≡ b
      → Placed [] (c.order + 0) c.turn (place_fault (cond (a && b) (found [] c) nowhere))
  unfolding place_fault
  at_last true true c g h = the_end (omega (arith, eqb-true c.order o g)) (omega (arith, eqb-true c.turn x h)) refl
  at_last true false c g h = nothing (λ k. k) (λ u v. eqb-false c.turn x h (omega (arith, v))) refl
  at_last false b c g h = nothing (λ k. k) (λ u v. eqb-false c.order o g (omega (arith, u))) refl

  pub placed : (ss : List Step) (c : Cursor)
      → Placed (places_from c.order c.turn ss) (c.order + ends ss) (last_turn c.turn ss) (place_fault (seek o x ss c))
  unfolding seek past places_from ends last_turn
  placed [] c = at_last (eqb c.order o) (eqb c.turn x) c refl refl
  placed (local d m l ∷ ss) c = placed ss (past (local d m l) c)
  placed (deal d f ∷ ss) c = placed ss (past (deal d f) c)
  placed (exchange d e ∷ ss) c =
      at_exchange (eqb c.order o) (eqb c.turn x) c.order c.turn _ _ d e ss c (seek o x ss (past (exchange d e) c)) _ refl refl
      (placed ss (past (exchange d e) c))
  placed (end ∷ ss) c =
      let e : c.order + suc (ends ss) ≡ suc c.order + ends ss = omega arith in
      rw e (placed ss (past end c))

-- where every step stands in an order, the end has turn 0, and every place comes before it

pub last_turn_0 : (ss : List Step) (t : ℕ) → Closed ss → (ends ss ≡ 0 → t ≡ 0) → last_turn t ss ≡ 0
unfolding last_turn ends
last_turn_0 [] t c h = h refl
last_turn_0 (local d m l ∷ ss) t c h = last_turn_0 ss t c.1 (λ e. absurd (omega (arith, c.0)))
last_turn_0 (deal d f ∷ ss) t c h = last_turn_0 ss t c.1 (λ e. absurd (omega (arith, c.0)))
last_turn_0 (exchange d e ∷ ss) t c h = last_turn_0 ss (suc t) c.1 (λ k. absurd (omega (arith, c.0)))
last_turn_0 (end ∷ ss) t c h = last_turn_0 ss 0 c.1 (λ e. refl)

pub before_end : (ss : List Step) (p t o x : ℕ) → Closed ss → Among (o, x) (places_from p t ss) → o < p + ends ss
unfolding places_from ends
before_end [] p t o x c h = absurd h
before_end (local d m l ∷ ss) p t o x c h = before_end ss p t o x c.1 h
before_end (deal d f ∷ ss) p t o x c h = before_end ss p t o x c.1 h
before_end (exchange d e ∷ ss) p t o x c (inl k) = omega (arith, place_order k, c.0)
before_end (exchange d e ∷ ss) p t o x c (inr h) = before_end ss p (suc t) o x c.1 h
before_end (end ∷ ss) p t o x c h = omega (arith, before_end ss (suc p) 0 o x c.1 h)

-- ---- lists of gates

pub gate_placed : (w o x : ℕ) (g : Gate) (ss : List Step)
    → places_from o x (meaning w g ∷ ss) ≡ cond (speaks g) ((o, x) ∷ places_from o (suc x) ss) (places_from o x ss)
unfolding meaning speaks places_from
gate_placed w o x (Add d a b) ss = refl
gate_placed w o x (Sub d a b) ss = refl
gate_placed w o x (Xor d a b) ss = refl
gate_placed w o x (Mul d a b) ss = refl
gate_placed w o x (And d a b) ss = refl
gate_placed w o x (Refresh d a) ss = refl
gate_placed w o x (MulKnown d a b) ss = refl
gate_placed w o x (AndKnown d a b) ss = refl
gate_placed w o x (Scale d a n) ss = refl
gate_placed w o x (Plus d a n) ss = refl
gate_placed w o x (Up d a n) ss = refl
gate_placed w o x (Bit d a n) ss = refl
gate_placed w o x (Const d n) ss = refl
gate_placed w o x (Public d a f) ss = refl
gate_placed w o x (Deal d a f) ss = refl
gate_placed w o x (DealBits d a) ss = refl

order_placed : (w o x : ℕ) (gs : List Gate) (ss : List Step)
    → places_from o x (order_steps w gs ss) ≡ order_places o x gs ++ places_from (suc o) 0 ss
unfolding order_steps places_from order_places
order_placed w o x [] ss = refl
order_placed w o x (g ∷ gs) ss =
    gate_placed w o x g (order_steps w gs ss) ∙ go (speaks g) (order_placed w o (suc x) gs ss) (order_placed w o x gs ss)
  where
    go : (b : Bool) → places_from o (suc x) (order_steps w gs ss) ≡ order_places o (suc x) gs ++ places_from (suc o) 0 ss
        → places_from o x (order_steps w gs ss) ≡ order_places o x gs ++ places_from (suc o) 0 ss
        → cond b ((o, x) ∷ places_from o (suc x) (order_steps w gs ss)) (places_from o x (order_steps w gs ss))
        ≡ cond b ((o, x) ∷ order_places o (suc x) gs) (order_places o x gs) ++ places_from (suc o) 0 ss
    go true h k = ap (λ (l : List Place). (o, x) ∷ l) h
    go false h k = k

pub gates_placed : (w o : ℕ) (gates : List (List Gate)) → places_from o 0 (job_steps w gates) ≡ gate_places o gates
unfolding job_steps places_from gate_places
gates_placed w o [] = refl
gates_placed w o (g ∷ gs) =
    order_placed w o 0 g (job_steps w gs) ∙ ap (λ (l : List Place). order_places o 0 g ++ l) (gates_placed w (suc o) gs)
