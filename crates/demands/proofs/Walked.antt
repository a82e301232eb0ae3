-- R-7's places over the gates of orders: up to and with a product or refresh, and over all. Assumes nothing.
use mathlib.Core.Path.{◌≡◌, refl, sym, ap, ◌∙◌, subst}
use mathlib.Core.Bool.{Bool, true, false, cond}
use mathlib.Core.List.{List, [], ◌∷◌, ◌++◌}
use Prim.Native.Nat.{ℕ, zero, suc, ◌+◌, ◌≤◌}
use native.Mathlib.Omega.{arith}
use lib.ListN.{length, length-append, get_or-eq_default}
use lib.Seq.{take_all}
use Rattle.gates.specs.Gates.{Gate}
use Rattle.gates.specs.Steps.{Exchange, Step, local, deal, exchange, end, Cursor, origin, past}
use Rattle.gates.specs.Meaning.{meaning, order_steps, job_steps}
use Rattle.gates.specs.Walk.{Exchanging, far}
use Rattle.gates.specs.Costs.{Cost, plus, step_cost, cost}
use Rattle.gates.proofs.GateSteps.{OfGate, of_gate}
use Rattle.gates.proofs.Needs.{cost_path}
use Rattle.calls.specs.declared.Stored.{Stored}
use Rattle.calls.specs.Calls.{stored_places}
use Rattle.demands.specs.Conditions.{Place, places_from, speaks, used_in, up_to, gates_to, walks_places}
use Rattle.demands.proofs.Placed.{gate_placed}

-- ---- lists of steps

first_is : (x y : Step) (xs ys : List Step) → x ∷ xs ≡ y ∷ ys → x ≡ y
first_is x y xs ys e = cc

rest_is : (x y : Step) (xs ys : List Step) → x ∷ xs ≡ y ∷ ys → xs ≡ ys
rest_is x y xs ys e = cc

not_end : (d : ℕ) (e : Exchange) → end ≡ exchange d e → ⊥
not_end d e p = subst (λ (y : Step). Exchanging (y ∷ [])) (sym p) tt

not_nothing : (before behind : List Step) (x : Step) → [] ≡ before ++ (x ∷ behind) → ⊥
not_nothing before behind x e = omega (arith, ap length e, length-append before (x ∷ behind))

order_grows : (ss : List Step) (c : Cursor) → c.order ≤ (far ss c).order
unfolding far past
order_grows [] c = omega arith
order_grows (local d m l ∷ ss) c = order_grows ss (past (local d m l) c)
order_grows (deal d f ∷ ss) c = order_grows ss (past (deal d f) c)
order_grows (exchange d e ∷ ss) c = order_grows ss (past (exchange d e) c)
order_grows (end ∷ ss) c = omega (arith, order_grows ss (past end c))

-- within an order the turn does not fall
turn_grows : (ss : List Step) (c : Cursor) → (far ss c).order ≡ c.order → c.turn ≤ (far ss c).turn
unfolding far past
turn_grows [] c h = omega arith
turn_grows (local d m l ∷ ss) c h = turn_grows ss (past (local d m l) c) h
turn_grows (deal d f ∷ ss) c h = turn_grows ss (past (deal d f) c) h
turn_grows (exchange d e ∷ ss) c h = omega (arith, turn_grows ss (past (exchange d e) c) h)
turn_grows (end ∷ ss) c h = absurd (omega (arith, h, order_grows ss (past end c)))

-- a gate whose step is an exchange speaks, and no other
speaks_there : (w : ℕ) (g : Gate) (d : ℕ) (e : Exchange) → meaning w g ≡ exchange d e → speaks g ≡ true
unfolding places_from
speaks_there w g d e p =
    go (speaks g) (ap (λ (y : Step). places_from 0 0 (y ∷ [])) (sym p) ∙ gate_placed w 0 0 g [])
  where
    go : (b : Bool) → ◌≡◌ {A = List Place} ((0, 0) ∷ []) (cond b ((0, 0) ∷ []) []) → b ≡ true
    go true q = refl
    go false q = absurd (omega (arith, ap (λ (l : List Place). length l) q))

silent_there : (w : ℕ) (g : Gate) → places_from 0 0 (meaning w g ∷ []) ≡ [] → speaks g ≡ false
unfolding places_from
silent_there w g p = go (speaks g) (sym p ∙ gate_placed w 0 0 g [])
  where
    go : (b : Bool) → ◌≡◌ {A = List Place} [] (cond b ((0, 0) ∷ []) []) → b ≡ false
    go true q = absurd (omega (arith, ap (λ (l : List Place). length l) q))
    go false q = refl

-- ---- sums of counts

plus_assoc : (k l m : Cost) → plus k (plus l m) ≡ plus (plus k l) m
unfolding plus
plus_assoc k l m = cost_path (omega arith) (omega arith) (omega arith) (omega arith)

order_cost : (w : ℕ) (gs : List Gate) (ss : List Step) → cost (order_steps w gs ss) ≡ plus (cost (order_steps w gs [])) (cost ss)
unfolding order_steps cost plus step_cost
order_cost w [] ss = cost_path (omega arith) (omega arith) (omega arith) (omega arith)
order_cost w (g ∷ gs) ss = rw (order_cost w gs ss) (cost_path (omega arith) (omega arith) (omega arith) (omega arith))

-- ---- within an order

module _ (w : ℕ) (d : ℕ) (e : Exchange) (behind : List Step) where
  abbrev x : Step
  x = exchange d e

  -- past one step, of a gate of the order
  abbrev Within : List Gate → List Step → Cursor → ℕ → Type 0
  Within gs before c n = cost (order_steps w (up_to n gs) []) ≡ cost (before ++ (x ∷ []))

  by_step : (g : Gate) (gs : List Gate) (y : Step) (before : List Step) (c : Cursor) (n : ℕ) → meaning w g ≡ y → OfGate y
      → (far before (past y c)).order ≡ c.order → (far before (past y c)).turn ≡ c.turn + n
      → ((c : Cursor) (n : ℕ) → (far before c).order ≡ c.order → (far before c).turn ≡ c.turn + n → Within gs before c n)
      → Within (g ∷ gs) (y ∷ before) c n
  unfolding order_steps cost past up_to places_from
  by_step g gs (local a m l) before c zero p q o t ih =
      rw (silent_there w g (ap (λ (y : Step). places_from 0 0 (y ∷ [])) p), p) (ap (plus (step_cost (local a m l))) (ih c 0 o t))
  by_step g gs (local a m l) before c (suc n) p q o t ih =
      rw (silent_there w g (ap (λ (y : Step). places_from 0 0 (y ∷ [])) p), p) (ap (plus (step_cost (local a m l))) (ih c (suc n) o t))
  by_step g gs (deal a f) before c zero p q o t ih =
      rw (silent_there w g (ap (λ (y : Step). places_from 0 0 (y ∷ [])) p), p)
      (ap (plus (step_cost (deal a f))) (ih (past (deal a f) c) 0 o t))
  by_step g gs (deal a f) before c (suc n) p q o t ih =
      rw (silent_there w g (ap (λ (y : Step). places_from 0 0 (y ∷ [])) p), p)
      (ap (plus (step_cost (deal a f))) (ih (past (deal a f) c) (suc n) o t))
  by_step g gs (exchange a k) before c zero p q o t ih =
      absurd (omega (arith, turn_grows before (past (exchange a k) c) o, t))
  by_step g gs (exchange a k) before c (suc n) p q o t ih =
      rw (speaks_there w g a k p, p) (ap (plus (step_cost (exchange a k))) (ih (past (exchange a k) c) n o (omega (arith, t))))
  by_step g gs end before c n p q o t ih = absurd q

  -- the gates of an order up to and with its product or refresh number n, which stands behind the steps `before`
  within : (gs : List Gate) (ss before : List Step) (c : Cursor) (n : ℕ) → order_steps w gs ss ≡ before ++ (x ∷ behind)
      → (far before c).order ≡ c.order → (far before c).turn ≡ c.turn + n → Within gs before c n
  unfolding order_steps far past cost plus step_cost up_to
  within [] ss [] c n p o t = absurd (not_end d e (first_is _ _ _ _ p))
  within [] ss (y ∷ before) c n p o t =
      let q : (far before (past end c)).order ≡ c.order = subst (λ (z : Step). (far before (past z c)).order ≡ c.order) (sym (first_is _ _ _ _ p)) o in
      absurd (omega (arith, q, order_grows before (past end c)))
  within (g ∷ gs) ss [] c n p o t =
      let here : meaning w g ≡ exchange d e = first_is _ _ _ _ p in
      let z : n ≡ 0 = omega (arith, t) in
      rw (z, speaks_there w g d e here, here) (cost_path (omega arith) (omega arith) (omega arith) (omega arith))
  within (g ∷ gs) ss (y ∷ before) c n p o t =
      let here : meaning w g ≡ y = first_is _ _ _ _ p in
      by_step g gs y before c n here (subst OfGate here (of_gate w g)) o t
      (λ c n o t. within gs ss before c n (rest_is _ _ _ _ p) o t)

  -- ---- past a whole order

  pub record Over (gs : List Gate) (ss before : List Step) (c : Cursor) : Type 0 where
    pub later : List Step
    pub from : Cursor
    pub left : ss ≡ later ++ (x ∷ behind)
    pub same : far before c ≡ far later from
    pub order : from.order ≡ suc c.order
    pub turn : from.turn ≡ 0
    pub counts : cost (before ++ (x ∷ [])) ≡ plus (cost (order_steps w gs [])) (cost (later ++ (x ∷ [])))

  passed : (g : Gate) (gs : List Gate) (ss before : List Step) (y : Step) (c : Cursor) → meaning w g ≡ y
      → Over gs ss before (past y c) → (past y c).order ≡ c.order → Over (g ∷ gs) ss (y ∷ before) c
  unfolding order_steps far cost
  passed g gs ss before y c p r o =
      record {
        later = r.later;
        from = r.from;
        left = r.left;
        same = r.same;
        order = omega (arith, r.order, o);
        turn = r.turn;
        counts =
            ap (plus (step_cost y)) r.counts
            ∙ plus_assoc (step_cost y) (cost (order_steps w gs [])) (cost (r.later ++ (x ∷ [])))
            ∙ ap (λ (z : Step). plus (plus (step_cost z) (cost (order_steps w gs []))) (cost (r.later ++ (x ∷ [])))) (sym p);
      }

  same_order : (y : Step) (c : Cursor) → OfGate y → (past y c).order ≡ c.order
  unfolding past
  same_order (local a m l) c q = refl
  same_order (deal a f) c q = refl
  same_order (exchange a k) c q = refl
  same_order end c q = absurd q

  over : (gs : List Gate) (ss before : List Step) (c : Cursor) (k : ℕ) → order_steps w gs ss ≡ before ++ (x ∷ behind)
      → (far before c).order ≡ c.order + suc k → Over gs ss before c
  unfolding order_steps far past cost plus step_cost
  over gs ss [] c k p o = absurd (omega (arith, o))
  over [] ss (y ∷ before) c k p o =
      let here : end ≡ y = first_is _ _ _ _ p in
      record {
        later = before;
        from = past end c;
        left = rest_is _ _ _ _ p;
        same = ap (λ (z : Step). far before (past z c)) (sym here);
        order = refl;
        turn = refl;
        counts =
            ap (λ (z : Step). plus (step_cost z) (cost (before ++ (x ∷ [])))) (sym here)
            ∙ cost_path (omega arith) (omega arith) (omega arith) (omega arith);
      }
  over (g ∷ gs) ss (y ∷ before) c k p o =
      let here : meaning w g ≡ y = first_is _ _ _ _ p in
      let q : (past y c).order ≡ c.order = same_order y c (subst OfGate here (of_gate w g)) in
      passed g gs ss before y c here (over gs ss before (past y c) k (rest_is _ _ _ _ p) (omega (arith, o, q))) q

  -- ---- over the orders

  pub all_orders : (os : List (List Gate)) (before : List Step) (c : Cursor) (k : ℕ) → c.turn ≡ 0
      → job_steps w os ≡ before ++ (x ∷ behind) → (far before c).order ≡ c.order + k
      → cost (job_steps w (gates_to os (k, (far before c).turn))) ≡ cost (before ++ (x ∷ []))
  unfolding job_steps
  all_orders [] before c k z p o = absurd (not_nothing before behind x p)
  all_orders (gs ∷ os) before c zero z p o =
      within gs (job_steps w os) before c (far before c).turn p (omega (arith, o)) (omega (arith, z))
  all_orders (gs ∷ os) before c (suc k) z p o =
      let r = over gs (job_steps w os) before c k p o in
      let t : (far before c).turn ≡ (far r.later r.from).turn = ap (λ (c : Cursor). c.turn) r.same in
      let q : (far r.later r.from).order ≡ r.from.order + k =
      omega (arith, o, r.order, ap (λ (c : Cursor). c.order) r.same) in
      order_cost w gs (job_steps w (gates_to os (k, (far before c).turn)))
      ∙ ap (plus (cost (order_steps w gs [])))
      (ap (λ (n : ℕ). cost (job_steps w (gates_to os (k, n)))) t ∙ all_orders os r.later r.from k r.turn r.left q)
      ∙ sym r.counts

used_path : {k l : Cost} → k ≡ l → ◌≡◌ {A = Stored} (stored_places k.a k.b k.deals) (stored_places l.a l.b l.deals)
used_path e = ap {B = Stored} (λ (k : Cost). stored_places k.a k.b k.deals) e

-- at a product or refresh
pub gates_walked : (w : ℕ) (os : List (List Gate)) (before behind : List Step) (d : ℕ) (e : Exchange)
    → job_steps w os ≡ before ++ (exchange d e ∷ behind)
    → used_in (before ++ (exchange d e ∷ [])) ≡ walks_places w os ((far before origin).order, (far before origin).turn)
unfolding walks_places
gates_walked w os before behind d e p =
    used_path (sym (all_orders w d e behind os before origin (far before origin).order refl p (omega arith)))

-- at the end
end_steps : (w : ℕ) (os : List (List Gate)) → cost (job_steps w (os ++ ([] ∷ []))) ≡ cost (job_steps w os)
unfolding job_steps order_steps cost plus step_cost
end_steps w [] = refl
end_steps w (gs ∷ os) =
    order_cost w gs (job_steps w (os ++ ([] ∷ [])))
    ∙ ap (plus (cost (order_steps w gs []))) (end_steps w os)
    ∙ sym (order_cost w gs (job_steps w os))

pub gates_all : (w : ℕ) (os : List (List Gate)) → used_in (job_steps w os) ≡ walks_places w os (length os, 0)
unfolding walks_places up_to
gates_all w os =
    used_path (sym (ap (λ (l : List (List Gate)). cost (job_steps w l))
    (rw (take_all (length os) os (omega arith), get_or-eq_default os [] {n = length os} (omega arith))) ∙ end_steps w os))
