-- R-7: a host's stored places are the walk's, after every call and in every run. Assumes nothing.
use mathlib.Core.Path.{◌≡◌, refl, sym, ap, ◌∙◌, subst}
use mathlib.Core.List.{List, [], ◌∷◌, ◌++◌, append-nil, append_assoc}
use Prim.Native.Nat.{ℕ, zero, suc, ◌+◌}
use native.Mathlib.Omega.{arith}
use Rattle.gates.specs.Steps.{Step, local, deal, exchange, end, Cursor, origin, past}
use Rattle.gates.specs.Walk.{Conf, conf, next, walk, far}
use Rattle.gates.specs.Costs.{Cost, plus, cost}
use Rattle.gates.specs.Hosts.{Pair}
use Rattle.gates.proofs.Needs.{cost_append}
use Rattle.calls.specs.declared.Stored.{Stored}
use Rattle.calls.specs.Scripts.{Script, script_cost, ends, Orderly}
use Rattle.calls.specs.Lent.{Lent, worker_of}
use Rattle.calls.specs.Calls.{State, Answer, fresh2, counted_to, stored_at, state_of, start_walk, start, hear}
use Rattle.runs.proofs.Places.{Halted, pos}
use Rattle.runs.proofs.Refusals.{start_none}
use Rattle.demands.specs.Conditions.{used_in}
use Rattle.demands.specs.RememberedPlaces.{Standing, at_exchange, at_end, Remembers, Ran}
use Rattle.demands.proofs.Placed.{last_turn, last_turn_0}
use Rattle.demands.proofs.Completed.{counted_far, far_append, heard, standing_at, own_places}

-- ---- behind the steps `before`, where a walk halts

far_order : (ss : List Step) (c : Cursor) → (far ss c).order ≡ c.order + ends ss
unfolding far past ends
far_order [] c = omega arith
far_order (local d m l ∷ ss) c = far_order ss (past (local d m l) c)
far_order (deal d f ∷ ss) c = far_order ss (past (deal d f) c)
far_order (exchange d e ∷ ss) c = far_order ss (past (exchange d e) c)
far_order (end ∷ ss) c = omega (arith, far_order ss (past end c))

far_turn : (ss : List Step) (c : Cursor) → (far ss c).turn ≡ last_turn c.turn ss
unfolding far past last_turn
far_turn [] c = refl
far_turn (local d m l ∷ ss) c = far_turn ss (past (local d m l) c)
far_turn (deal d f ∷ ss) c = far_turn ss (past (deal d f) c)
far_turn (exchange d e ∷ ss) c = far_turn ss (past (exchange d e) c)
far_turn (end ∷ ss) c = far_turn ss (past end c)

-- the steps of the place's own product or refresh, if it is not the end; and those behind
abbrev own : List Step → List Step
own [] = []
own (x ∷ ss) = x ∷ []

abbrev behind : List Step → List Step
behind [] = []
behind (x ∷ ss) = ss

-- the walk's places there
pub places_there : (before rest : List Step) → Halted rest → stored_at rest (far before origin) ≡ used_in (before ++ own rest)
unfolding stored_at far
places_there before [] h = counted_far before ∙ ap used_in (sym (append-nil before))
places_there before (local d m l ∷ ss) h = absurd h
places_there before (deal d f ∷ ss) h = absurd h
places_there before (exchange d e ∷ ss) h =
    ap counted_to (sym (far_append before (exchange d e ∷ []) origin)) ∙ counted_far (before ++ (exchange d e ∷ []))
places_there before (end ∷ ss) h = absurd h

split : (ss : List Step) → own ss ++ behind ss ≡ ss
split [] = refl
split (x ∷ ss) = refl

module _ (σ : Script) (ok : Orderly σ) where
  pub stands : (before rest : List Step) → σ.steps ≡ before ++ rest → Halted rest
      → Standing σ (far before origin).order (far before origin).turn (before ++ own rest) (behind rest)
  stands before [] p h =
      let q : σ.steps ≡ before = p ∙ append-nil before in
      let t : (far before origin).turn ≡ 0 =
      far_turn before origin ∙ ap (last_turn 0) (sym q) ∙ last_turn_0 σ.steps 0 ok.closed (λ e. refl) in
      subst (λ (ss : List Step). Standing σ (far before origin).order (far before origin).turn ss []) p
      (at_end (omega (arith, far_order before origin, ap ends q)) (sym t))
  stands before (local d m l ∷ ss) p h = absurd h
  stands before (deal d f ∷ ss) p h = absurd h
  stands before (exchange d e ∷ ss) p h =
      at_exchange (record { before = before; target = d; gate = e; behind = ss; is = p; order = refl; turn = refl })
  stands before (end ∷ ss) p h = absurd h

  -- with the steps that its own product or refresh and those behind make up
  whole : (before rest : List Step) → (before ++ own rest) ++ behind rest ≡ before ++ rest
  whole before [] = append-nil (before ++ [])
  whole before (x ∷ ss) = append_assoc before (x ∷ []) ss

  -- ---- a state there, with the walk's places

  pub remembers : (before rest : List Step) → σ.steps ≡ before ++ rest → Halted rest → (s : State)
      → s.order ≡ (far before origin).order → s.turn ≡ (far before origin).turn → s.stored ≡ stored_at rest (far before origin)
      → Remembers σ s
  unfolding plus
  remembers before rest p h s o t e =
      let u : s.stored ≡ used_in (before ++ own rest) = e ∙ places_there before rest h in
      let k : script_cost σ ≡ plus (cost (before ++ own rest)) (cost (behind rest)) =
      ap cost (p ∙ sym (whole before rest)) ∙ cost_append (before ++ own rest) (behind rest) in
      record {
        done = before ++ own rest;
        left = behind rest;
        stands = rw (o, t) (stands before rest p h);
        stored = u;
        left_a = ap (λ (v : Stored). v.a + (cost (behind rest)).a) u ∙ sym (ap (λ (k : Cost). k.a) k);
        left_b = ap (λ (v : Stored). v.b + (cost (behind rest)).b) u ∙ sym (ap (λ (k : Cost). k.b) k);
        left_deals = ap (λ (v : Stored). v.deals + (cost (behind rest)).deals) u ∙ sym (ap (λ (k : Cost). k.deals) k);
      }

-- ---- where a walk up to the next product or refresh comes to

pub record Halts {S : Type 0} (ss : List Step) (c : Cursor) (p : Conf S) : Type 0 where
  pub ran : List Step
  pub is : ss ≡ ran ++ p.rest
  pub cur : p.cur ≡ far ran c
  pub halted : Halted p.rest

more : {S : Type 0} (x : Step) {ss : List Step} {c : Cursor} {p : Conf S} → Halts ss (past x c) p → Halts (x ∷ ss) c p
unfolding far
more x h = record { ran = x ∷ h.ran; is = ap (λ (l : List Step). x ∷ l) h.is; cur = h.cur; halted = h.halted }

pub halts : {S : Type 0} (act : Step → Cursor → S → S) (ss : List Step) (c : Cursor) (s : S) (t : List S)
    → Halts ss c (walk act ss c s t)
unfolding walk far
halts act [] c s t = record { ran = []; is = refl; cur = refl; halted = tt }
halts act (local d m l ∷ ss) c s t = more (local d m l) (halts act ss _ _ t)
halts act (deal d f ∷ ss) c s t = more (deal d f) (halts act ss _ _ t)
halts act (exchange d e ∷ ss) c s t = record { ran = []; is = refl; cur = refl; halted = tt }
halts act (end ∷ ss) c s t = more end (halts act ss _ _ (t ++ (s ∷ [])))

-- ---- in a run

-- the steps before a position of a walk
module _ {S : Type 0} (f : Step → Cursor → S → S) (ss : List Step) (s₀ : S) where
  abbrev Front : Conf S → Type 0
  Front p = (before : List Step) × (ss ≡ before ++ p.rest) × (p.cur ≡ far before origin)

  front_next : (rest : List Step) (c : Cursor) (s : S) (t : List S) → Front (conf rest c s t) → Front (next f (conf rest c s t))
  unfolding far
  front_next [] c s t p = p
  front_next (x ∷ rest) c s t p = (
    p.0 ++ (x ∷ []),
    p.1 ∙ sym (append_assoc p.0 (x ∷ []) rest),
    ap (past x) p.2 ∙ sym (far_append p.0 (x ∷ []) origin),
  )

  pub front : (n : ℕ) → Front (pos f ss s₀ n)
  unfolding pos far
  front zero = ([], refl, refl)
  front (suc n) = let p = pos f ss s₀ n in front_next p.rest p.cur p.state p.trail (front n)

-- ---- the two calls

module _ (loan : Lent) (ok : Orderly loan.script) where
  pub start_remembers : (r : Pair) → (start loan r).number ≡ 0 → Remembers loan.script (start loan r).state
  unfolding start_walk
  start_remembers r z =
      let k = halts (worker_of loan).act loan.script.steps origin (fresh2 r) [] in
      let e = ap (λ (a : Answer). a.state) (start_none loan r z).1 in
      remembers loan.script ok k.ran (start_walk loan r).rest k.is k.halted (start loan r).state
      (ap (λ (s : State). s.order) e ∙ ap (λ (c : Cursor). c.order) k.cur)
      (ap (λ (s : State). s.turn) e ∙ ap (λ (c : Cursor). c.turn) k.cur)
      (ap (λ (s : State). s.stored) e ∙ ap (stored_at (start_walk loan r).rest) k.cur)

  pub hear_ran : (s : State) (v : ℕ) → (hear loan s v).number ≡ 0 → Ran loan.script s (hear loan s v).state
  unfolding far
  hear_ran s v z =
      let l = standing_at loan s v z in
      let x : Step = exchange l.target l.gate in
      let c : Cursor = far l.before origin in
      let lanes : Pair = (worker_of loan).hear l.target l.gate c (s.m, s.mask) v in
      let p : Conf Pair = walk (worker_of loan).act l.behind (past x c) lanes [] in
      let k : Halts l.behind (past x c) p = halts (worker_of loan).act l.behind (past x c) lanes [] in
      let e : (hear loan s v).state ≡ state_of p =
      ap (λ (a : Answer). a.state)
      (heard loan s v l.before l.behind l.target l.gate l.is (sym l.order) (sym l.turn) z) in
      let done : List Step = l.before ++ (x ∷ []) in
      let ran : List Step = k.ran ++ own p.rest in
      let before : List Step = done ++ k.ran in
      let cur : p.cur ≡ far before origin =
      k.cur ∙ ap (far k.ran) (sym (far_append l.before (x ∷ []) origin)) ∙ sym (far_append done k.ran origin) in
      let is : loan.script.steps ≡ before ++ p.rest =
      l.is ∙ ap (λ (ss : List Step). l.before ++ (x ∷ ss)) k.is
      ∙ sym (append_assoc l.before (x ∷ []) (k.ran ++ p.rest)) ∙ sym (append_assoc done k.ran p.rest) in
      let joined : before ++ own p.rest ≡ done ++ ran = append_assoc done k.ran (own p.rest) in
      record {
        done = done;
        ran = ran;
        left = behind p.rest;
        from =
            subst (λ (ss : List Step). Standing loan.script s.order s.turn done ss)
            (k.is ∙ ap (λ (ss : List Step). k.ran ++ ss) (sym (split p.rest))
            ∙ sym (append_assoc k.ran (own p.rest) (behind p.rest)))
            (at_exchange l);
        to =
            rw (e, cur)
            (subst (λ (ss : List Step). Standing loan.script (far before origin).order (far before origin).turn ss (behind p.rest))
            joined (stands loan.script ok before p.rest is k.halted));
        given = own_places loan s v z l;
        returned =
            ap (λ (s : State). s.stored) e ∙ ap (stored_at p.rest) cur ∙ places_there before p.rest k.halted ∙ ap used_in joined;
      }
