-- How a walk of host 1 or 2 through some gates ends, at a product or refresh or behind the last of them; and that it ends alike on a lane
-- and on the larger lane that it stands in. Assumes nothing.
use mathlib.Core.Path.{◌≡◌, refl, sym, ap, ap₂, ◌∙◌}
use mathlib.Core.Bool.{Bool, true, false, cond}
use mathlib.Core.List.{List, [], ◌∷◌, ◌++◌, map}
use Prim.Native.Nat.{ℕ, suc}
use lib.Dec.{eqb}
use lib.ListN.{set}
use Rattle.gates.specs.Gates.{Gate}
use Rattle.gates.specs.Steps.{Lane, Exchange, product, refresh, known_product, Step, local, deal, exchange, end, say1, say2, new_at, past_deal, Cursor}
use Rattle.gates.specs.Steps.{past}
use Rattle.gates.specs.Meaning.{meaning}
use Rattle.gates.specs.Costs.{step_cost}
use Rattle.gates.specs.Walk.{far}
use Rattle.gates.specs.Hosts.{Pair, on_m, on_mask, word_of1, word_of2}
use Rattle.gates.proofs.GateSteps.{OfGate, of_gate}
use Rattle.calls.specs.Lent.{Worker, worker1, worker2, worker_with}
use Rattle.calls.specs.declared.Stored.{Stored}
use Rattle.calls.specs.Calls.{counted_to, Answer, word_at}
use Rattle.walks.specs.Workers.{cursor, deal_taken}
use Rattle.walks.specs.Halts.{going_on, reported}
use Rattle.walks.proofs.Halts.{passes, stops}
use Rattle.walks.proofs.Workers.{acts}
use Rattle.runs.proofs.Written.{Spares, none, also}
use Rattle.days.proofs.Moved.{moved, moved_exchange, Ready, Embeds, Same, same_local, same_deal, same_exchange, same_gate}
use Rattle.days.proofs.Moved.{still_ready, put_same}

-- at a product or refresh, with the word spoken there and the walk's places; or behind the last gate, with so many words of A and deals
-- used
pub data Outcome : Type 0 where
  halts : (word : ℕ) → Stored → Pair → Outcome
  goes_by : (a dealt : ℕ) → Pair → Outcome

module _ (h : ℕ) (M D : List ℕ) where
  abbrev P : Worker
  P = worker_with h M D

  unfoldable pub outcome : List Step → (a b dealt : ℕ) → Pair → Outcome
  outcome [] a b n s = goes_by a n s
  outcome (local d m l ∷ ss) a b n s = outcome ss a b n (P.act (local d m l) (cursor 0 0 a b n) s)
  outcome (deal d f ∷ ss) a b n s = outcome ss (suc a) b (suc n) (P.act (deal d f) (cursor 0 0 a b n) s)
  outcome (exchange d e ∷ ss) a b n s = halts (P.say e (cursor 0 0 a b n) s) (counted_to (past (exchange d e) (cursor 0 0 a b n))) s
  outcome (end ∷ ss) a b n s = outcome ss a b n s

  -- the answer that comes of it at the place (o, x), with b words spoken before and the steps ss behind the gates
  unfoldable pub answer_behind : List Step → (o x b : ℕ) → Outcome → Answer
  answer_behind ss o x b (halts v u s) = going_on (suc b) v s.0 s.1 o x u
  answer_behind ss o x b (goes_by a n s) = reported P ss (cursor o x a b n) s

  -- the place does not matter to what a host does
  acts_any : (y : Step) (o x a b n : ℕ) (s : Pair) → P.act y (cursor o x a b n) s ≡ P.act y (cursor 0 0 a b n) s
  acts_any y o x a b n s = acts h M D y (cursor o x a b n) s ∙ sym (acts h M D y (cursor 0 0 a b n) s)

  says_any : (e : Exchange) (o x a b n : ℕ) (s : Pair) → P.say e (cursor o x a b n) s ≡ P.say e (cursor 0 0 a b n) s
  unfolding worker_with word_of1 word_of2
  says_any e o x a b n s = go (eqb h 1)
    where
      go : (t : Bool) → (cond {A = Worker} t (worker1 M) (worker2 M D)).say e (cursor o x a b n) s
          ≡ (cond {A = Worker} t (worker1 M) (worker2 M D)).say e (cursor 0 0 a b n) s
      go true = refl
      go false = refl

  module _ (w : ℕ) where
    pub ends_in : (gs : List Gate) (ss : List Step) (o x a b n : ℕ) (s : Pair)
        → reported P (map (meaning w) gs ++ ss) (cursor o x a b n) s
        ≡ answer_behind ss o x b (outcome (map (meaning w) gs) a b n s)
    unfolding outcome answer_behind past step_cost word_at
    ends_in [] ss o x a b n s = refl
    ends_in (g ∷ gs) ss o x a b n s = go (λ a n s. ends_in gs ss o x a b n s) (meaning w g) (of_gate w g)
      where
        go : ((a n : ℕ) (s : Pair) → reported P (map (meaning w) gs ++ ss) (cursor o x a b n) s ≡ answer_behind ss o x b (outcome (map (meaning w) gs) a b n s))
            → (y : Step) → OfGate y
            → reported P (y ∷ map (meaning w) gs ++ ss) (cursor o x a b n) s ≡ answer_behind ss o x b (outcome (y ∷ map (meaning w) gs) a b n s)
        go ih (local d m l) t =
            passes P (map (meaning w) gs ++ ss) o x a b n s (local d m l) tt refl
            ∙ ap (λ (z : Pair). reported P (map (meaning w) gs ++ ss) (cursor o x a b n) z) (acts_any (local d m l) o x a b n s)
            ∙ ih a n _
        go ih (deal d f) t =
            passes P (map (meaning w) gs ++ ss) o x a b n s (deal d f) tt refl
            ∙ ap (λ (z : Pair). reported P (map (meaning w) gs ++ ss) (cursor o x (suc a) b (suc n)) z) (acts_any (deal d f) o x a b n s)
            ∙ ih (suc a) (suc n) _
        go ih (exchange d e) t =
            stops P (map (meaning w) gs ++ ss) o x a b n s (exchange d e) tt
            ∙ ap (λ (v : ℕ). going_on (suc b) v s.0 s.1 o x (counted_to (past (exchange d e) (cursor 0 0 a b n))))
            (says_any e o x a b n s)
        go ih end t = absurd t

  -- a local step, a deal
  pub acts_local : (d : ℕ) (m l : Lane → ℕ) (c : Cursor) (s : Pair) → P.act (local d m l) c s ≡ (set s.0 d (m s.0), set s.1 d (l s.1))
  unfolding on_m on_mask
  acts_local d m l c s = acts h M D (local d m l) c s

  acts_deal : (d : ℕ) (f : ℕ → Lane → Lane → ℕ) (c : Cursor) (s : Pair)
      → P.act (deal d f) c s ≡ (set s.0 d 0, set s.1 d (deal_taken h M D c.a c.deals))
  unfolding on_m on_mask
  acts_deal d f c s = acts h M D (deal d f) c s

  -- ---- the cursor behind the gates, where the walk goes by them

  abbrev pub Far : (xs ss : List Step) (o x a b n : ℕ) → Outcome → Type 0
  Far xs ss o x a b n (halts v u s) = Unit
  Far xs ss o x a b n (goes_by a' n' s) = far (xs ++ ss) (cursor o x a b n) ≡ far ss (cursor o x a' b n')

  pub goes_far : (w : ℕ) (gs : List Gate) (ss : List Step) (o x a b n : ℕ) (s : Pair)
      → Far (map (meaning w) gs) ss o x a b n (outcome (map (meaning w) gs) a b n s)
  unfolding outcome far past
  goes_far w [] ss o x a b n s = refl
  goes_far w (g ∷ gs) ss o x a b n s = go (λ a n s. goes_far w gs ss o x a b n s) (meaning w g) (of_gate w g)
    where
      on : (xs : List Step) (y : Step) (a b n a₁ n₁ : ℕ) → past y (cursor o x a b n) ≡ cursor o x a₁ b n₁
          → (r : Outcome) → Far xs ss o x a₁ b n₁ r → Far (y ∷ xs) ss o x a b n r
      on xs y a b n a₁ n₁ e (halts v u s) p = tt
      on xs y a b n a₁ n₁ e (goes_by a' n' s) p = ap (far (xs ++ ss)) e ∙ p

      go : ((a n : ℕ) (s : Pair) → Far (map (meaning w) gs) ss o x a b n (outcome (map (meaning w) gs) a b n s))
          → (y : Step) → OfGate y → Far (y ∷ map (meaning w) gs) ss o x a b n (outcome (y ∷ map (meaning w) gs) a b n s)
      go ih (local d m l) t = on (map (meaning w) gs) (local d m l) a b n a n refl
          (outcome (map (meaning w) gs) a b n (P.act (local d m l) (cursor 0 0 a b n) s)) (ih a n (P.act (local d m l) (cursor 0 0 a b n) s))
      go ih (deal d f) t = on (map (meaning w) gs) (deal d f) a b n (suc a) (suc n) refl
          (outcome (map (meaning w) gs) (suc a) b (suc n) (P.act (deal d f) (cursor 0 0 a b n) s))
          (ih (suc a) (suc n) (P.act (deal d f) (cursor 0 0 a b n) s))
      go ih (exchange d e) t = tt
      go ih end t = absurd t

-- ---- on a lane, and on the larger one that it stands in

module _ (h : ℕ) (M D : List ℕ) (ρ : ℕ → ℕ) (x₁ x₂ : ℕ) (e₁ e₂ : Lane → Lane) (E₁ : Embeds ρ x₁ e₁) (E₂ : Embeds ρ x₂ e₂) where
  abbrev W : Worker
  W = worker_with h M D

  abbrev pub larger : Pair → Pair
  larger s = (e₁ s.0, e₂ s.1)

  abbrev pub Ready2 : Pair → Type 0
  Ready2 s = Ready x₁ s.0 × Ready x₂ s.1

  unfoldable pub larger_outcome : Outcome → Outcome
  larger_outcome (halts v u s) = halts v u (larger s)
  larger_outcome (goes_by a n s) = goes_by a n (larger s)

  abbrev pub ended_on : Outcome → Pair
  ended_on (halts v u s) = s
  ended_on (goes_by a n s) = s

  -- the same word is spoken
  module _ (c : Cursor) (s : Pair) (r : Ready2 s) where
    pub says_same : (e : Exchange) → W.say (moved_exchange ρ e) c (larger s) ≡ W.say e c s
    unfolding worker_with word_of1 word_of2 say1 say2 new_at moved_exchange
    says_same e = go (eqb h 1) e
      where
        go : (t : Bool) (e : Exchange) → (cond {A = Worker} t (worker1 M) (worker2 M D)).say (moved_exchange ρ e) c (larger s)
            ≡ (cond {A = Worker} t (worker1 M) (worker2 M D)).say e c s
        go true (product O a b) =
            rw (E₁.seen s.0 r.0 a, E₁.seen s.0 r.0 b, E₂.seen s.1 r.1 a, E₂.seen s.1 r.1 b)
        go false (product O a b) =
            rw (E₁.seen s.0 r.0 a, E₁.seen s.0 r.0 b, E₂.seen s.1 r.1 a, E₂.seen s.1 r.1 b)
        go true (refresh O a) = rw (E₁.seen s.0 r.0 a, E₂.seen s.1 r.1 a)
        go false (refresh O a) = rw (E₂.seen s.1 r.1 a)
        go true (known_product O a b) = rw (E₁.seen s.0 r.0 a, E₁.seen s.0 r.0 b, E₂.seen s.1 r.1 b)
        go false (known_product O a b) = rw (E₁.seen s.0 r.0 a, E₂.seen s.1 r.1 b)

  -- and as much used
  used_same : (d : ℕ) (e : Exchange) (a b n : ℕ)
      → past (exchange (ρ d) (moved_exchange ρ e)) (cursor 0 0 a b n) ≡ past (exchange d e) (cursor 0 0 a b n)
  unfolding past new_at past_deal moved_exchange
  used_same d (product O i j) a b n = refl
  used_same d (refresh O i) a b n = refl
  used_same d (known_product O i j) a b n = refl

  -- the walks end alike, and slot 15 still holds what it held
  abbrev Alike : List Step → List Step → (a b n : ℕ) → Pair → Type 0
  Alike xs ys a b n s =
      (outcome h M D ys a b n (larger s) ≡ larger_outcome (outcome h M D xs a b n s)) × Ready2 (ended_on (outcome h M D xs a b n s))

  step_alike : {d : ℕ} {x y : Step} (xs ys : List Step) (a b n : ℕ) (s : Pair) → Ready2 s → eqb 15 d ≡ false → Same ρ d x y
      → ((a n : ℕ) (s : Pair) → Ready2 s → Alike xs ys a b n s) → Alike (x ∷ xs) (y ∷ ys) a b n s
  unfolding outcome larger_outcome
  step_alike {d = d} xs ys a b n s r t (same_local {m = m} {l = l} {m' = m'} {l' = l'} p q) ih =
      let u : Pair = (set s.0 d (m s.0), set s.1 d (l s.1)) in
      let ru : Ready2 u = (still_ready ρ x₁ s.0 r.0 d _ t, still_ready ρ x₂ s.1 r.1 d _ t) in
      let e : W.act (local (ρ d) m' l') (cursor 0 0 a b n) (larger s) ≡ larger u =
      acts_local h M D (ρ d) m' l' (cursor 0 0 a b n) (larger s)
      ∙ ap₂ {C = Pair} (λ (v z : Lane). (v, z)) (put_same ρ x₁ s.0 r.0 d _ t e₁ E₁ _ (p x₁ e₁ E₁ s.0 r.0))
      (put_same ρ x₂ s.1 r.1 d _ t e₂ E₂ _ (q x₂ e₂ E₂ s.1 r.1)) in
      rw (acts_local h M D d m l (cursor 0 0 a b n) s, e) (ih a n u ru)
  step_alike {d = d} xs ys a b n s r t (same_deal {f = f} {f' = f'} p) ih =
      let k : ℕ = deal_taken h M D a n in
      let u : Pair = (set s.0 d 0, set s.1 d k) in
      let ru : Ready2 u = (still_ready ρ x₁ s.0 r.0 d 0 t, still_ready ρ x₂ s.1 r.1 d k t) in
      let e : W.act (deal (ρ d) f') (cursor 0 0 a b n) (larger s) ≡ larger u =
      acts_deal h M D (ρ d) f' (cursor 0 0 a b n) (larger s)
      ∙ ap₂ {C = Pair} (λ (v z : Lane). (v, z)) (put_same ρ x₁ s.0 r.0 d 0 t e₁ E₁ 0 refl)
      (put_same ρ x₂ s.1 r.1 d k t e₂ E₂ k refl) in
      rw (acts_deal h M D d f (cursor 0 0 a b n) s, e) (ih (suc a) (suc n) u ru)
  step_alike {d = d} xs ys a b n s r t (same_exchange e) ih =
      (ap₂ (λ (v : ℕ) (u : Stored). halts v u (larger s)) (says_same (cursor 0 0 a b n) s r e) (ap counted_to (used_same d e a b n)), r)

  pub gates_alike : (w : ℕ) (gs : List Gate) → Spares 15 gs → (a b n : ℕ) (s : Pair) → Ready2 s
      → Alike (map (meaning w) gs) (map (meaning w) (map (moved ρ) gs)) a b n s
  unfolding outcome larger_outcome
  gates_alike w [] none a b n s r = (refl, r)
  gates_alike w (g ∷ gs) (also t p) a b n s r =
      step_alike (map (meaning w) gs) (map (meaning w) (map (moved ρ) gs)) a b n s r t (same_gate ρ w g)
      (λ a n s r. gates_alike w gs p a b n s r)
