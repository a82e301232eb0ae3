-- R-7: which words of its lists a call looks at: those between the stored places. Assumes nothing.
use mathlib.Core.Path.{◌≡◌, refl, sym, ap, ap₂, subst, ◌∙◌}
use mathlib.Core.List.{List, [], ◌∷◌, ◌++◌}
use Prim.Native.Nat.{ℕ, suc, ◌+◌, ◌≤◌}
use native.Mathlib.Omega.{arith}
use lib.ListN.{set}
use Rattle.gates.specs.Steps.{at, Exchange, product, refresh, known_product, Step, local, deal, exchange, end, say1, say2, meet, new_at}
use Rattle.gates.specs.Steps.{past_deal, Cursor, origin, past}
use Rattle.gates.specs.Walk.{Conf, walk, far}
use Rattle.gates.specs.Hosts.{Pair, on_mask, act1, word_of1, hear1, act2, word_of2, hear2}
use Rattle.gates.proofs.Needs.{past_used}
use Rattle.calls.specs.declared.Stored.{Stored}
use Rattle.calls.specs.Scripts.{Script}
use Rattle.calls.specs.Lent.{Worker, worker1, worker2, worker_with, lent}
use Rattle.calls.specs.Calls.{State, Answer, fresh2, word_at, spoken_at, counted_to, stored_at, state_of, report, start_walk, start, hear}
use Rattle.runs.proofs.Refusals.{start_none}
use Rattle.demands.specs.Conditions.{used_in}
use Rattle.demands.specs.Completed.{Located}
use Rattle.demands.specs.RememberedPlaces.{SameFrom}
use Rattle.demands.proofs.Completed.{counted_far, heard}

-- ---- cursors only grow

abbrev pub Below : Stored → Stored → Type 0
Below u v = (u.a ≤ v.a) × (u.b ≤ v.b) × (u.deals ≤ v.deals)

pub grows : (x : Step) (c : Cursor) → Below (counted_to c) (counted_to (past x c))
grows x c = let u = past_used x c in (omega (arith, u.a), omega (arith, u.b), omega (arith, u.deals))

pub below_trans : {u v t : Stored} → Below u v → Below v t → Below u t
below_trans p q = (omega (arith, p.0, q.0), omega (arith, p.1, q.1), omega (arith, p.2, q.2))

-- the walk's places where a walk halts
abbrev reached : {S : Type 0} → Conf S → Stored
reached p = stored_at p.rest p.cur

walk_grows : {S : Type 0} (act : Step → Cursor → S → S) (ss : List Step) (c : Cursor) (s : S) (t : List S)
    → Below (counted_to c) (reached (walk act ss c s t))
unfolding walk stored_at
walk_grows act [] c s t = (omega arith, omega arith, omega arith)
walk_grows act (local d m l ∷ ss) c s t = below_trans (grows (local d m l) c) (walk_grows act ss (past (local d m l) c) _ t)
walk_grows act (deal d f ∷ ss) c s t = below_trans (grows (deal d f) c) (walk_grows act ss (past (deal d f) c) _ t)
walk_grows act (exchange d e ∷ ss) c s t = grows (exchange d e) c
walk_grows act (end ∷ ss) c s t = below_trans (grows end c) (walk_grows act ss (past end c) _ _)

-- ---- two hosts that do the same at each step where their lists have the same words from the step's first up to behind its last

pub record Alike (P Q : Worker) (Near : Stored → Stored → Type 0) : Type 0 where
  pub acts : (x : Step) (c : Cursor) (s : Pair) → Near (counted_to c) (counted_to (past x c)) → Q.act x c s ≡ P.act x c s
  pub says : (d : ℕ) (e : Exchange) (c : Cursor) (s : Pair) → Near (counted_to c) (counted_to (past (exchange d e) c))
      → Q.say e c s ≡ P.say e c s
  pub hears : (d : ℕ) (e : Exchange) (c : Cursor) (s : Pair) (v : ℕ) → Near (counted_to c) (counted_to (past (exchange d e) c))
      → Q.hear d e c s v ≡ P.hear d e c s v
  pub shorter : {u v t : Stored} → Below u v → Below v t → Near u t → Near u v × Near v t

module _ (P Q : Worker) (Near : Stored → Stored → Type 0) (k : Alike P Q Near) where
  -- one step, and the walk behind it
  by_step : (x : Step) (ss : List Step) (c : Cursor) (s : Pair) (t : List Pair)
      → ((s : Pair) → Near (counted_to (past x c)) (reached (walk P.act ss (past x c) s t))
      → walk Q.act ss (past x c) s t ≡ walk P.act ss (past x c) s t)
      → Near (counted_to c) (reached (walk P.act ss (past x c) (P.act x c s) t))
      → walk Q.act ss (past x c) (Q.act x c s) t ≡ walk P.act ss (past x c) (P.act x c s) t
  by_step x ss c s t ih n =
      let h = k.shorter (grows x c) (walk_grows P.act ss (past x c) (P.act x c s) t) n in
      ap (λ (z : Pair). walk Q.act ss (past x c) z t) (k.acts x c s h.0) ∙ ih (P.act x c s) h.1

  pub walks_alike : (ss : List Step) (c : Cursor) (s : Pair) (t : List Pair) → Near (counted_to c) (reached (walk P.act ss c s t))
      → walk Q.act ss c s t ≡ walk P.act ss c s t
  unfolding walk stored_at
  walks_alike [] c s t n = refl
  walks_alike (local d m l ∷ ss) c s t n = by_step (local d m l) ss c s t (λ s n. walks_alike ss (past (local d m l) c) s t n) n
  walks_alike (deal d f ∷ ss) c s t n = by_step (deal d f) ss c s t (λ s n. walks_alike ss (past (deal d f) c) s t n) n
  walks_alike (exchange d e ∷ ss) c s t n = refl
  walks_alike (end ∷ ss) c s t n =
      by_step end ss c s (t ++ (s ∷ [])) (λ z n. walks_alike ss (past end c) z (t ++ (s ∷ [])) n) n

  -- the word spoken there
  words_alike : (ss : List Step) (c : Cursor) (s : Pair) (t : List Pair) → Near (counted_to c) (reached (walk P.act ss c s t))
      → let p = walk P.act ss c s t in
      word_at Q.say p.rest p.cur p.state ≡ word_at P.say p.rest p.cur p.state
  unfolding walk stored_at word_at
  words_alike [] c s t n = refl
  words_alike (local d m l ∷ ss) c s t n =
      words_alike ss (past (local d m l) c) _ t (k.shorter (grows (local d m l) c) (walk_grows P.act ss (past (local d m l) c) _ t) n).1
  words_alike (deal d f ∷ ss) c s t n =
      words_alike ss (past (deal d f) c) _ t (k.shorter (grows (deal d f) c) (walk_grows P.act ss (past (deal d f) c) _ t) n).1
  words_alike (exchange d e ∷ ss) c s t n = k.says d e c s n
  words_alike (end ∷ ss) c s t n =
      words_alike ss (past end c) _ _ (k.shorter (grows end c) (walk_grows P.act ss (past end c) _ (t ++ (s ∷ []))) n).1

  pub reports_alike : (ss : List Step) (c : Cursor) (s : Pair) (t : List Pair) → Near (counted_to c) (reached (walk P.act ss c s t))
      → report Q (walk Q.act ss c s t) ≡ report P (walk P.act ss c s t)
  reports_alike ss c s t n =
      let p = walk P.act ss c s t in
      ap (λ (p : Conf Pair). report Q p) (walks_alike ss c s t n)
      ∙ ap (λ (v : ℕ). record { number = 0; index = 0; spoken = spoken_at p.rest p.cur; word = v; state = state_of p })
      (words_alike ss c s t n)

  -- behind a product or refresh, where the other's word was heard
  module _ (d : ℕ) (e : Exchange) (ss : List Step) (c : Cursor) (s : Pair) (v : ℕ)
      (n : Near (counted_to c) (reached (walk P.act ss (past (exchange d e) c) (P.hear d e c s v) []))) where
    abbrev x : Step
    x = exchange d e

    parts : Near (counted_to c) (counted_to (past x c)) × Near (counted_to (past x c)) (reached (walk P.act ss (past x c) (P.hear d e c s v) []))
    parts = k.shorter (grows x c) (walk_grows P.act ss (past x c) (P.hear d e c s v) []) n

    pub hears_alike : report Q (walk Q.act ss (past x c) (Q.hear d e c s v) []) ≡ report P (walk P.act ss (past x c) (P.hear d e c s v) [])
    hears_alike =
        ap (λ (z : Pair). report Q (walk Q.act ss (past x c) z [])) (k.hears d e c s v parts.0)
        ∙ reports_alike ss (past x c) (P.hear d e c s v) [] parts.1

    pub heard_alike : walk Q.act ss (past x c) (Q.hear d e c s v) [] ≡ walk P.act ss (past x c) (P.hear d e c s v) []
    heard_alike =
        ap (λ (z : Pair). walk Q.act ss (past x c) z []) (k.hears d e c s v parts.0)
        ∙ walks_alike ss (past x c) (P.hear d e c s v) [] parts.1

-- ---- host 1: its lists A

same_shorter : (i j n : ℕ) (X Y : List ℕ) → i ≤ j → j ≤ n → SameFrom i n X Y → SameFrom i j X Y × SameFrom j n X Y
same_shorter i j n X Y p q h = (λ k a b. h k a (omega arith), λ k a b. h k (omega arith) b)

module _ (A A' : List ℕ) where
  abbrev pub Near1 : Stored → Stored → Type 0
  Near1 u v = SameFrom u.a v.a A A'

  acts1 : (x : Step) (c : Cursor) (s : Pair) → Near1 (counted_to c) (counted_to (past x c)) → act1 A' x c s ≡ act1 A x c s
  unfolding act1 on_mask past
  acts1 (local d m l) c s n = refl
  acts1 (deal d f) c s n = rw (n c.a (omega arith) (omega arith))
  acts1 (exchange d e) c s n = refl
  acts1 end c s n = refl

  says1 : (d : ℕ) (e : Exchange) (c : Cursor) (s : Pair) → Near1 (counted_to c) (counted_to (past (exchange d e) c))
      → word_of1 A' e c s ≡ word_of1 A e c s
  unfolding word_of1 say1 past new_at
  says1 d (product O a b) c s n = rw (n c.a (omega arith) (omega arith), n (suc c.a) (omega arith) (omega arith))
  says1 d (refresh O a) c s n = rw (n c.a (omega arith) (omega arith))
  says1 d (known_product O a b) c s n = rw (n c.a (omega arith) (omega arith))

  mask1 : (d : ℕ) (e : Exchange) (c : Cursor) → Near1 (counted_to c) (counted_to (past (exchange d e) c))
      → at A' (new_at e c.a) ≡ at A (new_at e c.a)
  unfolding past new_at
  mask1 d (product O a b) c n = sym (n (suc c.a) (omega arith) (omega arith))
  mask1 d (refresh O a) c n = sym (n c.a (omega arith) (omega arith))
  mask1 d (known_product O a b) c n = sym (n c.a (omega arith) (omega arith))

  pub alike1 : Alike (worker1 A) (worker1 A') Near1
  unfolding hear1
  alike1 =
      record {
        acts = acts1;
        says = says1;
        hears = λ d e c s v n.
            ap₂ {C = Pair} (λ (u l : ℕ). (set s.0 d (meet e u v), set s.1 d l)) (says1 d e c s n) (mask1 d e c n);
        shorter = λ {u} {v} {t} p q h. same_shorter u.a v.a t.a A A' p.0 q.0 h;
      }

-- ---- host 2: its list B, and the deals

module _ (B B' D D' : List ℕ) where
  abbrev pub Near2 : Stored → Stored → Type 0
  Near2 u v = SameFrom u.b v.b B B' × SameFrom u.deals v.deals D D'

  acts2 : (x : Step) (c : Cursor) (s : Pair) → Near2 (counted_to c) (counted_to (past x c)) → act2 B' D' x c s ≡ act2 B D x c s
  unfolding act2 on_mask past
  acts2 (local d m l) c s n = refl
  acts2 (deal d f) c s n = rw (n.1 c.deals (omega arith) (omega arith))
  acts2 (exchange d e) c s n = refl
  acts2 end c s n = refl

  says2 : (d : ℕ) (e : Exchange) (c : Cursor) (s : Pair) → Near2 (counted_to c) (counted_to (past (exchange d e) c))
      → word_of2 B' D' e c s ≡ word_of2 B D e c s
  unfolding word_of2 say2 past past_deal
  says2 d (product O a b) c s n = rw (n.1 c.deals (omega arith) (omega arith), n.0 c.b (omega arith) (omega arith))
  says2 d (refresh O a) c s n = rw (n.0 c.b (omega arith) (omega arith))
  says2 d (known_product O a b) c s n = rw (n.0 c.b (omega arith) (omega arith))

  pub alike2 : Alike (worker2 B D) (worker2 B' D') Near2
  unfolding hear2 past
  alike2 =
      record {
        acts = acts2;
        says = says2;
        hears = λ d e c s v n.
            ap₂ {C = Pair} (λ (u l : ℕ). (set s.0 d (meet e v u), set s.1 d l)) (says2 d e c s n)
            (sym (n.0 c.b (omega arith) (omega arith)));
        shorter = λ {u} {v} {t} p q h.
            let b = same_shorter u.b v.b t.b B B' p.1 q.1 h.0 in
            let n = same_shorter u.deals v.deals t.deals D D' p.2 q.2 h.1 in
            ((b.0, n.0), (b.1, n.1));
      }

-- ---- the calls, of a host whose worker is P with the one lists and Q with the others

module _ (h : ℕ) (σ : Script) (M M' D D' : List ℕ) (Near : Stored → Stored → Type 0)
    (k : Alike (worker_with h M D) (worker_with h M' D') Near) where
  pub starts_alike : (r : Pair) → (start (lent h σ M D) r).number ≡ 0 → (start (lent h σ M' D') r).number ≡ 0
      → Near (counted_to origin) (start (lent h σ M D) r).state.stored
      → start (lent h σ M' D') r ≡ start (lent h σ M D) r
  unfolding start_walk
  starts_alike r z z' n =
      let e = (start_none (lent h σ M D) r z).1 in
      (start_none (lent h σ M' D') r z').1
      ∙ reports_alike (worker_with h M D) (worker_with h M' D') Near k σ.steps origin (fresh2 r) []
      (subst (λ (a : Answer). Near (counted_to origin) a.state.stored) e n)
      ∙ sym e

  module _ (s : State) (v : ℕ) (z : (hear (lent h σ M D) s v).number ≡ 0) (l : Located σ.steps origin s.order s.turn)
      (n : Near (used_in l.before) (hear (lent h σ M D) s v).state.stored) where
    abbrev c : Cursor
    c = far l.before origin

    -- the walk behind the word heard
    abbrev on : Worker → Conf Pair
    on W = walk W.act l.behind (past (exchange l.target l.gate) c) (W.hear l.target l.gate c (s.m, s.mask) v) []

    answered : hear (lent h σ M D) s v ≡ report (worker_with h M D) (on (worker_with h M D))
    answered = heard (lent h σ M D) s v l.before l.behind l.target l.gate l.is (sym l.order) (sym l.turn) z

    near : Near (counted_to c) (reached (on (worker_with h M D)))
    near =
        subst (λ (u : Stored). Near u (reached (on (worker_with h M D)))) (sym (counted_far l.before))
        (subst (λ (a : Answer). Near (used_in l.before) a.state.stored) answered n)

    pub hearings_alike : (hear (lent h σ M' D') s v).number ≡ 0 → hear (lent h σ M' D') s v ≡ hear (lent h σ M D) s v
    hearings_alike z' =
        heard (lent h σ M' D') s v l.before l.behind l.target l.gate l.is (sym l.order) (sym l.turn) z'
        ∙ hears_alike (worker_with h M D) (worker_with h M' D') Near k l.target l.gate l.behind c (s.m, s.mask) v near
        ∙ sym answered

    -- and where the walk halts, with the trail
    pub trails_alike : on (worker_with h M' D') ≡ on (worker_with h M D)
    trails_alike =
        heard_alike (worker_with h M D) (worker_with h M' D') Near k l.target l.gate l.behind c (s.m, s.mask) v near
