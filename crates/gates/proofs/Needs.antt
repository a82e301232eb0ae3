-- What a list of steps needs of A, of B and of the deals, and what it speaks, as sums over the list; what the lists hold beyond does not
-- matter. Assumes nothing.
use mathlib.Core.Path.{◌≡◌, refl, sym, ap, ◌∙◌}
use mathlib.Core.List.{List, [], ◌∷◌, ◌++◌}
use Prim.Native.Nat.{ℕ, ◌*◌, suc, ◌+◌, ◌≤◌, ◌<◌}
use native.Mathlib.Nat.{zero-add}
use native.Mathlib.Omega.{arith}
use lib.ListN.{length}
use Rattle.gates.specs.Steps.{at, Exchange, product, refresh, known_product, Step, local, deal, exchange, end, new_at, past_deal, emit}
use Rattle.gates.specs.Steps.{Cursor, past}
use Rattle.gates.specs.Costs.{Cost, plus, step_cost, cost}
use Rattle.gates.specs.Duet.{utter, words}
use Rattle.gates.specs.Walk.{whole, far}
use Rattle.gates.specs.Hosts.{Pair, Triple, of0, act0, dealt, deals, act, joint1, joint2}
use Rattle.gates.proofs.LaneByLane.{of0_act}

pub whole_cursor : {S : Type 0} (f : Step → Cursor → S → S) (ss : List Step) (c : Cursor) (s : S) (t : List S)
    → (whole f ss c s t).cur ≡ far ss c
unfolding whole far
whole_cursor f [] c s t = refl
whole_cursor f (x ∷ ss) c s t = whole_cursor f ss _ _ _

-- one list of steps after another
pub whole_append : {S : Type 0} (f : Step → Cursor → S → S) (ss ts : List Step) (c : Cursor) (s : S) (t : List S)
    → whole f (ss ++ ts) c s t ≡ whole f ts (whole f ss c s t).cur (whole f ss c s t).state (whole f ss c s t).trail
unfolding whole
whole_append f [] ts c s t = refl
whole_append f (x ∷ ss) ts c s t = whole_append f ss ts _ _ _

-- ---- the counts are sums over the list

pub cost_path : {x y : Cost} → x.deals ≡ y.deals → x.words ≡ y.words → x.a ≡ y.a → x.b ≡ y.b → x ≡ y
cost_path p q r s = λ i. record { deals = p i; words = q i; a = r i; b = s i }

pub cost_append : (ss ts : List Step) → cost (ss ++ ts) ≡ plus (cost ss) (cost ts)
unfolding cost plus
cost_append [] ts = cost_path (omega arith) (omega arith) (omega arith) (omega arith)
cost_append (x ∷ ss) ts = rw (cost_append ss ts) (cost_path (omega arith) (omega arith) (omega arith) (omega arith))

-- the cursor e is further than c by the counts k
pub record Further (c : Cursor) (k : Cost) (e : Cursor) : Type 0 where
  pub a : e.a ≡ c.a + k.a
  pub b : e.b ≡ c.b + k.b
  pub deals : e.deals ≡ c.deals + k.deals

pub past_used : (x : Step) (c : Cursor) → Further c (step_cost x) (past x c)
unfolding past step_cost new_at past_deal
past_used (local d m l) c = omega arith
past_used (deal d f) c = omega arith
past_used (exchange d (product O a b)) c = omega arith
past_used (exchange d (refresh O a)) c = omega arith
past_used (exchange d (known_product O a b)) c = omega arith
past_used end c = omega arith

pub far_used : (ss : List Step) (c : Cursor) → Further c (cost ss) (far ss c)
unfolding far cost plus
far_used [] c = omega arith
far_used (x ∷ ss) c =
    let p : Further c (step_cost x) (past x c) = past_used x c in
    let q : Further (past x c) (cost ss) (far ss (past x c)) = far_used ss (past x c) in
    record { a = omega arith; b = omega arith; deals = omega arith }

-- the two hosts speak as many words as are counted
utter_length : {S : Type 0} (say : Exchange → Cursor → S → ℕ) (x : Step) (c : Cursor) (s : S) (ws : List ℕ)
    → length (utter say x c s ws) * 2 ≡ (step_cost x).words + length ws * 2
unfolding utter step_cost
utter_length say (local d m l) c s ws = omega arith
utter_length say (deal d f) c s ws = omega arith
utter_length say (exchange d (product O a b)) c s ws = omega arith
utter_length say (exchange d (refresh O a)) c s ws = omega arith
utter_length say (exchange d (known_product O a b)) c s ws = omega arith
utter_length say end c s ws = omega arith

pub words_length : {S : Type 0} (f : Step → Cursor → S → S) (say : Exchange → Cursor → S → ℕ) (ss : List Step) (c : Cursor) (s : S)
    → length (words f say ss c s) * 2 ≡ (cost ss).words
unfolding words cost plus
words_length f say [] c s = refl
words_length f say (x ∷ ss) c s = omega (
  arith,
  utter_length say x c s (words f say ss (past x c) (f x c s)),
  words_length f say ss (past x c) (f x c s),
)

-- preparation writes as many deals as the steps need
emitted : (e : Exchange) (x n : ℕ) (ds : List ℕ) → length (emit e x ds) + n ≡ length ds + past_deal e n
unfolding emit past_deal
emitted (product O a b) x n ds = omega arith
emitted (refresh O a) x n ds = refl
emitted (known_product O a b) x n ds = refl

swap : (n k : ℕ) → suc n + k ≡ n + suc k
swap n k = omega arith

deals_far : (A B : List ℕ) (ss : List Step) (c : Cursor) (s : Pair) → length (deals A B ss c s) + c.deals ≡ (far ss c).deals
unfolding deals dealt far past
deals_far A B [] c s = zero-add c.deals
deals_far A B (local d m l ∷ ss) c s = deals_far A B ss _ _
deals_far A B (deal d f ∷ ss) c s = swap _ c.deals ∙ deals_far A B ss _ _
deals_far A B (exchange d e ∷ ss) c s = emitted e _ c.deals _ ∙ deals_far A B ss _ _
deals_far A B (end ∷ ss) c s = deals_far A B ss _ _

pub deals_length : (A B : List ℕ) (ss : List Step) (c : Cursor) (s : Pair) → length (deals A B ss c s) ≡ (cost ss).deals
deals_length A B ss c s = omega (arith, deals_far A B ss c s, (far_used ss c).deals)

-- ---- what stands behind the needs does not matter

-- cursors only grow
past_grows : (x : Step) (c : Cursor) → (c.a ≤ (past x c).a) × (c.b ≤ (past x c).b)
unfolding past new_at
past_grows (local d m l) c = omega arith
past_grows (deal d f) c = omega arith
past_grows (exchange d (product O a b)) c = omega arith
past_grows (exchange d (refresh O a)) c = omega arith
past_grows (exchange d (known_product O a b)) c = omega arith
past_grows end c = omega arith

far_grows : (ss : List Step) (c : Cursor) → (c.a ≤ (far ss c).a) × (c.b ≤ (far ss c).b)
unfolding far
far_grows [] c = omega arith
far_grows (x ∷ ss) c = omega (arith, past_grows x c, far_grows ss (past x c))

-- the same words up to place n
abbrev pub Alike : List ℕ → List ℕ → ℕ → Type 0
Alike X Y n = (i : ℕ) → i < n → at X i ≡ at Y i

module _ (A A' B B' : List ℕ) where
  act_alike : (x : Step) (c : Cursor) (j : Triple) → Alike A A' (past x c).a → Alike B B' (past x c).b → act A B x c j ≡ act A' B' x c j
  unfolding act joint1 joint2 past new_at
  act_alike (local d m l) c j h k = refl
  act_alike (deal d f) c j h k = rw (h c.a (omega arith))
  act_alike (exchange d (product O a b)) c j h k = rw (h c.a (omega arith), h (suc c.a) (omega arith), k c.b (omega arith))
  act_alike (exchange d (refresh O a)) c j h k = rw (h c.a (omega arith), k c.b (omega arith))
  act_alike (exchange d (known_product O a b)) c j h k = rw (h c.a (omega arith), k c.b (omega arith))
  act_alike end c j h k = refl

  pub whole_alike : (ss : List Step) (c : Cursor) (j : Triple) (t : List Triple) → Alike A A' (far ss c).a → Alike B B' (far ss c).b
      → whole (act A B) ss c j t ≡ whole (act A' B') ss c j t
  unfolding whole far
  whole_alike [] c j t h k = refl
  whole_alike (x ∷ ss) c j t h k =
      let g = far_grows ss (past x c) in
      rw (act_alike x c j (λ i l. h i (omega arith)) (λ i l. k i (omega arith))) (whole_alike ss _ _ _ h k)

  -- nor for the words that the two hosts speak

  abbrev Says : (say say' : Exchange → Cursor → Triple → ℕ) → Type 0
  Says say say' =
      (d : ℕ) (e : Exchange) (c : Cursor) (j : Triple) → Alike A A' (past (exchange d e) c).a → Alike B B' (past (exchange d e) c).b
      → say e c j ≡ say' e c j

  says1 : Says (joint1 A B) (joint1 A' B')
  unfolding joint1 past new_at
  says1 d (product O a b) c j h k = rw (h c.a (omega arith), h (suc c.a) (omega arith))
  says1 d (refresh O a) c j h k = rw (h c.a (omega arith))
  says1 d (known_product O a b) c j h k = rw (h c.a (omega arith))

  says2 : Says (joint2 A B) (joint2 A' B')
  unfolding joint2 past new_at
  says2 d (product O a b) c j h k = rw (h c.a (omega arith), k c.b (omega arith))
  says2 d (refresh O a) c j h k = rw (h c.a (omega arith), k c.b (omega arith))
  says2 d (known_product O a b) c j h k = rw (h c.a (omega arith), k c.b (omega arith))

  module _ (say say' : Exchange → Cursor → Triple → ℕ) (same : Says say say') where
    utter_alike : (x : Step) (c : Cursor) (j : Triple) (ws : List ℕ) → Alike A A' (past x c).a → Alike B B' (past x c).b
        → utter say x c j ws ≡ utter say' x c j ws
    unfolding utter
    utter_alike (local d m l) c j ws h k = refl
    utter_alike (deal d f) c j ws h k = refl
    utter_alike (exchange d e) c j ws h k = ap (λ (v : ℕ). v ∷ ws) (same d e c j h k)
    utter_alike end c j ws h k = refl

    words_alike : (ss : List Step) (c : Cursor) (j : Triple) → Alike A A' (far ss c).a → Alike B B' (far ss c).b
        → words (act A B) say ss c j ≡ words (act A' B') say' ss c j
    unfolding words far
    words_alike [] c j h k = refl
    words_alike (x ∷ ss) c j h k =
        let g = far_grows ss (past x c) in
        let hx : Alike A A' (past x c).a = λ i l. h i (omega arith) in
        let kx : Alike B B' (past x c).b = λ i l. k i (omega arith) in
        utter_alike x c j _ hx kx ∙ ap (utter say' x c j) (rw (act_alike x c j hx kx) (words_alike ss _ _ h k))

  pub words1_alike : (ss : List Step) (c : Cursor) (j : Triple) → Alike A A' (far ss c).a → Alike B B' (far ss c).b
      → words (act A B) (joint1 A B) ss c j ≡ words (act A' B') (joint1 A' B') ss c j
  words1_alike = words_alike (joint1 A B) (joint1 A' B') says1

  pub words2_alike : (ss : List Step) (c : Cursor) (j : Triple) → Alike A A' (far ss c).a → Alike B B' (far ss c).b
      → words (act A B) (joint2 A B) ss c j ≡ words (act A' B') (joint2 A' B') ss c j
  words2_alike = words_alike (joint2 A B) (joint2 A' B') says2

  -- nor for host 0's deals; its lanes are the joint walk's, whatever m is

  act0_alike : (x : Step) (c : Cursor) (s : Pair) → Alike A A' (past x c).a → Alike B B' (past x c).b → act0 A B x c s ≡ act0 A' B' x c s
  act0_alike x c s h k =
      let j : Triple = ([], s.0, s.1) in
      of0_act A B x c j ∙ ap {B = Pair} of0 (act_alike x c j h k) ∙ sym (of0_act A' B' x c j)

  dealt_alike : (x : Step) (c : Cursor) (s : Pair) (ds : List ℕ) → Alike A A' (past x c).a → dealt A B x c s ds ≡ dealt A' B' x c s ds
  unfolding dealt past new_at
  dealt_alike (local d m l) c s ds h = refl
  dealt_alike (deal d f) c s ds h = rw (h c.a (omega arith))
  dealt_alike (exchange d (product O a b)) c s ds h = rw (h c.a (omega arith))
  dealt_alike (exchange d (refresh O a)) c s ds h = rw (h c.a (omega arith))
  dealt_alike (exchange d (known_product O a b)) c s ds h = rw (h c.a (omega arith))
  dealt_alike end c s ds h = refl

  pub deals_alike : (ss : List Step) (c : Cursor) (s : Pair) → Alike A A' (far ss c).a → Alike B B' (far ss c).b
      → deals A B ss c s ≡ deals A' B' ss c s
  unfolding deals far
  deals_alike [] c s h k = refl
  deals_alike (x ∷ ss) c s h k =
      let g = far_grows ss (past x c) in
      let hx : Alike A A' (past x c).a = λ i l. h i (omega arith) in
      dealt_alike x c s _ hx ∙ ap (dealt A' B' x c s) (rw (act0_alike x c s hx (λ i l. k i (omega arith))) (deals_alike ss _ _ h k))
