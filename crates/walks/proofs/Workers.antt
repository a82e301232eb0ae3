-- Host 1 or 2 at one step, by the step's shape: its lanes where no word is exchanged, its new mask, its word, and its
-- lanes when it has heard the other's; none of them depends on the place. Assumes nothing.
use mathlib.Core.Path.{◌≡◌, refl, sym, ap, ◌∙◌}
use mathlib.Core.Bool.{Bool, true, false, cond}
use mathlib.Core.List.{List, [], ◌∷◌}
use Prim.Native.Nat.{ℕ, suc, ◌+◌}
use native.Mathlib.Numerals.{add-one}
use native.Mathlib.Omega.{arith}
use borrow.Author.Tests.{eq-eqb, ne_eqb}
use lib.Dec.{eqb}
use lib.ListN.{set}
use Rattle.gates.specs.declared.Shape.{Shape}
use Rattle.gates.specs.declared.Shape.TheVariants.{Local, Dealing, Product, Undealt}
use Rattle.gates.specs.declared.Used.{Used}
use Rattle.gates.specs.Costs.{step_cost, used_at}
use Rattle.gates.specs.Steps.{Lane, at, Exchange, product, refresh, known_product, Step, local, deal, exchange, end, new_at, Cursor}
use Rattle.gates.specs.Hosts.{Pair, on_m, on_mask, act1, act2, word_of1, word_of2, hear1, hear2}
use Rattle.gates.specs.Speech.{spoken1, spoken2, met, shape}
use Rattle.calls.specs.Lent.{Worker, worker1, worker2, worker_with}
use Rattle.calls.specs.Calls.{word_at}
use Rattle.walks.specs.Workers.{cursor, deal_taken, first_at, new_mask, sum_of, heard_at}

-- ---- where no word is exchanged

pub acts : (h : ℕ) (M D : List ℕ) (y : Step) (c : Cursor) (s : Pair)
    → (worker_with h M D).act y c s ≡ (on_m y s.0, on_mask y (deal_taken h M D c.a c.deals) s.1)
unfolding worker_with deal_taken act1 act2
acts h M D y c s = go (eqb h 1)
  where
    go : (b : Bool) → (cond {A = Worker} b (worker1 M) (worker2 M D)).act y c s
        ≡ (on_m y s.0, on_mask y (cond b (at M c.a) (at D c.deals)) s.1)
    go true = refl
    go false = refl

pub acts_end : (h : ℕ) (M D : List ℕ) (c : Cursor) (s : Pair) → (worker_with h M D).act end c s ≡ s
unfolding on_m on_mask
acts_end h M D c s = acts h M D end c s

-- ---- the new mask

-- host 1's stands after g1 where a step uses two words of A
first_after : (y : Step) (a : ℕ) → (used_at y).a ≡ 2 → first_at y a ≡ suc a
unfolding used_at step_cost first_at new_at
first_after (local d m l) a e = absurd (omega arith)
first_after (deal d f) a e = absurd (omega arith)
first_after (exchange d (product O p q)) a e = refl
first_after (exchange d (refresh O p)) a e = absurd (omega arith)
first_after (exchange d (known_product O p q)) a e = absurd (omega arith)
first_after end a e = absurd (omega arith)

first_next : (y : Step) (a : ℕ) → ((used_at y).a ≡ 2 → ⊥) → first_at y a ≡ a
unfolding used_at step_cost first_at new_at
first_next (local d m l) a n = refl
first_next (deal d f) a n = refl
first_next (exchange d (product O p q)) a n = absurd (n refl)
first_next (exchange d (refresh O p)) a n = refl
first_next (exchange d (known_product O p q)) a n = refl
first_next end a n = refl

-- ---- the word spoken, and the lanes when the other's is heard

-- the word spoken, with the new mask
abbrev words : Bool → (M D : List ℕ) → Step → (a dealt new : ℕ) → Pair → ℕ
words t M D y a n new s = cond t (spoken1 y s.0 s.1 (at M a) new) (spoken2 y s.0 s.1 (at D n) new)

abbrev host : Bool → (M D : List ℕ) → Worker
host t M D = cond t (worker1 M) (worker2 M D)

-- the lanes when the sum of the two words is written, with the new mask
abbrev pub heard_by : Shape → (sum new : ℕ) → Pair → Pair
heard_by Local v n s = s
heard_by (Dealing d) v n s = s
heard_by (Product d) v n s = (set s.0 d v, set s.1 d n)
heard_by (Undealt d) v n s = (set s.0 d v, set s.1 d n)

module _ (M D : List ℕ) (o x a b dealt : ℕ) (s : Pair) where
  -- the new mask of an exchange
  abbrev Renews : Bool → Step → (new : ℕ) → Type 0
  Renews t y new = (d : ℕ) (e : Exchange) → y ≡ exchange d e → new ≡ cond t (at M (new_at e a)) (at M b)

  word_if : (t : Bool) (y : Step) (new : ℕ) → Renews t y new
      → word_at (host t M D).say (y ∷ []) (cursor o x a b dealt) s ≡ words t M D y a dealt new s
  unfolding word_at spoken1 spoken2 word_of1 word_of2
  word_if true (local d m l) new h = refl
  word_if true (deal d f) new h = refl
  word_if true (exchange d e) new h = rw (h d e refl)
  word_if true end new h = refl
  word_if false (local d m l) new h = refl
  word_if false (deal d f) new h = refl
  word_if false (exchange d e) new h = rw (h d e refl)
  word_if false end new h = refl

  heard_if : (t : Bool) (y : Step) (new own v : ℕ) → Renews t y new
      → own ≡ word_at (host t M D).say (y ∷ []) (cursor o x a b dealt) s
      → heard_at (host t M D) y (cursor o x a b dealt) s v
      ≡ heard_by (shape y) (cond t (met y own v) (met y v own)) new s
  unfolding word_at heard_at shape met hear1 hear2
  heard_if true (local d m l) new own v h p = refl
  heard_if true (deal d f) new own v h p = refl
  heard_if true (exchange d (product O i j)) new own v h p = rw (h d (product O i j) refl, p)
  heard_if true (exchange d (refresh O i)) new own v h p = rw (h d (refresh O i) refl, p)
  heard_if true (exchange d (known_product O i j)) new own v h p = rw (h d (known_product O i j) refl, p)
  heard_if true end new own v h p = refl
  heard_if false (local d m l) new own v h p = refl
  heard_if false (deal d f) new own v h p = refl
  heard_if false (exchange d (product O i j)) new own v h p = rw (h d (product O i j) refl, p)
  heard_if false (exchange d (refresh O i)) new own v h p = rw (h d (refresh O i) refl, p)
  heard_if false (exchange d (known_product O i j)) new own v h p = rw (h d (known_product O i j) refl, p)
  heard_if false end new own v h p = refl

  module _ (h : ℕ) (y : Step) where
    new_here : Renews (eqb h 1) y (new_mask h M y a b)
    unfolding new_mask first_at
    new_here d e p = rw p

    pub word_by : word_at (worker_with h M D).say (y ∷ []) (cursor o x a b dealt) s
        ≡ words (eqb h 1) M D y a dealt (new_mask h M y a b) s
    unfolding worker_with
    word_by = word_if (eqb h 1) y (new_mask h M y a b) new_here

    pub heard_as : (own v : ℕ) → own ≡ word_at (worker_with h M D).say (y ∷ []) (cursor o x a b dealt) s
        → heard_at (worker_with h M D) y (cursor o x a b dealt) s v
        ≡ heard_by (shape y) (sum_of h y own v) (new_mask h M y a b) s
    unfolding worker_with sum_of
    heard_as own v p = heard_if (eqb h 1) y (new_mask h M y a b) own v new_here p

-- ---- the place does not matter

module _ (h : ℕ) (M D : List ℕ) (y : Step) (o x a b dealt : ℕ) (s : Pair) where
  pub word_any : word_at (worker_with h M D).say (y ∷ []) (cursor 0 0 a b dealt) s
      ≡ word_at (worker_with h M D).say (y ∷ []) (cursor o x a b dealt) s
  word_any = word_by M D 0 0 a b dealt s h y ∙ sym (word_by M D o x a b dealt s h y)

  pub heard_any : (v : ℕ) → heard_at (worker_with h M D) y (cursor o x a b dealt) s v
      ≡ heard_at (worker_with h M D) y (cursor 0 0 a b dealt) s v
  heard_any v = heard_as M D o x a b dealt s h y _ v word_any ∙ sym (heard_as M D 0 0 a b dealt s h y _ v refl)

-- ---- as the code has them in hand: what it found to be used, and its test of the host

module _ (h : ℕ) (M : List ℕ) (y : Step) (a b : ℕ) where
  module _ (u : Used) (e : u ≡ used_at y) (one : h ≡ 1) where
    pub mask_after : u.a ≡ 2 → at M (a + 1) ≡ new_mask h M y a b
    unfolding new_mask
    mask_after p = rw (eq-eqb h 1 one, first_after y a (sym (ap (λ (v : Used). v.a) e) ∙ p), add-one)

    pub mask_next : (u.a ≡ 2 → ⊥) → at M a ≡ new_mask h M y a b
    unfolding new_mask
    mask_next n = rw (eq-eqb h 1 one, first_next y a (λ z. n (ap (λ (v : Used). v.a) e ∙ z)))

  pub mask_of_b : (h ≡ 1 → ⊥) → at M b ≡ new_mask h M y a b
  unfolding new_mask
  mask_of_b n = rw (ne_eqb h 1 n)

module _ (M D : List ℕ) (a b dealt : ℕ) (m l : Lane) (h : ℕ) (y : Step) where
  -- the word that the host speaks, at whatever place
  abbrev own_word : ℕ
  own_word = word_at (worker_with h M D).say (y ∷ []) (cursor 0 0 a b dealt) (m, l)

  module _ (x new : ℕ) (en : new ≡ new_mask h M y a b) where
    pub says_1 : x ≡ at M a → h ≡ 1 → spoken1 y m l x new ≡ own_word
    says_1 p q = rw (p, en) (sym (word_by M D 0 0 a b dealt (m, l) h y ∙ rw (eq-eqb h 1 q)))

    pub says_2 : x ≡ at D dealt → (h ≡ 1 → ⊥) → spoken2 y m l x new ≡ own_word
    says_2 p q = rw (p, en) (sym (word_by M D 0 0 a b dealt (m, l) h y ∙ rw (ne_eqb h 1 q)))

  module _ (own v new sum : ℕ) (sh : Shape) (e : sh ≡ shape y) (eo : own ≡ own_word)
      (en : new ≡ new_mask h M y a b) (es : sum ≡ sum_of h y own v) where
    pub hears : (t : Shape) → sh ≡ t
        → heard_by t sum new (m, l) ≡ heard_at (worker_with h M D) y (cursor 0 0 a b dealt) (m, l) v
    hears t p =
        sym (heard_as M D 0 0 a b dealt (m, l) h y own v eo
        ∙ rw (← es, ← en) (ap (λ (z : Shape). heard_by z sum new (m, l)) (sym e ∙ p)))
