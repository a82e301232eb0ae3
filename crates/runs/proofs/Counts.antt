-- The counts that starting and hearing report are the words spoken, and at the end half the script's sum; and the words are those defined
-- at their places. Assumes nothing.
use mathlib.Core.Path.{◌≡◌, refl, ap, ◌∙◌}
use mathlib.Core.Logic.{inl, inr}
use mathlib.Core.List.{List, [], ◌∷◌}
use Prim.Native.Nat.{ℕ, zero, suc, ◌+◌, ◌*◌, ◌<◌}
use native.Mathlib.Omega.{arith}
use Rattle.gates.specs.Steps.{Exchange, product, refresh, known_product, Step, local, deal, exchange, end, Cursor, origin}
use Rattle.gates.specs.Walk.{Conf, conf, next, far}
use Rattle.gates.specs.Hosts.{Triple, act}
use Rattle.gates.specs.Costs.{plus, step_cost, cost}
use Rattle.gates.proofs.Needs.{far_used}
use Rattle.calls.specs.Scripts.{ends, Closed}
use Rattle.calls.specs.Calls.{word_at, spoken_at}
use Rattle.runs.specs.Runs.{Spoken, Among}
use Rattle.runs.specs.InOrder.{defined_words}
use Rattle.runs.proofs.Places.{Halted, pos, ends_pos}
use Rattle.runs.proofs.Ties.{joint, spoken}

-- ---- both hosts speak where one word of B is used

words_twice : (ss : List Step) → (cost ss).words ≡ (cost ss).b * 2
unfolding cost plus step_cost
words_twice [] = refl
words_twice (local d m l ∷ ss) = omega (arith, words_twice ss)
words_twice (deal d f ∷ ss) = omega (arith, words_twice ss)
words_twice (exchange d (product O a b) ∷ ss) = omega (arith, words_twice ss)
words_twice (exchange d (refresh O a) ∷ ss) = omega (arith, words_twice ss)
words_twice (exchange d (known_product O a b) ∷ ss) = omega (arith, words_twice ss)
words_twice (end ∷ ss) = omega (arith, words_twice ss)

module _ (A B : List ℕ) (all : List Step) (j₀ : Triple) (shut : Closed all) where
  abbrev at_n : ℕ → Conf Triple
  at_n n = joint A B all j₀ n

  closed_next : (ss : List Step) (c : Cursor) (j : Triple) (t : List Triple) → Closed ss → Closed (next (act A B) (conf ss c j t)).rest
  closed_next [] c j t h = tt
  closed_next (x ∷ ss) c j t h = h.1

  pub closed_at : (n : ℕ) → Closed (at_n n).rest
  unfolding pos
  closed_at zero = shut
  closed_at (suc n) = closed_next (at_n n).rest (at_n n).cur (at_n n).state (at_n n).trail (closed_at n)

  far_next : (ss : List Step) (c : Cursor) (j : Triple) (t : List Triple)
      → far (next (act A B) (conf ss c j t)).rest (next (act A B) (conf ss c j t)).cur ≡ far ss c
  unfolding far
  far_next [] c j t = refl
  far_next (x ∷ ss) c j t = refl

  pub far_at : (n : ℕ) → far (at_n n).rest (at_n n).cur ≡ far all origin
  unfolding pos
  far_at zero = refl
  far_at (suc n) = far_next (at_n n).rest (at_n n).cur (at_n n).state (at_n n).trail ∙ far_at n

  -- where a walk halts: at a product or refresh some order is left; at the end none
  pub record CountsAt (n : ℕ) : Type 0 where
    pub before_end : (at_n n).cur.order < ends all → spoken_at (at_n n).rest (at_n n).cur ≡ suc (at_n n).cur.b
    pub at_end : (at_n n).cur.order ≡ ends all
        → (spoken_at (at_n n).rest (at_n n).cur ≡ (at_n n).cur.b) × ((at_n n).cur.b * 2 ≡ (cost all).words)

  stands_at : (ss : List Step) (c : Cursor) → Halted ss → Closed ss → ends ss + c.order ≡ ends all → far ss c ≡ far all origin
      → (c.order < ends all → spoken_at ss c ≡ suc c.b) × (c.order ≡ ends all → (spoken_at ss c ≡ c.b) × (c.b * 2 ≡ (cost all).words))
  unfolding spoken_at ends far
  stands_at [] c k h e f =
      (λ l. absurd (omega arith), λ l. (refl, omega (arith, (far_used all origin).b, words_twice all, ap (λ (x : Cursor). x.b) f)))
  stands_at (local d m l ∷ ss) c k h e f = absurd k
  stands_at (deal d g ∷ ss) c k h e f = absurd k
  stands_at (exchange d y ∷ ss) c k h e f = (λ l. refl, λ l. absurd (omega (arith, h.0)))
  stands_at (end ∷ ss) c k h e f = absurd k

  pub stands : (n : ℕ) → Halted (at_n n).rest → CountsAt n
  stands n k =
      let p = stands_at (at_n n).rest (at_n n).cur k (closed_at n) (ends_pos (act A B) all j₀ n) (far_at n) in
      record { before_end = p.0; at_end = p.1 }

-- ---- the words at halting positions are among those defined

module _ (A B : List ℕ) (all : List Step) (j₀ : Triple) where
  abbrev from_n : ℕ → Conf Triple
  from_n n = joint A B all j₀ n

  among_next : (say : Exchange → Cursor → Triple → ℕ) (ss : List Step) (c : Cursor) (j : Triple) (t : List Triple) (p : Spoken)
      → Among p (defined_words A B say (next (act A B) (conf ss c j t)).rest (next (act A B) (conf ss c j t)).cur
      (next (act A B) (conf ss c j t)).state) → Among p (defined_words A B say ss c j)
  unfolding defined_words
  among_next say [] c j t p m = m
  among_next say (local d f l ∷ ss) c j t p m = m
  among_next say (deal d f ∷ ss) c j t p m = m
  among_next say (exchange d e ∷ ss) c j t p m = inr m
  among_next say (end ∷ ss) c j t p m = m

  among_from : (say : Exchange → Cursor → Triple → ℕ) (n : ℕ) (p : Spoken)
      → Among p (defined_words A B say (from_n n).rest (from_n n).cur (from_n n).state) → Among p (defined_words A B say all origin j₀)
  unfolding pos
  among_from say zero p m = m
  among_from say (suc n) p m = among_from say n p (among_next say (from_n n).rest (from_n n).cur (from_n n).state (from_n n).trail p m)

  among_here : (say : Exchange → Cursor → Triple → ℕ) (ss : List Step) (c : Cursor) (j : Triple) → Halted ss
      → Among (c.order, c.turn, word_at say ss c j) (defined_words A B say ss c j)
  unfolding defined_words word_at
  among_here say [] c j k = inl refl
  among_here say (local d m l ∷ ss) c j k = absurd k
  among_here say (deal d f ∷ ss) c j k = absurd k
  among_here say (exchange d e ∷ ss) c j k = inl refl
  among_here say (end ∷ ss) c j k = absurd k

  pub among_defined : (say : Exchange → Cursor → Triple → ℕ) (n : ℕ) → Halted (from_n n).rest
      → Among (spoken A B all j₀ say n) (defined_words A B say all origin j₀)
  among_defined say n k = among_from say n _ (among_here say (from_n n).rest (from_n n).cur (from_n n).state k)
