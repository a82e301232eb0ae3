-- A walk goes by what is left of the lists: what is seen, dealt and held on a walk of the joint kind. Assumes nothing.
use mathlib.Core.Path.{◌≡◌, refl, ap, ap₂, ◌∙◌}
use mathlib.Core.List.{List, [], ◌∷◌}
use Prim.Native.Nat.{ℕ, ◌+◌}
use native.Mathlib.Nat.{add-zero}
use native.Mathlib.Omega.{arith}
use lib.ListN.{drop, get_or}
use lib.Seq.{drop-drop, get_or-drop}
use Rattle.gates.specs.Steps.{at, Exchange, product, refresh, known_product, Step, local, deal, exchange, end, new_at, Cursor, origin, past}
use Rattle.gates.specs.Hosts.{Triple, of0, joint1, joint2, act, dealt, deals}
use Rattle.gates.specs.Duet.{utter, words}
use Rattle.gates.specs.Costs.{plus, step_cost, cost}
use Rattle.gates.proofs.Needs.{past_used}
use Rattle.gates.proofs.LaneByLane.{of0_act}
use Rattle.privacy.specs.Unseen.{side1, side2}
use Rattle.privacy.proofs.Sight.{need, told, hears1, hears2, is_dealt}

at_front : (n : ℕ) (l : List ℕ) → at (drop n l) 0 ≡ at l n
at_front n l = get_or-drop n l 0 0 ∙ ap (λ (i : ℕ). get_or l i 0) (add-zero n)

at_new : (e : Exchange) (n : ℕ) (l : List ℕ) → at (drop n l) (new_at e 0) ≡ at l (new_at e n)
unfolding new_at
at_new (product O a b) n l = get_or-drop n l 1 0 ∙ ap (λ (i : ℕ). get_or l i 0) (omega arith)
at_new (refresh O a) n l = at_front n l
at_new (known_product O a b) n l = at_front n l

pub used_a : (x : Step) → (past x origin).a ≡ (step_cost x).a
used_a x = omega (arith, (past_used x origin).a)

pub used_b : (x : Step) → (past x origin).b ≡ (step_cost x).b
used_b x = omega (arith, (past_used x origin).b)

module _ (A B : List ℕ) where
  tail_a : (x : Step) (c : Cursor) → drop (past x origin).a (drop c.a A) ≡ drop (past x c).a A
  tail_a x c =
      let e : c.a + (past x origin).a ≡ (past x c).a = omega (arith, used_a x, (past_used x c).a) in
      drop-drop (past x origin).a c.a A ∙ ap (λ (n : ℕ). drop n A) e

  tail_b : (x : Step) (c : Cursor) → drop (past x origin).b (drop c.b B) ≡ drop (past x c).b B
  tail_b x c =
      let e : c.b + (past x origin).b ≡ (past x c).b = omega (arith, used_b x, (past_used x c).b) in
      drop-drop (past x origin).b c.b B ∙ ap (λ (n : ℕ). drop n B) e

  said1 : (e : Exchange) (c : Cursor) (j : Triple) → joint1 (drop c.a A) (drop c.b B) e origin j ≡ joint1 A B e c j
  unfolding joint1
  said1 e c j = rw (at_front c.a A, at_new e c.a A)

  said2 : (e : Exchange) (c : Cursor) (j : Triple) → joint2 (drop c.a A) (drop c.b B) e origin j ≡ joint2 A B e c j
  unfolding joint2
  said2 e c j = rw (at_front c.a A, at_front c.b B)

  acted : (x : Step) (c : Cursor) (j : Triple) → act (drop c.a A) (drop c.b B) x origin j ≡ act A B x c j
  unfolding act
  acted (local d m l) c j = refl
  acted (deal d f) c j = rw (at_front c.a A)
  acted (exchange d e) c j = rw (said1 e c j, said2 e c j, at_new e c.a A, at_front c.b B)
  acted end c j = refl

  module _ (say : (A B : List ℕ) → Exchange → Cursor → Triple → ℕ)
      (same : (e : Exchange) (c : Cursor) (j : Triple) → say (drop c.a A) (drop c.b B) e origin j ≡ say A B e c j) where
    uttered : (x : Step) (c : Cursor) (j : Triple) (ws : List ℕ)
        → utter (say (drop c.a A) (drop c.b B)) x origin j ws ≡ utter (say A B) x c j ws
    unfolding utter
    uttered (local d m l) c j ws = refl
    uttered (deal d f) c j ws = refl
    uttered (exchange d e) c j ws = ap (λ (v : ℕ). v ∷ ws) (same e c j)
    uttered end c j ws = refl

  dealt_on : (x : Step) (c : Cursor) (j : Triple) (ds : List ℕ)
      → dealt (drop c.a A) (drop c.b B) x origin (of0 j) ds ≡ dealt A B x c (of0 j) ds
  unfolding dealt
  dealt_on (local d m l) c j ds = refl
  dealt_on (deal d f) c j ds = rw (at_front c.a A)
  dealt_on (exchange d e) c j ds = rw (at_front c.a A)
  dealt_on end c j ds = refl

  -- host 1 hears host 2's words
  pub heard_by_1 : (ss : List Step) (c : Cursor) (j : Triple)
      → told side1 hears1 ss (drop c.a A) (drop c.b B) j ≡ words (act A B) (joint2 A B) ss c j
  unfolding told words
  heard_by_1 [] c j = refl
  heard_by_1 (x ∷ ss) c j =
      uttered joint2 said2 x c j _
      ∙ ap (utter (joint2 A B) x c j) (rw (tail_a x c, tail_b x c, acted x c j) (heard_by_1 ss (past x c) (act A B x c j)))

  -- host 2 hears host 1's
  pub heard_by_2 : (ss : List Step) (c : Cursor) (j : Triple)
      → told side2 hears2 ss (drop c.b B) (drop c.a A) j ≡ words (act A B) (joint1 A B) ss c j
  unfolding told words
  heard_by_2 [] c j = refl
  heard_by_2 (x ∷ ss) c j =
      uttered joint1 said1 x c j _
      ∙ ap (utter (joint1 A B) x c j) (rw (tail_a x c, tail_b x c, acted x c j) (heard_by_2 ss (past x c) (act A B x c j)))

  -- and is dealt what host 0 deals
  pub dealt_to_2 : (ss : List Step) (c : Cursor) (j : Triple)
      → told side2 is_dealt ss (drop c.b B) (drop c.a A) j ≡ deals A B ss c (of0 j)
  unfolding told deals
  dealt_to_2 [] c j = refl
  dealt_to_2 (x ∷ ss) c j =
      dealt_on x c j _
      ∙ ap (dealt A B x c (of0 j)) (rw (tail_a x c, tail_b x c, acted x c j, of0_act A B x c j) (dealt_to_2 ss (past x c) (act A B x c j)))

-- the need is the count
pub need1 : (ss : List Step) → need side1 ss ≡ (cost ss).b
unfolding need cost plus
need1 [] = refl
need1 (x ∷ ss) = ap₂ ◌+◌ (used_b x) (need1 ss)

pub need2 : (ss : List Step) → need side2 ss ≡ (cost ss).a
unfolding need cost plus
need2 [] = refl
need2 (x ∷ ss) = ap₂ ◌+◌ (used_a x) (need2 ss)
