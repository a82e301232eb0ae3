-- A slot that no step of an order writes keeps its share on the joint walk. Assumes nothing.
use mathlib.Core.Path.{◌≡◌, sym, ap, ◌∙◌}
use mathlib.Core.Bool.{false}
use mathlib.Core.List.{List, [], ◌∷◌, ◌++◌, append_assoc, append-nil}
use Prim.Native.Nat.{ℕ, zero, suc, ◌<◌, ◌≤◌}
use native.Mathlib.Omega.{arith}
use native.Mathlib.Decide.{dec_le}
use borrow.Author.Tests.{eqb-false}
use lib.Dec.{eqb}
use lib.ListN.{get_or, set}
use lib.Seq.{get_or-set_other}
use Rattle.gates.specs.Steps.{Step, local, deal, exchange, end, Cursor, origin, past}
use Rattle.gates.specs.Walk.{whole}
use Rattle.gates.specs.Hosts.{Triple, share, act}
use Rattle.calls.specs.Scripts.{ends, orders_in}
use Rattle.runs.specs.Runs.{Stage}
use Rattle.runs.specs.Orders.{first, trail, after_order, before_order, share_before, share_after, Unwritten}
use Rattle.runs.specs.Readings.{UnwrittenBetween}

module _ (A B : List ℕ) where
  abbrev left : List Step → Cursor → Triple → List Triple
  left ss c j = (whole (act A B) ss c j []).trail

  -- a walk only adds to its trail
  adds : (ss : List Step) (c : Cursor) (j : Triple) (t : List Triple) → (whole (act A B) ss c j t).trail ≡ t ++ left ss c j
  unfolding whole
  adds [] c j t = sym (append-nil t)
  adds (local d m l ∷ ss) c j t = adds ss _ _ t
  adds (deal d f ∷ ss) c j t = adds ss _ _ t
  adds (exchange d e ∷ ss) c j t = adds ss _ _ t
  adds (end ∷ ss) c j t =
      adds ss _ _ (t ++ (j ∷ [])) ∙ append_assoc t (j ∷ []) _ ∙ ap (λ (u : List Triple). t ++ u) (sym (adds ss _ _ (j ∷ [])))

  -- behind the end of an order
  ended : (ss : List Step) (c : Cursor) (j : Triple) → left (end ∷ ss) c j ≡ j ∷ left ss (past end c) j
  unfolding whole act
  ended ss c j = adds ss (past end c) j (j ∷ [])

  pub other_slot : (j : Triple) (d i x y z : ℕ) → eqb i d ≡ false → share (set j.0 d x, set j.1 d y, set j.2 d z) i ≡ share j i
  other_slot j d i x y z h =
      let n : i ≡ d → ⊥ = eqb-false i d h in
      rw (get_or-set_other j.0 d i x 0 n, get_or-set_other j.1 d i y 0 n, get_or-set_other j.2 d i z 0 n)

  -- up to the end of the order in which the walk stands
  kept_first : (i : ℕ) (ss : List Step) (c : Cursor) (j e : Triple) → 0 < ends ss → Unwritten i 0 ss
      → share (get_or (left ss c j) 0 e) i ≡ share j i
  unfolding whole act ends
  kept_first i [] c j e h u = absurd (omega arith)
  kept_first i (local d m l ∷ ss) c j e h u = kept_first i ss _ _ e h u.1 ∙ other_slot j d i _ _ _ u.0
  kept_first i (deal d f ∷ ss) c j e h u = kept_first i ss _ _ e h u.1 ∙ other_slot j d i _ _ _ u.0
  kept_first i (exchange d y ∷ ss) c j e h u = kept_first i ss _ _ e h u.1 ∙ other_slot j d i _ _ _ u.0
  kept_first i (end ∷ ss) c j e h u = ap (λ (t : List Triple). share (get_or t 0 e) i) (ended ss c j)

  -- from the end of an order to the end of the next
  kept_next : (i q : ℕ) (ss : List Step) (c : Cursor) (j e : Triple) → suc q < ends ss → Unwritten i (suc q) ss
      → share (get_or (left ss c j) (suc q) e) i ≡ share (get_or (left ss c j) q e) i
  unfolding whole act ends
  kept_next i q [] c j e h u = absurd (omega arith)
  kept_next i q (local d m l ∷ ss) c j e h u = kept_next i q ss _ _ e h u
  kept_next i q (deal d f ∷ ss) c j e h u = kept_next i q ss _ _ e h u
  kept_next i q (exchange d y ∷ ss) c j e h u = kept_next i q ss _ _ e h u
  kept_next i zero (end ∷ ss) c j e h u =
      ap (λ (t : List Triple). share (get_or t 1 e) i) (ended ss c j)
      ∙ kept_first i ss (past end c) j e (omega arith) u
      ∙ ap (λ (t : List Triple). share (get_or t 0 e) i) (sym (ended ss c j))
  kept_next i (suc q) (end ∷ ss) c j e h u =
      ap (λ (t : List Triple). share (get_or t (suc (suc q)) e) i) (ended ss c j)
      ∙ kept_next i q ss (past end c) j e (omega arith) u
      ∙ ap (λ (t : List Triple). share (get_or t (suc q) e) i) (sym (ended ss c j))

pub slot_kept : (S : Stage) (q i : ℕ) → q < orders_in S.script → Unwritten i q S.script.steps
    → share_after S q i ≡ share_before S q i
unfolding trail after_order before_order
slot_kept S zero i h u = kept_first S.A S.B i S.script.steps origin (first S) (first S) h u
slot_kept S (suc q) i h u = kept_next S.A S.B i q S.script.steps origin (first S) (first S) h u

-- "the register keeps that until an order writes it": from just before order p to just before order q
pub kept_between : (S : Stage) (p i q : ℕ) → p ≤ q → q ≤ orders_in S.script → UnwrittenBetween S p q i
    → share_before S q i ≡ share_before S p i
unfolding before_order
kept_between S p i zero l h u = let e : 0 ≡ p = omega arith in ap (λ (n : ℕ). share_before S n i) e
kept_between S p i (suc q) l h u = go (dec_le p q) (λ k. kept_between S p i q k (omega arith) (λ n a b. u n a (omega arith)))
  where
    go : Dec (p ≤ q) → (p ≤ q → share_before S q i ≡ share_before S p i) → share_before S (suc q) i ≡ share_before S p i
    go (yes k) f = slot_kept S q i (omega arith) (u q k (omega arith)) ∙ f k
    go (no k) f = let e : suc q ≡ p = omega arith in ap (λ (n : ℕ). share_before S n i) e
