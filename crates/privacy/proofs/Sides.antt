-- Hosts 1 and 2 in two runs at once: at the same places they are turned down alike and find a word of the other host at their place; and
-- a word that is defined at a place is defined once. Assumes nothing.
use mathlib.Core.Path.{◌≡◌, refl, sym, ap, ap₂, subst, ◌∙◌}
use mathlib.Core.Logic.{◌≢◌, inl, inr}
use mathlib.Core.List.{List, [], ◌∷◌, ◌++◌, map}
use Prim.Native.Nat.{ℕ}
use native.Mathlib.Omega.{arith}
use lib.ListN.{length, drop, take-append-drop}
use lib.Seq.{take_at}
use Rattle.gates.specs.Steps.{Lane}
use Rattle.gates.specs.Hosts.{Pair, of1, of2}
use Rattle.calls.specs.Calls.{State, Answer, start, hear}
use Rattle.runs.specs.Runs.{Stage, Spoken, placed_word, Among, Dealer, Side, waiting, going, side_state, with_state}
use Rattle.runs.specs.Runs.{world, registers, with_registers, Turned, at_start, at_hearing, Call, Dealt, lent1, lent2}
use Rattle.runs.specs.Strict.{StrictRun}
use Rattle.runs.specs.InOrder.{Before, Rising}
use Rattle.runs.proofs.Refusals.{hear_state}
use Rattle.runs.proofs.Kept.{not_yet, dealt_all, go1, go2, Ok, ok, supplied, kept}
use Rattle.runs.proofs.Strict.{moved1, moved2, unheard, wide, BothSpent, both, spent}
use Rattle.privacy.specs.Privacy.{started, heard, turned_event}
use Rattle.privacy.proofs.Places.{Level, start_number, hear_number}

-- ---- a word at a place

abbrev place : Spoken → ℕ × ℕ
place p = (p.0, p.1)

abbrev pub places : List Spoken → List (ℕ × ℕ)
places l = map place l

among_place : (p : Spoken) (l : List Spoken) → Among p l → Among (place p) (places l)
among_place p [] m = elim m [ ]
among_place p (q ∷ l) (inl e) = inl (ap place e)
among_place p (q ∷ l) (inr m) = inr (among_place p l m)

place_among : (q : ℕ × ℕ) (l : List Spoken) → Among q (places l) → (v : ℕ) × Among (q.0, q.1, v) l
place_among q [] m = elim m [ ]
place_among q (p ∷ l) (inl e) = (p.2, inl (λ i. ((e i).0, (e i).1, p.2)))
place_among q (p ∷ l) (inr m) = let k = place_among q l m in (k.0, inr k.1)

-- where the same places were spoken at, there is a word at the same place
pub word_there : (s s' : State) (v : ℕ) (l l' : List Spoken) → Level s s' → places l ≡ places l' → Among (placed_word s v) l
    → (v' : ℕ) × Among (placed_word s' v') l'
word_there s s' v l l' h e m =
    place_among (s'.order, s'.turn) l'
    (subst (λ (q : ℕ × ℕ). Among q (places l')) (λ i. (h.order i, h.turn i))
    (subst (λ (k : List (ℕ × ℕ)). Among (s.order, s.turn) k) e (among_place (placed_word s v) l m)))

-- of words that rise there is one at a place
apart : (p r : Spoken) → Before p r → p.0 ≡ r.0 → p.1 ≡ r.1 → ⊥
apart p r (inl h) e f = omega (arith, h, e)
apart p r (inr h) e f = omega (arith, h.1, f)

one_word : (l : List Spoken) → Rising l → (p r : Spoken) → p.0 ≡ r.0 → p.1 ≡ r.1 → Among p l → Among r l → p.2 ≡ r.2
one_word [] R p r e f a b = elim a [ ]
one_word (q ∷ l) R p r e f (inl a) (inl b) = ap (λ (x : Spoken). x.2) (a ∙ sym b)
one_word (q ∷ l) R p r e f (inl a) (inr b) = absurd (apart p r (subst (λ (x : Spoken). Before x r) (sym a) (R.0 r b)) e f)
one_word (q ∷ l) R p r e f (inr a) (inl b) =
    absurd (apart r p (subst (λ (x : Spoken). Before x p) (sym b) (R.0 p a)) (sym e) (sym f))
one_word (q ∷ l) R p r e f (inr a) (inr b) = one_word l R.1 p r e f a b

pub same_word : (s s' : State) (v v' : ℕ) (l l' : List Spoken) → Rising l' → l ≡ l' → Level s s' → Among (placed_word s v) l
    → Among (placed_word s' v') l' → v ≡ v'
same_word s s' v v' l l' R e h m m' =
    one_word l' R (placed_word s v) (placed_word s' v') h.order h.turn (subst (λ (k : List Spoken). Among (placed_word s v) k) e m) m'

-- ---- two hosts that stand alike: at the same place, having spoken at the same places

abbrev pub AlikeSide : Side → Side → Type 0
AlikeSide (waiting s) (waiting s') = Level s s'
AlikeSide (waiting s) (going s' t' said') = ⊥
AlikeSide (going s t said) (waiting s') = ⊥
AlikeSide (going s t said) (going s' t' said') = Level s s' × (places said ≡ places said')

abbrev pub said_by : Side → List Spoken
said_by (waiting s) = []
said_by (going s t said) = said

pub side_level : (x x' : Side) → AlikeSide x x' → Level (side_state x) (side_state x')
side_level (waiting s) (waiting s') h = h
side_level (waiting s) (going s' t' said') h = absurd h
side_level (going s t said) (waiting s') h = absurd h
side_level (going s t said) (going s' t' said') h = h.0

pub with_level : (x x' : Side) (s s' : State) → AlikeSide x x' → Level s s' → AlikeSide (with_state x s) (with_state x' s')
with_level (waiting r) (waiting r') s s' h l = l
with_level (waiting r) (going r' t' said') s s' h l = absurd h
with_level (going r t said) (waiting r') s s' h l = absurd h
with_level (going r t said) (going r' t' said') s s' h l = (l, h.1)

-- after an answer
pub next_alike : (a a' : Answer) (said said' : List Spoken) → Level a.state a'.state → places said ≡ places said'
    → places (placed_word a.state a.word ∷ said) ≡ places (placed_word a'.state a'.word ∷ said')
next_alike a a' said said' h e = λ i. (h.order i, h.turn i) ∷ e i

-- ---- turned down beside each other

pub record TurnedToo (n : ℕ) (s s' : State) {r : State} (t : Turned n s r) : Type 0 where
  pub state : State
  pub turned : Turned n s' state
  pub level : Level r state
  pub same : s ≡ s' → (r ≡ state) × (turned_event t ≡ turned_event turned)

pub turned_too : (n : ℕ) (s s' : State) → Level s s' → {r : State} (t : Turned n s r) → TurnedToo n s s' t
turned_too n s s' l (at_start loan e) =
    let k : (start loan (registers n s')).number ≢ 0 = λ z. e (start_number loan loan (registers n s) (registers n s') refl ∙ z) in
    record {
      state = with_registers n s' (registers n (start loan (registers n s')).state);
      turned = at_start loan k;
      level = record { order = l.order; turn = l.turn; stored = l.stored };
      same = λ p. (
        λ i. with_registers n (p i) (registers n (start loan (registers n (p i))).state),
        λ i. started loan (registers n (p i)) (start loan (registers n (p i))),
      );
    }
turned_too n s s' l (at_hearing loan v e) =
    let k : (hear loan s' v).number ≢ 0 = λ z. e (hear_number loan loan s s' v v refl refl l ∙ z) in
    record {
      state = (hear loan s' v).state;
      turned = at_hearing loan v k;
      level = rw (hear_state loan s v e, hear_state loan s' v k) l;
      same = λ p. (λ i. (hear loan (p i) v).state, λ i. heard loan (p i) v (hear loan (p i) v));
    }

-- ---- a host that keeps what it kept, and is given other registers

pub given_too : (n : ℕ) (s : State) (p p' : Pair) → registers n s ≡ p → length p'.0 ≡ n → length p'.1 ≡ n
    → (registers n (with_registers n s p') ≡ p') × (p ≡ p' → s ≡ with_registers n s p')
given_too n s p p' h e f = (
  λ i. (take_at p'.0 (drop n s.m) n e i, take_at p'.1 (drop n s.mask) n f i),
  λ q. let g = h ∙ q in
      ap₂ {C = State} (λ (x y : Lane). record { m = x; mask = y; order = s.order; turn = s.turn; stored = s.stored })
      (sym (take-append-drop n s.m) ∙ ap (λ (x : Pair). x.0 ++ drop n s.m) g)
      (sym (take-append-drop n s.mask) ∙ ap (λ (x : Pair). x.1 ++ drop n s.mask) g),
)

-- ---- a hearing that can complete hears a word for the first time

module _ (S : Stage) {E : List ℕ} {cs : List Call} {z : Dealer} {buf : List ℕ} {h1 h2 : List Spoken} {s1 s2 : State} {t1 t2 : List Pair}
    {said1 said2 : List Spoken} (r : StrictRun S E cs (world z buf (going s1 t1 said1) (going s2 t2 said2)) h1 h2) (D : List ℕ) (v : ℕ) where
  pub first_time1 : Among (placed_word s1 v) said2 → (hear (lent1 S D) s1 v).number ≡ 0 → Among (placed_word s1 v) h1 → ⊥
  first_time1 m e = go (kept S (wide S r)) (spent S r)
    where
      go : Ok S (world z buf (going s1 t1 said1) (going s2 t2 said2)) → BothSpent S (world z buf (going s1 t1 said1) (going s2 t2 said2)) h1 h2
          → Among (placed_word s1 v) h1 → ⊥
      go (ok d (go1 X) (go2 Y) a) (both b c) =
          unheard S of1 s1 _ _ v b (moved1 S D s1 b.n _ v _ b.stands Y.heard m e)

  pub first_time2 : Dealt S buf D → Among (placed_word s2 v) said1 → (hear (lent2 S D) s2 v).number ≡ 0 → Among (placed_word s2 v) h2 → ⊥
  first_time2 d m e = go (kept S (wide S r)) (spent S r) d
    where
      go : {z : Dealer} {b : List ℕ} → Ok S (world z b (going s1 t1 said1) (going s2 t2 said2))
          → BothSpent S (world z b (going s1 t1 said1) (going s2 t2 said2)) h1 h2 → Dealt S b D → Among (placed_word s2 v) h2 → ⊥
      go (ok (not_yet h) (go1 X) (go2 Y) a) (both b c) d = absurd a
      go {b = b} (ok (dealt_all p g h k) (go1 X) (go2 Y) a) (both x y) d =
          unheard S of2 s2 _ _ v y (moved2 S D (supplied S b p D g d) s2 y.n _ v _ y.stands X.heard m e)
