-- What each host has spoken is the front of the list of words defined for it. Assumes nothing.
use mathlib.Core.Path.{◌≡◌, refl, sym, ap, ◌∙◌}
use mathlib.Core.Logic.{◌⊎◌, inl, inr}
use mathlib.Core.List.{List, [], ◌∷◌, ◌++◌, reverse, reverse_aux, append_assoc}
use Prim.Native.Nat.{ℕ, zero, suc, ◌+◌, ◌≤◌, ◌<◌}
use native.Mathlib.Omega.{arith}
use lib.ListN.{length, take, length-append}
use lib.Seq.{take_at, take_all}
use Rattle.gates.specs.Steps.{Exchange, Step, local, deal, exchange, end, Cursor, origin, past}
use Rattle.gates.specs.Walk.{Conf, conf, next}
use Rattle.gates.specs.Hosts.{Pair, Triple, of1, of2, joint1, joint2, act, Supplied}
use Rattle.gates.proofs.Seen.{Always}
use Rattle.calls.specs.Scripts.{ends, orders_in, Closed}
use Rattle.calls.specs.Lent.{Worker, worker1, worker2}
use Rattle.calls.specs.Calls.{State, Answer, word_at}
use Rattle.runs.specs.Runs.{Stage, Spoken, placed_word, Among, Dealer, Side, waiting, going, World, world, Call, Completes, prepares}
use Rattle.runs.specs.Runs.{starts1, starts2, hears1, hears2, given_out, Run, begin, complete, refuse}
use Rattle.runs.specs.InOrder.{defined_words, Before, Rising, InOrder}
use Rattle.runs.proofs.Places.{Halted, pos, ends_pos}
use Rattle.runs.proofs.Ties.{Shadow, shadow1, shadow2, joint, spoken, Tied, Answered}
use Rattle.runs.proofs.Counts.{closed_at}
use Rattle.runs.proofs.Answers.{Answered1, start1_answered, hear1_answered, Answered2, start2_answered, hear2_answered}
use Rattle.runs.proofs.Kept.{all, j₀, position, Tied1, Tied2, HasDeals, not_yet, dealt_all, wait1, go1, wait2, go2, Ok, ok, supplied}
use Rattle.runs.proofs.Kept.{refuses_nothing, kept}

reverse_onto : {T : Type 0} (l r : List T) → reverse_aux l r ≡ reverse l ++ r
reverse_onto [] r = refl
reverse_onto (x ∷ l) r =
    reverse_onto l (x ∷ r) ∙ sym (append_assoc (reverse l) (x ∷ []) r) ∙ ap (λ (y : List _). y ++ r) (sym (reverse_onto l (x ∷ [])))

reverse_cons : {T : Type 0} (x : T) (l : List T) → reverse (x ∷ l) ≡ reverse l ++ (x ∷ [])
reverse_cons x l = reverse_onto l (x ∷ [])

module _ (A B : List ℕ) (all : List Step) (j₀ : Triple) (say : Exchange → Cursor → Triple → ℕ) where
  abbrev at_n : ℕ → Conf Triple
  at_n n = joint A B all j₀ n

  -- the words defined from a position on
  abbrev from : Conf Triple → List Spoken
  from p = defined_words A B say p.rest p.cur p.state

  -- as many words as products and refreshes passed come before a position
  record Split (p : Conf Triple) : Type 0 where
    pub before : List Spoken
    pub count : length before ≡ p.cur.b
    pub is : defined_words A B say all origin j₀ ≡ before ++ from p

  split_next : (ss : List Step) (c : Cursor) (j : Triple) (t : List Triple) → Split (conf ss c j t) → Split (next (act A B) (conf ss c j t))
  unfolding defined_words past
  split_next [] c j t z = z
  split_next (local d m l ∷ ss) c j t z = record { before = z.before; count = z.count; is = z.is }
  split_next (deal d f ∷ ss) c j t z = record { before = z.before; count = z.count; is = z.is }
  split_next (exchange d e ∷ ss) c j t z =
      let x : Spoken = (c.order, c.turn, say e c j) in
      record {
        before = z.before ++ (x ∷ []);
        count = omega (arith, length-append z.before (x ∷ []), z.count);
        is = z.is
            ∙ sym (append_assoc z.before (x ∷ []) (defined_words A B say ss (past (exchange d e) c) (act A B (exchange d e) c j)));
      }
  split_next (end ∷ ss) c j t z = record { before = z.before; count = z.count; is = z.is }

  split : (n : ℕ) → Split (at_n n)
  unfolding pos
  split zero = record { before = []; count = refl; is = refl }
  split (suc n) = split_next (at_n n).rest (at_n n).cur (at_n n).state (at_n n).trail (split n)

  -- where a walk halts, the word there comes first of those left
  split_halted : (ss : List Step) (c : Cursor) (j : Triple) → Halted ss
      → (u : List Spoken) × (defined_words A B say ss c j ≡ (c.order, c.turn, word_at say ss c j) ∷ u)
  unfolding defined_words word_at
  split_halted [] c j h = ([], refl)
  split_halted (local d m l ∷ ss) c j h = absurd h
  split_halted (deal d f ∷ ss) c j h = absurd h
  split_halted (exchange d e ∷ ss) c j h = (defined_words A B say ss (past (exchange d e) c) (act A B (exchange d e) c j), refl)
  split_halted (end ∷ ss) c j h = absurd h

  abbrev Front : List Spoken → Type 0
  Front said = reverse said ≡ take (length said) (defined_words A B say all origin j₀)

  front_more : (said : List Spoken) (n : ℕ) → Halted (at_n n).rest → length said ≡ (at_n n).cur.b → Front said
      → Front (spoken A B all j₀ say n ∷ said)
  front_more said n h c f =
      let z : Split (at_n n) = split n in
      let x : Spoken = spoken A B all j₀ say n in
      let u = split_halted (at_n n).rest (at_n n).cur (at_n n).state h in
      let e : defined_words A B say all origin j₀ ≡ (z.before ++ (x ∷ [])) ++ u.0 =
      z.is ∙ ap (λ (l : List Spoken). z.before ++ l) u.1 ∙ sym (append_assoc z.before (x ∷ []) u.0) in
      let m : length said ≡ length z.before = c ∙ sym z.count in
      let g : reverse said ≡ z.before = f ∙ ap (take (length said)) z.is ∙ take_at z.before (from (at_n n)) (length said) (sym m) in
      let k : length (z.before ++ (x ∷ [])) ≡ suc (length said) = omega (arith, length-append z.before (x ∷ []), m) in
      reverse_cons x said ∙ ap (λ (l : List Spoken). l ++ (x ∷ [])) g
      ∙ sym (ap (take (suc (length said))) e ∙ take_at (z.before ++ (x ∷ [])) u.0 (suc (length said)) k)

  -- where nothing is left, that is all of them
  all_front : (said : List Spoken) (n : ℕ) → (at_n n).rest ≡ [] → length said ≡ suc (at_n n).cur.b → Front said
      → reverse said ≡ defined_words A B say all origin j₀
  unfolding defined_words
  all_front said n e c f =
      let z : Split (at_n n) = split n in
      let x : Spoken = ((at_n n).cur.order, (at_n n).cur.turn, 0) in
      let d : defined_words A B say all origin j₀ ≡ z.before ++ (x ∷ []) = rw e at z.is in
      let k : length (defined_words A B say all origin j₀) ≡ length said =
      omega (arith, ap length d, length-append z.before (x ∷ []), z.count, c) in
      f ∙ take_all (length said) (defined_words A B say all origin j₀) (omega (arith, k))

-- ---- from answer to answer

module _ (S : Stage) where
  abbrev A : List ℕ
  A = S.A

  abbrev B : List ℕ
  B = S.B

  abbrev Front1 : List Spoken → Type 0
  Front1 said = Front A B (all S) (j₀ S) (joint1 A B) said

  abbrev Front2 : List Spoken → Type 0
  Front2 said = Front A B (all S) (j₀ S) (joint2 A B) said

  module _ (P : Worker) (h : Triple → Pair) (own other : Exchange → Cursor → Triple → ℕ) (Good : List Step → Cursor → Triple → Type 0)
      (sh : Shadow A B P h own other Good) (good : Good (all S) origin (j₀ S)) where
    front_answered : (a : Answer) (said : List Spoken) → Answered A B (all S) (j₀ S) P h own other Good sh good a (suc (length said))
        → Front A B (all S) (j₀ S) own said → Front A B (all S) (j₀ S) own (placed_word a.state a.word ∷ said)
    front_answered a said N f = rw N.is (front_more A B (all S) (j₀ S) own said N.n N.halts (omega (arith, N.count)) f)

  front1 : {a : Answer} (said : List Spoken) → Answered1 S a (suc (length said)) → Front1 said
      → Front1 (placed_word a.state a.word ∷ said)
  front1 {a} said N f = front_answered (worker1 A) of1 (joint1 A B) (joint2 A B) Always (shadow1 A B) tt a said N f

  front2 : (D : List ℕ) (g : HasDeals S D) {a : Answer} (said : List Spoken) → Answered2 S D g a (suc (length said))
      → Front2 said
      → Front2 (placed_word a.state a.word ∷ said)
  front2 D g {a} said N f = front_answered (worker2 B D) of2 (joint2 A B) (joint1 A B) (Supplied A B D) (shadow2 A B D) g a said N f

  -- ---- along a run

  abbrev Fronts : (List Spoken → Type 0) → Side → Type 0
  Fronts F (waiting s) = Unit
  Fronts F (going s t said) = F said

  data Both : World → Type 0 where
    both : {z : Dealer} {buf : List ℕ} {one two : Side} → Fronts Front1 one → Fronts Front2 two → Both (world z buf one two)

  fronts_on : {c : Call} {v v' : World} → Completes S c v v' → Ok S v → Both v → Both v'
  fronts_on (prepares e) o (both f g) = both f g
  fronts_on (starts1 {s = s} D e) (ok z (wait1 h) two a) (both f g) = both (front1 [] (start1_answered S D s h e) refl) g
  fronts_on (starts2 {buf = buf} {s = s} D d e) (ok (dealt_all p x h k) one (wait2 q) a) (both f g) =
      let o = supplied S buf p D x d in both f (front2 D o [] (start2_answered S D o s q e) refl)
  fronts_on (hears1 {said = said} D v m e) (ok z (go1 X) (go2 Y) a) (both f g) =
      both (front1 said (hear1_answered S D _ _ _ _ _ v X Y.heard m e) f) g
  fronts_on (hears2 D d v m e) (ok (not_yet h) (go1 X) (go2 Y) a) (both f g) = absurd a
  fronts_on (hears2 {buf = buf} {said = said} D d v m e) (ok (dealt_all p x h k) (go1 X) (go2 Y) a) (both f g) =
      let o = supplied S buf p D x d in both f (front2 D o said (hear2_answered S D o _ _ _ _ _ v Y X.heard m e) g)

  fronts : {cs : List Call} {v : World} → Run S cs v → Both v
  fronts (begin (given_out h k)) = both tt tt
  fronts (complete r c) = fronts_on c (kept S r) (fronts r)
  fronts (refuse r c) = rw (refuses_nothing S (kept S r) c) (fronts r)

  one_front : {z : Dealer} {buf : List ℕ} {s : State} {t : List Pair} {said : List Spoken} {two : Side}
      → Both (world z buf (going s t said) two) → Front1 said
  one_front (both f g) = f

  two_front : {z : Dealer} {buf : List ℕ} {s : State} {t : List Pair} {said : List Spoken} {one : Side}
      → Both (world z buf one (going s t said)) → Front2 said
  two_front (both f g) = g

  -- ---- a host past every order

  nothing_left : (n : ℕ) → Closed (all S) → Halted (position S n).rest
      → (position S n).cur.order ≡ orders_in S.script
      → (position S n).rest ≡ []
  unfolding ends
  nothing_left n shut h e =
      go (position S n).rest h (closed_at A B (all S) (j₀ S) shut n) (ends_pos (act A B) (all S) (j₀ S) n)
    where
      go : (ss : List Step) → Halted ss → Closed ss → ends ss + (position S n).cur.order ≡ ends (all S) → ss ≡ []
      go [] h c k = refl
      go (local d m l ∷ ss) h c k = absurd h
      go (deal d f ∷ ss) h c k = absurd h
      go (exchange d x ∷ ss) h c k = absurd (omega (arith, c.0, e, k))
      go (end ∷ ss) h c k = absurd h

  all_said : (h : Triple → Pair) (own : Exchange → Cursor → Triple → ℕ) (s : State) (t : List Pair) (said : List Spoken) → Closed (all S)
      → Tied A B (all S) (j₀ S) h own s t said → s.order ≡ orders_in S.script → Front A B (all S) (j₀ S) own said
      → reverse said ≡ defined_words A B own (all S) origin (j₀ S)
  all_said h own s t said shut Z e f =
      all_front A B (all S) (j₀ S) own said Z.n (nothing_left Z.n shut Z.halts (sym (ap (λ (x : State). x.order) Z.is) ∙ e))
      Z.count f

  one_all : {cs : List Call} {z : Dealer} {buf : List ℕ} {s : State} {t : List Pair} {said : List Spoken} {two : Side} → Closed (all S)
      → Run S cs (world z buf (going s t said) two) → s.order ≡ orders_in S.script
      → reverse said ≡ defined_words A B (joint1 A B) (all S) origin (j₀ S)
  one_all {s = s} {t = t} {said = said} shut r e = all_said of1 (joint1 A B) s t said shut (tied1 (kept S r)) e (one_front (fronts r))
    where
      tied1 : {z : Dealer} {buf : List ℕ} {two : Side} → Ok S (world z buf (going s t said) two)
          → Tied1 S s t said
      tied1 (ok z (go1 X) two a) = X

  two_all : {cs : List Call} {z : Dealer} {buf : List ℕ} {one : Side} {s : State} {t : List Pair} {said : List Spoken} → Closed (all S)
      → Run S cs (world z buf one (going s t said)) → s.order ≡ orders_in S.script
      → reverse said ≡ defined_words A B (joint2 A B) (all S) origin (j₀ S)
  two_all {s = s} {t = t} {said = said} shut r e = all_said of2 (joint2 A B) s t said shut (tied2 (kept S r)) e (two_front (fronts r))
    where
      tied2 : {z : Dealer} {buf : List ℕ} {one : Side} → Ok S (world z buf one (going s t said))
          → Tied2 S s t said
      tied2 (ok z one (go2 Y) a) = Y

-- ---- no place comes twice

-- a place that the cursor has not passed
abbrev Ahead : Cursor → Spoken → Type 0
Ahead c p = (c.order < p.0) ⊎ ((c.order ≡ p.0) × (c.turn ≤ p.1))

ahead_past : (y : Step) (c : Cursor) (p : Spoken) → Ahead (past y c) p → Ahead c p
unfolding past
ahead_past (local d m l) c p a = a
ahead_past (deal d f) c p a = a
ahead_past (exchange d e) c p (inl h) = inl h
ahead_past (exchange d e) c p (inr h) = inr (h.0, omega (arith, h.1))
ahead_past end c p (inl h) = inl (omega arith)
ahead_past end c p (inr h) = inl (omega (arith, h.0))

behind_exchange : (d : ℕ) (e : Exchange) (c : Cursor) (v : ℕ) (p : Spoken) → Ahead (past (exchange d e) c) p
    → Before (c.order, c.turn, v) p
unfolding past
behind_exchange d e c v p (inl h) = inl h
behind_exchange d e c v p (inr h) = inr (h.0, h.1)

module _ (A B : List ℕ) (say : Exchange → Cursor → Triple → ℕ) where
  all_ahead : (ss : List Step) (c : Cursor) (j : Triple) (p : Spoken) → Among p (defined_words A B say ss c j) → Ahead c p
  unfolding defined_words
  all_ahead [] c j p (inl e) = inr (sym (ap (λ (x : Spoken). x.0) e), omega (arith, ap (λ (x : Spoken). x.1) e))
  all_ahead [] c j p (inr m) = absurd m
  all_ahead (local d f l ∷ ss) c j p m = ahead_past (local d f l) c p (all_ahead ss _ _ p m)
  all_ahead (deal d f ∷ ss) c j p m = ahead_past (deal d f) c p (all_ahead ss _ _ p m)
  all_ahead (exchange d x ∷ ss) c j p (inl e) = inr (sym (ap (λ (y : Spoken). y.0) e), omega (arith, ap (λ (y : Spoken). y.1) e))
  all_ahead (exchange d x ∷ ss) c j p (inr m) = ahead_past (exchange d x) c p (all_ahead ss _ _ p m)
  all_ahead (end ∷ ss) c j p m = ahead_past end c p (all_ahead ss _ _ p m)

  rising : (ss : List Step) (c : Cursor) (j : Triple) → Rising (defined_words A B say ss c j)
  unfolding defined_words
  rising [] c j = (λ r m. absurd m, tt)
  rising (local d m l ∷ ss) c j = rising ss _ _
  rising (deal d f ∷ ss) c j = rising ss _ _
  rising (exchange d e ∷ ss) c j = (λ r m. behind_exchange d e c (say e c j) r (all_ahead ss _ _ r m), rising ss _ _)
  rising (end ∷ ss) c j = rising ss _ _

pub in_order : InOrder
in_order =
    record {
      host1 = λ S cs z buf s t said two r. one_front S (fronts S r);
      host2 = λ S cs z buf one s t said r. two_front S (fronts S r);
      each_once_1 = λ S. rising S.A S.B (joint1 S.A S.B) (all S) origin (j₀ S);
      each_once_2 = λ S. rising S.A S.B (joint2 S.A S.B) (all S) origin (j₀ S);
      all_said_1 = λ S ok cs z buf s t said two r e. one_all S ok.closed r e;
      all_said_2 = λ S ok cs z buf one s t said r e. two_all S ok.closed r e;
    }
