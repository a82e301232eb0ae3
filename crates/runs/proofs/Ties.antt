-- A host that keeps step with the joint walk: what its starting and its hearings give. Assumes nothing.
use mathlib.Core.Path.{◌≡◌, refl, sym, ap, ◌∙◌, subst}
use mathlib.Core.List.{List, [], ◌∷◌, ◌++◌, map, append_assoc, append-nil}
use mathlib.Core.Logic.{inl, inr}
use Prim.Native.Nat.{ℕ, zero, suc, ◌≤◌, ◌<◌}
use native.Mathlib.Omega.{arith}
use native.Mathlib.Decide.{dec_le}
use lib.ListN.{length}
use Rattle.gates.specs.Steps.{at, Exchange, Step, local, deal, exchange, end, Cursor, origin, past}
use Rattle.gates.specs.Walk.{Conf, conf, Exchanging, next, walk}
use Rattle.gates.specs.Hosts.{Pair, Triple, of1, of2, joint1, joint2, act, Supplied}
use Rattle.gates.proofs.Seen.{through, quiet, Seen, Always, see_walk}
use Rattle.gates.proofs.LaneByLane.{seen1, seen2, says1, says2, hears1, hears2}
use Rattle.calls.specs.Places.{Found, found, seek}
use Rattle.calls.specs.Lent.{Worker, worker1, worker2}
use Rattle.calls.specs.Calls.{State, Answer, fresh2, word_at, spoken_at, state_of, report, hear_walk, place_fault, walked_to, resume}
use Rattle.calls.proofs.Hearing.{resumed_there, resume_none}
use Rattle.runs.specs.Runs.{Spoken, placed_word, Among}
use Rattle.runs.proofs.Places.{Halted, pos, walk_reaches, seek_pos, same_place}

-- P sees the lanes h of the joint walk, speaks `own` and expects `other`
pub record Shadow (A B : List ℕ) (P : Worker) (h : Triple → Pair) (own other : Exchange → Cursor → Triple → ℕ)
    (Good : List Step → Cursor → Triple → Type 0) : Type 0 where
  pub seen : Seen (act A B) P.act h Good quiet
  pub says : (d : ℕ) (e : Exchange) (ss : List Step) (c : Cursor) (j : Triple) → Good (exchange d e ∷ ss) c j → P.say e c (h j) ≡ own e c j
  pub hears : (d : ℕ) (e : Exchange) (ss : List Step) (c : Cursor) (j : Triple) (v : ℕ) → Good (exchange d e ∷ ss) c j → v ≡ other e c j
      → P.hear d e c (h j) v ≡ h (act A B (exchange d e) c j)

pub shadow1 : (A B : List ℕ) → Shadow A B (worker1 A) of1 (joint1 A B) (joint2 A B) Always
shadow1 A B =
    record { seen = seen1 A B; says = λ d e ss c j g. says1 A B [] e c j; hears = λ d e ss c j v g q. hears1 A B [] d e c j v q }

pub shadow2 : (A B D : List ℕ) → Shadow A B (worker2 B D) of2 (joint2 A B) (joint1 A B) (Supplied A B D)
shadow2 A B D =
    record {
      seen = seen2 A B D;
      says = λ d e ss c j g. says2 A B D d e ss c j g;
      hears = λ d e ss c j v g q. hears2 A B D d e ss c j v g q;
    }

-- a walk only adds to its trail
pub walk_trail : {S : Type 0} (f : Step → Cursor → S → S) (ss : List Step) (c : Cursor) (s : S) (t : List S)
    → walk f ss c s t ≡ conf (walk f ss c s []).rest (walk f ss c s []).cur (walk f ss c s []).state (t ++ (walk f ss c s []).trail)
unfolding walk
walk_trail f [] c s t = rw append-nil
walk_trail f (local d m l ∷ ss) c s t = walk_trail f ss _ _ t
walk_trail f (deal d g ∷ ss) c s t = walk_trail f ss _ _ t
walk_trail f (exchange d e ∷ ss) c s t = rw append-nil
walk_trail f (end ∷ ss) c s t =
    walk_trail f ss (past end c) (f end c s) (t ++ (s ∷ []))
    ∙ rw (walk_trail f ss (past end c) (f end c s) (s ∷ []), append_assoc t (s ∷ []) (walk f ss (past end c) (f end c s) []).trail)

module _ (A B : List ℕ) (all : List Step) (j₀ : Triple) where
  -- the joint walk's positions, and the word `say` at one of them
  abbrev pub joint : ℕ → Conf Triple
  joint = pos (act A B) all j₀

  abbrev pub words : (Exchange → Cursor → Triple → ℕ) → ℕ → ℕ
  words say n = word_at say (joint n).rest (joint n).cur (joint n).state

  abbrev pub spoken : (Exchange → Cursor → Triple → ℕ) → ℕ → Spoken
  spoken say n = ((joint n).cur.order, (joint n).cur.turn, words say n)

  -- the words said are those of the joint walk, of each of its exchanges before position n
  pub record Heard (say : Exchange → Cursor → Triple → ℕ) (n : ℕ) (said : List Spoken) : Type 0 where
    pub only : (p : Spoken) → Among p said → (i : ℕ) × Halted (joint i).rest × (p ≡ spoken say i)
    pub every : (i : ℕ) → i < n → Exchanging (joint i).rest → Among (spoken say i) said

  -- a host that holds the lanes h of the joint walk at a position, after the trail t and the words said
  pub record Tied (h : Triple → Pair) (say : Exchange → Cursor → Triple → ℕ) (s : State) (t : List Pair) (said : List Spoken) : Type 0 where
    pub n : ℕ
    pub halts : Halted (joint n).rest
    pub is : s ≡ state_of (through h (joint n))
    pub trails : t ≡ map h (joint n).trail
    pub heard : Heard say (suc n) said
    pub count : length said ≡ suc (joint n).cur.b

  -- ---- the words of B used count the products and refreshes passed

  b_still : (p : Conf Triple) → (Exchanging p.rest → ⊥) → (next (act A B) p).cur.b ≡ p.cur.b
  unfolding past
  b_still p f = go p.rest f
    where
      go : (ss : List Step) → (Exchanging ss → ⊥) → (next (act A B) (conf ss p.cur p.state p.trail)).cur.b ≡ p.cur.b
      go [] g = refl
      go (local d m l ∷ ss) g = refl
      go (deal d e ∷ ss) g = refl
      go (exchange d e ∷ ss) g = absurd (g tt)
      go (end ∷ ss) g = refl

  b_one : (p : Conf Triple) → Exchanging p.rest → (next (act A B) p).cur.b ≡ suc p.cur.b
  unfolding past
  b_one p x = go p.rest x
    where
      go : (ss : List Step) → Exchanging ss → (next (act A B) (conf ss p.cur p.state p.trail)).cur.b ≡ suc p.cur.b
      go [] g = absurd g
      go (local d m l ∷ ss) g = absurd g
      go (deal d e ∷ ss) g = absurd g
      go (exchange d e ∷ ss) g = refl
      go (end ∷ ss) g = absurd g

  b_quiet : (n to : ℕ) → n ≤ to → ((i : ℕ) → n ≤ i → i < to → Exchanging (joint i).rest → ⊥) → (joint to).cur.b ≡ (joint n).cur.b
  unfolding pos
  b_quiet n zero l q = let e : n ≡ 0 = omega arith in rw e
  b_quiet n (suc k) l q = go (dec_le n k) (λ m. b_quiet n k m (λ i a b. q i a (omega arith)))
    where
      go : Dec (n ≤ k) → (n ≤ k → (joint k).cur.b ≡ (joint n).cur.b) → (joint (suc k)).cur.b ≡ (joint n).cur.b
      go (yes m) f = b_still (joint k) (q k m (omega arith)) ∙ f m
      go (no m) f = let e : n ≡ suc k = omega arith in rw e

  module _ (P : Worker) (h : Triple → Pair) (own other : Exchange → Cursor → Triple → ℕ) (Good : List Step → Cursor → Triple → Type 0)
      (sh : Shadow A B P h own other Good) (good : Good all origin j₀) where
    good_one : (ss : List Step) (c : Cursor) (j : Triple) (t : List Triple) → Good ss c j
        → Good (next (act A B) (conf ss c j t)).rest (next (act A B) (conf ss c j t)).cur (next (act A B) (conf ss c j t)).state
    good_one [] c j t g = g
    good_one (x ∷ ss) c j t g = sh.seen.keeps x ss c j g

    good_pos : (n : ℕ) → Good (joint n).rest (joint n).cur (joint n).state
    unfolding pos
    good_pos zero = good
    good_pos (suc n) = good_one (joint n).rest (joint n).cur (joint n).state (joint n).trail (good_pos n)

    word_same : (ss : List Step) (c : Cursor) (j : Triple) → Good ss c j → word_at P.say ss c (h j) ≡ word_at own ss c j
    unfolding word_at
    word_same [] c j g = refl
    word_same (local d m l ∷ ss) c j g = refl
    word_same (deal d f ∷ ss) c j g = refl
    word_same (exchange d e ∷ ss) c j g = sh.says d e ss c j g
    word_same (end ∷ ss) c j g = refl

    -- the answer where the joint walk is at position n
    abbrev pub answer_at : ℕ → Answer
    answer_at n =
        record {
          number = 0;
          index = 0;
          spoken = spoken_at (joint n).rest (joint n).cur;
          word = words own n;
          state = state_of (through h (joint n));
        }

    -- an answer after whose call the walk halts at position `to`, from position n on, with the trail t before it and the trail tr of the
    -- call
    pub record Went (n : ℕ) (t : List Pair) (ans : Answer) (tr : List Pair) : Type 0 where
      pub to : ℕ
      pub later : n ≤ to
      pub halts : Halted (joint to).rest
      pub quietly : (i : ℕ) → n ≤ i → i < to → Exchanging (joint i).rest → ⊥
      pub is : ans ≡ answer_at to
      pub whole_trail : t ++ tr ≡ map h (joint to).trail

    went : (n to : ℕ) (t : List Pair) (Q : Conf Pair) → n ≤ to → Halted (joint to).rest
        → ((i : ℕ) → n ≤ i → i < to → Exchanging (joint i).rest → ⊥)
        → conf Q.rest Q.cur Q.state (t ++ Q.trail) ≡ through h (joint to) → Went n t (report P Q) Q.trail
    went n to t Q l k q e =
        record {
          to = to;
          later = l;
          halts = k;
          quietly = q;
          is = ap (λ (p : Conf Pair). report P p) e
              ∙ ap (λ (v : ℕ). answer_with v) (word_same (joint to).rest (joint to).cur (joint to).state (good_pos to));
          whole_trail = ap (λ (p : Conf Pair). p.trail) e;
        }
      where
        answer_with : ℕ → Answer
        answer_with v =
            record {
              number = 0;
              index = 0;
              spoken = spoken_at (joint to).rest (joint to).cur;
              word = v;
              state = state_of (through h (joint to));
            }

    walked : (n : ℕ) → Went n (map h (joint n).trail) (report P (walk P.act (joint n).rest (joint n).cur (h (joint n).state) []))
        (walk P.act (joint n).rest (joint n).cur (h (joint n).state) []).trail
    walked n =
        let r = walk_reaches (act A B) all j₀ (joint n).rest (joint n).cur (joint n).state (joint n).trail n refl in
        went n r.to (map h (joint n).trail) (walk P.act (joint n).rest (joint n).cur (h (joint n).state) []) r.later
        (rw r.is at r.halts) r.quietly
        (sym (walk_trail P.act _ _ _ _)
        ∙ see_walk (act A B) P.act h Good sh.seen (joint n).rest (joint n).cur (joint n).state (joint n).trail (good_pos n)
        ∙ ap (through h) r.is)

    walked_at : (q : Conf Triple) (n : ℕ) → q ≡ joint n
        → Went n (map h q.trail) (report P (walk P.act q.rest q.cur (h q.state) []))
        (walk P.act q.rest q.cur (h q.state) []).trail
    walked_at q n e = rw e (walked n)

    -- starting and hearing, once the checks 1 to 7 are passed
    abbrev pub begun : Pair → Conf Pair
    begun r = walk P.act all origin (fresh2 r) []

    abbrev pub heard_by : State → ℕ → Answer
    heard_by s v = resume P s v (seek s.order s.turn all origin)

    abbrev pub heard_trail : State → ℕ → List Pair
    heard_trail s v = (hear_walk P s v (seek s.order s.turn all origin)).trail

    pub starts : (r : Pair) → fresh2 r ≡ h j₀ → Went 0 [] (report P (begun r)) (begun r).trail
    unfolding pos
    starts r e = rw e (walked 0)

    hear_at : (ss : List Step) (c : Cursor) (j : Triple) (t : List Triple) (n v : ℕ) → conf ss c j t ≡ joint n → Exchanging ss → Good ss c j
        → v ≡ word_at other ss c j
        → Went (suc n) (map h t) (resume P (state_of (through h (conf ss c j t))) v (found ss c))
        (hear_walk P (state_of (through h (conf ss c j t))) v (found ss c)).trail
    unfolding place_fault walked_to hear_walk word_at pos
    hear_at [] c j t n v p x g e = absurd x
    hear_at (local d m l ∷ ss) c j t n v p x g e = absurd x
    hear_at (deal d f ∷ ss) c j t n v p x g e = absurd x
    hear_at (exchange d y ∷ ss) c j t n v p x g e =
        let s : State = state_of (through h (conf (exchange d y ∷ ss) c j t)) in
        let f : Found = found (exchange d y ∷ ss) c in
        subst (λ (a : Answer). Went (suc n) (map h t) a (hear_walk P s v f).trail) (sym (resumed_there P s v f refl refl))
        (rw (sh.hears d y ss c j v g e) (walked_at _ (suc n) (ap (next (act A B)) p)))
    hear_at (end ∷ ss) c j t n v p x g e = absurd x

    -- hearing, at position n, the word that the other speaks there
    pub hears_on : (n v : ℕ) → Exchanging (joint n).rest → Halted (joint n).rest → v ≡ words other n
        → Went (suc n) (map h (joint n).trail) (heard_by (state_of (through h (joint n))) v)
        (heard_trail (state_of (through h (joint n))) v)
    hears_on n v x k e =
        let s : State = state_of (through h (joint n)) in
        subst (λ (f : Found). Went (suc n) (map h (joint n).trail) (resume P s v f) (hear_walk P s v f).trail)
        (sym (seek_pos (act A B) all j₀ n k))
        (hear_at (joint n).rest (joint n).cur (joint n).state (joint n).trail n v refl x (good_pos n) e)

    add_heard : (k to : ℕ) (said : List Spoken) (x : Spoken) → x ≡ spoken own to → Halted (joint to).rest
        → ((i : ℕ) → k ≤ i → i < to → Exchanging (joint i).rest → ⊥) → Heard own k said → Heard own (suc to) (x ∷ said)
    add_heard k to said x e v q H = record { only = only; every = every }
      where
        only : (p : Spoken) → Among p (x ∷ said) → (i : ℕ) × Halted (joint i).rest × (p ≡ spoken own i)
        only p (inl u) = (to, v, u ∙ e)
        only p (inr u) = H.only p u

        every : (i : ℕ) → i < suc to → Exchanging (joint i).rest → Among (spoken own i) (x ∷ said)
        every i l y = go (dec_le (suc i) k) (dec_le (suc i) to)
          where
            go : Dec (suc i ≤ k) → Dec (suc i ≤ to) → Among (spoken own i) (x ∷ said)
            go (yes a) d = inr (H.every i a y)
            go (no a) (yes b) = absurd (q i (omega arith) b y)
            go (no a) (no b) = let f : i ≡ to = omega arith in inl (rw f (sym e))

    -- after a call that went well
    pub tie : (k : ℕ) (t tr : List Pair) (said : List Spoken) (a : Answer) → Went k t a tr → Heard own k said
        → length said ≡ (joint k).cur.b
        → Tied h own a.state (t ++ tr) (placed_word a.state a.word ∷ said)
    tie k t tr said a W H c =
        record {
          n = W.to;
          halts = W.halts;
          is = ap (λ (x : Answer). x.state) W.is;
          trails = W.whole_trail;
          heard = add_heard k W.to said (placed_word a.state a.word) (rw W.is) W.halts W.quietly H;
          count = ap suc (c ∙ sym (b_quiet k W.to W.later W.quietly));
        }

    none_heard : Heard own 0 []
    none_heard = record { only = λ p x. absurd x; every = λ i l x. omega arith }

    pub tie_start : (r : Pair) → fresh2 r ≡ h j₀
        → Tied h own (report P (begun r)).state (begun r).trail (placed_word (report P (begun r)).state (report P (begun r)).word ∷ [])
    unfolding pos
    tie_start r e = tie 0 [] (begun r).trail [] (report P (begun r)) (starts r e) none_heard refl

    -- a hearing that completes is at a product or refresh
    live : (ss : List Step) (c : Cursor) (s : State) (v : ℕ) → (resume P s v (found ss c)).number ≡ 0 → Exchanging ss
    unfolding place_fault
    live ss c s v e = go ss (resume_none P s v (found ss c) e).0
      where
        go : (ss : List Step) → place_fault (found ss c) ≡ 0 → Exchanging ss
        go [] e = absurd (omega arith)
        go (local d m l ∷ ss) e = absurd (omega arith)
        go (deal d f ∷ ss) e = absurd (omega arith)
        go (exchange d y ∷ ss) e = tt
        go (end ∷ ss) e = absurd (omega arith)

    pub live_at : (n v : ℕ) → Halted (joint n).rest → (heard_by (state_of (through h (joint n))) v).number ≡ 0 → Exchanging (joint n).rest
    live_at n v k e = live (joint n).rest (joint n).cur _ v (rw (seek_pos (act A B) all j₀ n k) at e)

    -- a word that the other host has said at this place is the joint walk's
    pub word_right : (n k v : ℕ) (said : List Spoken) → Exchanging (joint n).rest → Heard other k said
        → Among ((joint n).cur.order, (joint n).cur.turn, v) said → v ≡ words other n
    word_right n k v said x H m =
        let f = H.only _ m in
        let e : joint f.0 ≡ joint n =
        same_place (act A B) all j₀ f.0 n f.1 x (ap (λ (p : Spoken). p.0) (sym f.2)) (ap (λ (p : Spoken). p.1) (sym f.2)) in
        ap (λ (p : Spoken). p.2) f.2 ∙ ap (λ (p : Conf Triple). word_at other p.rest p.cur p.state) e

    next_count : (n : ℕ) (said : List Spoken) → Exchanging (joint n).rest → length said ≡ suc (joint n).cur.b
        → length said ≡ (joint (suc n)).cur.b
    unfolding pos
    next_count n said x c = c ∙ sym (b_one (joint n) x)

    pub tie_hear : (s : State) (t : List Pair) (said said' : List Spoken) (k v : ℕ) → Tied h own s t said → Heard other k said'
        → Among (placed_word s v) said'
        → (heard_by s v).number ≡ 0
        → Tied h own (heard_by s v).state (t ++ heard_trail s v) (placed_word (heard_by s v).state (heard_by s v).word ∷ said)
    tie_hear s t said said' k v Z H m a =
        let a' : (heard_by (state_of (through h (joint Z.n))) v).number ≡ 0 = rw Z.is at a in
        let x : Exchanging (joint Z.n).rest = live_at Z.n v Z.halts a' in
        let m' : Among ((joint Z.n).cur.order, (joint Z.n).cur.turn, v) said' = rw Z.is at m in
        let W = hears_on Z.n v x Z.halts (word_right Z.n k v said' x H m') in
        subst (λ (q : State). Tied h own (heard_by q v).state (t ++ heard_trail q v)
        (placed_word (heard_by q v).state (heard_by q v).word ∷ said)) (sym Z.is)
        (rw Z.trails (tie (suc Z.n) (map h (joint Z.n).trail) (heard_trail (state_of (through h (joint Z.n))) v) said _ W
        Z.heard (next_count Z.n said x Z.count)))

    -- the answer of a call that completes, where the walk then halts, and the number of answers given so far
    pub record Answered (a : Answer) (given : ℕ) : Type 0 where
      pub n : ℕ
      pub halts : Halted (joint n).rest
      pub is : a ≡ answer_at n
      pub count : given ≡ suc (joint n).cur.b

    answered : (k : ℕ) (t tr : List Pair) (given : ℕ) (a : Answer) → Went k t a tr → given ≡ (joint k).cur.b → Answered a (suc given)
    answered k t tr given a W c =
        record { n = W.to; halts = W.halts; is = W.is; count = ap suc (c ∙ sym (b_quiet k W.to W.later W.quietly)) }

    pub start_answered : (r : Pair) → fresh2 r ≡ h j₀ → Answered (report P (begun r)) 1
    unfolding pos
    start_answered r e = answered 0 [] (begun r).trail 0 (report P (begun r)) (starts r e) refl

    pub hear_answered : (s : State) (t : List Pair) (said said' : List Spoken) (k v : ℕ) → Tied h own s t said → Heard other k said'
        → Among (placed_word s v) said'
        → (heard_by s v).number ≡ 0 → Answered (heard_by s v) (suc (length said))
    hear_answered s t said said' k v Z H m a =
        let a' : (heard_by (state_of (through h (joint Z.n))) v).number ≡ 0 = rw Z.is at a in
        let x : Exchanging (joint Z.n).rest = live_at Z.n v Z.halts a' in
        let m' : Among ((joint Z.n).cur.order, (joint Z.n).cur.turn, v) said' = rw Z.is at m in
        let W = hears_on Z.n v x Z.halts (word_right Z.n k v said' x H m') in
        subst (λ (q : State). Answered (heard_by q v) (suc (length said))) (sym Z.is)
        (answered (suc Z.n) (map h (joint Z.n).trail) _ (length said) _ W (next_count Z.n said x Z.count))

    -- a host at a product or refresh, where the other has said its word, can hear it, and comes further
    pub record CanHear (s : State) (t : List Pair) (said said' : List Spoken) (n : ℕ) : Type 0 where
      pub word : ℕ
      pub among : Among (placed_word s word) said'
      pub completes : (heard_by s word).number ≡ 0
      pub tied : Tied h own (heard_by s word).state (t ++ heard_trail s word)
          (placed_word (heard_by s word).state (heard_by s word).word ∷ said)
      pub further : n < tied.n

    can_hear_at : (n : ℕ) (said said' : List Spoken) (k : ℕ) → Heard own (suc n) said → length said ≡ suc (joint n).cur.b
        → Halted (joint n).rest → Exchanging (joint n).rest
        → Heard other k said' → n < k → CanHear (state_of (through h (joint n))) (map h (joint n).trail) said said' n
    unfolding tie
    can_hear_at n said said' k own_said own_count u x H l =
        let W = hears_on n (words other n) x u refl in
        record {
          word = words other n;
          among = H.every n l x;
          completes = ap (λ (a : Answer). a.number) W.is;
          tied = tie (suc n) (map h (joint n).trail) (heard_trail (state_of (through h (joint n))) (words other n)) said _ W own_said
              (next_count n said x own_count);
          further = W.later;
        }

    pub can_hear : (s : State) (t : List Pair) (said said' : List Spoken) (k : ℕ) (Z : Tied h own s t said)
        → Exchanging (joint Z.n).rest
        → Heard other k said' → Z.n < k → CanHear s t said said' Z.n
    can_hear s t said said' k Z x H l = rw (Z.is, Z.trails) (can_hear_at Z.n said said' k Z.heard Z.count Z.halts x H l)
