-- The positions of a walk, numbered from its start; a place tells its product or refresh apart, and `seek` finds it. Assumes nothing.
use mathlib.Core.Path.{◌≡◌, refl, sym, ap, ◌∙◌}
use mathlib.Core.List.{List, [], ◌∷◌, ◌++◌, append_assoc, append-nil}
use mathlib.Core.Logic.{◌⊎◌, inl, inr}
use mathlib.Core.Bool.{Bool, true, false, ◌&&◌}
use Prim.Native.Nat.{ℕ, zero, suc, ◌+◌, ◌≤◌, ◌<◌}
use native.Mathlib.Omega.{arith}
use native.Mathlib.Decide.{dec_le}
use lib.Dec.{T, eqb, eqb→eq, eqb_refl}
use lib.ListN.{length, length-append}
use native.Mathlib.Numerals.{add-one}
use native.Mathlib.Nat.{add-zero}
use Rattle.gates.specs.Steps.{at, Step, local, deal, exchange, end, Cursor, origin, past}
use Rattle.calls.specs.Places.{Found, nowhere, found, here, seek}
use Rattle.calls.specs.Scripts.{ends}
use Rattle.gates.specs.Walk.{Conf, conf, Exchanging, one, next, whole, walk}

-- at an exchange or at the end
abbrev pub Halted : List Step → Type 0
Halted [] = Unit
Halted (local d m l ∷ ss) = ⊥
Halted (deal d f ∷ ss) = ⊥
Halted (exchange d e ∷ ss) = Unit
Halted (end ∷ ss) = ⊥

-- the steps ahead of a place that `seek` finds
abbrev pub steps_in : Found → ℕ
steps_in nowhere = 0
steps_in (found ss c) = length ss

pub here_self : (c : Cursor) → here c.order c.turn c ≡ true
here_self c = go (eqb c.order c.order) (eqb c.turn c.turn) (eqb_refl c.order) (eqb_refl c.turn)
  where
    go : (a b : Bool) → T a → T b → (a && b) ≡ true
    go true true h k = refl
    go true false h k = absurd k
    go false true h k = absurd h
    go false false h k = absurd h

pub here_other : (o x : ℕ) (c : Cursor) → (c.order ≡ o → c.turn ≡ x → ⊥) → here o x c ≡ false
here_other o x c n = go (eqb c.order o) (eqb c.turn x) (eqb→eq c.order o) (eqb→eq c.turn x)
  where
    go : (a b : Bool) → (T a → c.order ≡ o) → (T b → c.turn ≡ x) → (a && b) ≡ false
    go true true h k = absurd (n (h tt) (k tt))
    go true false h k = refl
    go false true h k = refl
    go false false h k = refl

-- a place does not come again: one cursor is at most as far as another
pub data Upto (o x : ℕ) (c : Cursor) : Type 0 where
  earlier : o < c.order → Upto o x c
  level : o ≡ c.order → x ≤ c.turn → Upto o x c

pub upto_past : (o x : ℕ) (y : Step) (c : Cursor) → Upto o x c → Upto o x (past y c)
unfolding past
upto_past o x (local d m l) c u = u
upto_past o x (deal d f) c (earlier h) = earlier h
upto_past o x (deal d f) c (level e h) = level e h
upto_past o x (exchange d e) c (earlier h) = earlier h
upto_past o x (exchange d e) c (level p h) = level p (omega arith)
upto_past o x end c (earlier h) = earlier (omega arith)
upto_past o x end c (level p h) = earlier (omega arith)

pub upto_not : (o x : ℕ) (c : Cursor) → Upto o (suc x) c → o ≡ c.order → x ≡ c.turn → ⊥
upto_not o x c (earlier h) p q = omega arith
upto_not o x c (level e h) p q = omega arith

module _ {S : Type 0} (act : Step → Cursor → S → S) (all : List Step) (s₀ : S) where
  unfoldable pub pos : ℕ → Conf S
  pos zero = conf all origin s₀ []
  pos (suc n) = next act (pos n)

  -- where a walk up to the next exchange comes to
  pub record Reaches (n : ℕ) (out : Conf S) : Type 0 where
    pub to : ℕ
    pub later : n ≤ to
    pub is : out ≡ pos to
    pub halts : Halted out.rest
    pub quietly : (i : ℕ) → n ≤ i → i < to → Exchanging (pos i).rest → ⊥

  stay : (n : ℕ) (out : Conf S) → out ≡ pos n → Halted out.rest → Reaches n out
  stay n out e h = record { to = n; later = omega arith; is = e; halts = h; quietly = λ i p q x. omega arith }

  pass : (n to : ℕ) → (Exchanging (pos n).rest → ⊥) → ((i : ℕ) → suc n ≤ i → i < to → Exchanging (pos i).rest → ⊥)
      → (i : ℕ) → n ≤ i → i < to → Exchanging (pos i).rest → ⊥
  pass n to q r i p l x = go (dec_le (suc n) i)
    where
      go : Dec (suc n ≤ i) → ⊥
      go (yes h) = r i h l x
      go (no h) = let e : i ≡ n = omega arith in q (rw e at x)

  onward : (n : ℕ) (out : Conf S) → (Exchanging (pos n).rest → ⊥) → Reaches (suc n) out → Reaches n out
  onward n out q r =
      record { to = r.to; later = omega arith; is = r.is; halts = r.halts; quietly = pass n r.to q r.quietly }

  not_at : (p : Conf S) (n : ℕ) → p ≡ pos n → (Exchanging p.rest → ⊥) → Exchanging (pos n).rest → ⊥
  not_at p n e q = rw e at q

  pub walk_reaches : (ss : List Step) (c : Cursor) (s : S) (t : List S) (n : ℕ) → conf ss c s t ≡ pos n → Reaches n (walk act ss c s t)
  unfolding walk pos
  walk_reaches [] c s t n e = stay n (conf [] c s t) e tt
  walk_reaches (local d m l ∷ ss) c s t n e =
      onward n _ (not_at _ n e (λ x. x)) (walk_reaches ss _ _ t (suc n) (ap (next act) e))
  walk_reaches (deal d f ∷ ss) c s t n e =
      onward n _ (not_at _ n e (λ x. x)) (walk_reaches ss _ _ t (suc n) (ap (next act) e))
  walk_reaches (exchange d e' ∷ ss) c s t n e = stay n (conf (exchange d e' ∷ ss) c s t) e tt
  walk_reaches (end ∷ ss) c s t n e =
      onward n _ (not_at _ n e (λ x. x)) (walk_reaches ss _ _ (t ++ (s ∷ [])) (suc n) (ap (next act) e))

  -- ---- places

  upto_one : (o x : ℕ) (ss : List Step) (c : Cursor) (s : S) (t : List S) → Upto o x c → Upto o x (one act ss c s t).cur
  upto_one o x [] c s t u = u
  upto_one o x (y ∷ ss) c s t u = upto_past o x y c u

  upto_pos : (o x i j : ℕ) → i ≤ j → Upto o x (pos i).cur → Upto o x (pos j).cur
  unfolding pos
  upto_pos o x i zero h u = let e : i ≡ 0 = omega arith in rw e at u
  upto_pos o x i (suc j) h u = go (dec_le i j) (λ l. upto_pos o x i j l u)
    where
      go : Dec (i ≤ j) → (i ≤ j → Upto o x (pos j).cur) → Upto o x (pos (suc j)).cur
      go (yes l) f = upto_one o x (pos j).rest (pos j).cur (pos j).state (pos j).trail (f l)
      go (no l) f = let e : i ≡ suc j = omega arith in rw e at u

  upto_next : (ss : List Step) (c : Cursor) (s : S) (t : List S) → Exchanging ss → Upto c.order (suc c.turn) (one act ss c s t).cur
  unfolding past
  upto_next [] c s t x = absurd x
  upto_next (local d m l ∷ ss) c s t x = absurd x
  upto_next (deal d f ∷ ss) c s t x = absurd x
  upto_next (exchange d e ∷ ss) c s t x = level refl (omega arith)
  upto_next (end ∷ ss) c s t x = absurd x

  -- no place comes again after its exchange
  pub once : (i j : ℕ) → Exchanging (pos i).rest → i < j → (pos i).cur.order ≡ (pos j).cur.order → (pos i).cur.turn ≡ (pos j).cur.turn → ⊥
  unfolding pos
  once i j x h p q =
      upto_not _ _ (pos j).cur (upto_pos _ _ (suc i) j h (upto_next (pos i).rest (pos i).cur (pos i).state (pos i).trail x)) p q

  -- ---- `seek` finds a position at which a walk halts

  seek_one : (o x : ℕ) (ss : List Step) (c : Cursor) (s : S) (t : List S) → (Exchanging ss → c.order ≡ o → c.turn ≡ x → ⊥)
      → seek o x ss c ≡ seek o x (one act ss c s t).rest (one act ss c s t).cur
  unfolding seek
  seek_one o x [] c s t n = refl
  seek_one o x (local d m l ∷ ss) c s t n = refl
  seek_one o x (deal d f ∷ ss) c s t n = refl
  seek_one o x (exchange d e ∷ ss) c s t n = rw (here_other o x c (n tt))
  seek_one o x (end ∷ ss) c s t n = refl

  seek_from : (o x n j : ℕ) → j ≤ n → ((i : ℕ) → i < n → Exchanging (pos i).rest → (pos i).cur.order ≡ o → (pos i).cur.turn ≡ x → ⊥)
      → seek o x all origin ≡ seek o x (pos j).rest (pos j).cur
  unfolding pos
  seek_from o x n zero h q = refl
  seek_from o x n (suc j) h q =
      seek_from o x n j (omega arith) q ∙ seek_one o x (pos j).rest (pos j).cur (pos j).state (pos j).trail (q j h)

  seek_hit : (ss : List Step) (c : Cursor) → Halted ss → seek c.order c.turn ss c ≡ found ss c
  unfolding seek
  seek_hit [] c h = rw (here_self c)
  seek_hit (local d m l ∷ ss) c h = absurd h
  seek_hit (deal d f ∷ ss) c h = absurd h
  seek_hit (exchange d e ∷ ss) c h = rw (here_self c)
  seek_hit (end ∷ ss) c h = absurd h

  pub seek_pos : (n : ℕ) → Halted (pos n).rest → seek (pos n).cur.order (pos n).cur.turn all origin ≡ found (pos n).rest (pos n).cur
  seek_pos n h = seek_from _ _ n n (omega arith) (λ i l x. once i n x l) ∙ seek_hit _ _ h

  -- ---- the whole walk, and the trail

  whole_one : (ss : List Step) (c : Cursor) (s : S) (t : List S)
      → whole act ss c s t ≡ whole act (one act ss c s t).rest (one act ss c s t).cur (one act ss c s t).state (one act ss c s t).trail
  unfolding whole
  whole_one [] c s t = refl
  whole_one (x ∷ ss) c s t = refl

  pub whole_pos : (n : ℕ) → whole act all origin s₀ [] ≡ whole act (pos n).rest (pos n).cur (pos n).state (pos n).trail
  unfolding pos
  whole_pos zero = refl
  whole_pos (suc n) = whole_pos n ∙ whole_one (pos n).rest (pos n).cur (pos n).state (pos n).trail

  -- the last trail begins with every trail on the way
  pub trail_grows : (ss : List Step) (c : Cursor) (s : S) (t : List S) → (u : List S) × ((whole act ss c s t).trail ≡ t ++ u)
  unfolding whole
  trail_grows [] c s t = ([], sym (append-nil t))
  trail_grows (local d m l ∷ ss) c s t = trail_grows ss _ _ t
  trail_grows (deal d f ∷ ss) c s t = trail_grows ss _ _ t
  trail_grows (exchange d e ∷ ss) c s t = trail_grows ss _ _ t
  trail_grows (end ∷ ss) c s t =
      let r = trail_grows ss (past end c) (act end c s) (t ++ (s ∷ [])) in
      (s ∷ r.0, r.1 ∙ append_assoc t (s ∷ []) r.0)

  pub trail_pos : (n : ℕ) → (u : List S) × ((whole act all origin s₀ []).trail ≡ (pos n).trail ++ u)
  trail_pos n = rw (whole_pos n) (trail_grows (pos n).rest (pos n).cur (pos n).state (pos n).trail)

  -- as many entries as orders are finished
  trail_one : (ss : List Step) (c : Cursor) (s : S) (t : List S) → length t ≡ c.order
      → length (one act ss c s t).trail ≡ (one act ss c s t).cur.order
  unfolding past
  trail_one [] c s t h = h
  trail_one (local d m l ∷ ss) c s t h = h
  trail_one (deal d f ∷ ss) c s t h = h
  trail_one (exchange d e ∷ ss) c s t h = h
  trail_one (end ∷ ss) c s t h = simp (length-append, add-one, h)

  pub trail_length : (n : ℕ) → length (pos n).trail ≡ (pos n).cur.order
  unfolding pos
  trail_length zero = refl
  trail_length (suc n) = trail_one (pos n).rest (pos n).cur (pos n).state (pos n).trail (trail_length n)

  ends_one : (ss : List Step) (c : Cursor) (s : S) (t : List S) (k : ℕ) → ends ss + c.order ≡ k
      → ends (one act ss c s t).rest + (one act ss c s t).cur.order ≡ k
  unfolding past ends
  ends_one [] c s t k h = h
  ends_one (local d m l ∷ ss) c s t k h = h
  ends_one (deal d f ∷ ss) c s t k h = h
  ends_one (exchange d e ∷ ss) c s t k h = h
  ends_one (end ∷ ss) c s t k h = omega arith

  pub ends_pos : (n : ℕ) → ends (pos n).rest + (pos n).cur.order ≡ ends all
  unfolding pos
  ends_pos zero = add-zero (ends all)
  ends_pos (suc n) = ends_one (pos n).rest (pos n).cur (pos n).state (pos n).trail (ends all) (ends_pos n)

  -- a walk at its end stays there
  still : (ss : List Step) (c : Cursor) (s : S) (t : List S) → ss ≡ [] → conf ss c s t ≡ one act ss c s t
  still [] c s t e = refl
  still (x ∷ ss) c s t e = cc

  pub rest_later : (i j : ℕ) → i ≤ j → (pos i).rest ≡ [] → pos i ≡ pos j
  unfolding pos
  rest_later i zero h e = let p : i ≡ 0 = omega arith in rw p
  rest_later i (suc j) h e = go (dec_le i j) (λ l. rest_later i j l e)
    where
      go : Dec (i ≤ j) → (i ≤ j → pos i ≡ pos j) → pos i ≡ next act (pos j)
      go (yes l) f = rw (← f l) (still (pos i).rest (pos i).cur (pos i).state (pos i).trail e)
      go (no l) f = let p : i ≡ suc j = omega arith in rw p

  pub exchange_or_end : (ss : List Step) → Halted ss → Exchanging ss ⊎ (ss ≡ [])
  exchange_or_end [] h = inr refl
  exchange_or_end (local d m l ∷ ss) h = absurd h
  exchange_or_end (deal d f ∷ ss) h = absurd h
  exchange_or_end (exchange d e ∷ ss) h = inl tt
  exchange_or_end (end ∷ ss) h = absurd h

  -- two walks that halt next after a position halt at one
  pub one_halt : (k i j : ℕ) → k ≤ i → k ≤ j → Halted (pos i).rest → Halted (pos j).rest
      → ((x : ℕ) → k ≤ x → x < i → Exchanging (pos x).rest → ⊥)
      → ((x : ℕ) → k ≤ x → x < j → Exchanging (pos x).rest → ⊥) → pos i ≡ pos j
  one_halt k i j a b h g p q = go (dec_le (suc i) j) (dec_le (suc j) i) (exchange_or_end _ h) (exchange_or_end _ g)
    where
      go : Dec (suc i ≤ j) → Dec (suc j ≤ i) → Exchanging (pos i).rest ⊎ ((pos i).rest ≡ []) → Exchanging (pos j).rest ⊎ ((pos j).rest ≡ [])
          → pos i ≡ pos j
      go (yes l) d (inl x) y = absurd (q i a l x)
      go (yes l) d (inr e) y = rest_later i j (omega arith) e
      go (no l) (yes m) x (inl y) = absurd (p j b m y)
      go (no l) (yes m) x (inr e) = sym (rest_later j i (omega arith) e)
      go (no l) (no m) x y = let e : i ≡ j = omega arith in rw e

  -- a place that an exchange has belongs to one position
  pub same_place : (i n : ℕ) → Halted (pos i).rest → Exchanging (pos n).rest → (pos i).cur.order ≡ (pos n).cur.order
      → (pos i).cur.turn ≡ (pos n).cur.turn
      → pos i ≡ pos n
  same_place i n h x p q = go (dec_le (suc i) n) (dec_le (suc n) i) (exchange_or_end (pos i).rest h)
    where
      go : Dec (suc i ≤ n) → Dec (suc n ≤ i) → Exchanging (pos i).rest ⊎ ((pos i).rest ≡ []) → pos i ≡ pos n
      go (yes l) d (inl y) = absurd (once i n y l p q)
      go (yes l) d (inr e) = rest_later i n (omega arith) e
      go (no l) (yes k) y = absurd (once n i x k (sym p) (sym q))
      go (no l) (no k) y = let e : i ≡ n = omega arith in rw e

  -- the steps left grow fewer, and past an exchange strictly
  shrink_one : (ss : List Step) (c : Cursor) (s : S) (t : List S) → length (one act ss c s t).rest ≤ length ss
  shrink_one [] c s t = omega arith
  shrink_one (x ∷ ss) c s t = omega arith

  shrink_exchange : (ss : List Step) (c : Cursor) (s : S) (t : List S) → Exchanging ss → length (one act ss c s t).rest < length ss
  shrink_exchange [] c s t e = absurd e
  shrink_exchange (x ∷ ss) c s t e = omega arith

  shrink : (i j : ℕ) → i ≤ j → length (pos j).rest ≤ length (pos i).rest
  unfolding pos
  shrink i zero h = let e : i ≡ 0 = omega arith in rw e (omega arith)
  shrink i (suc j) h = go (dec_le i j) (λ l. shrink i j l)
    where
      go : Dec (i ≤ j) → (i ≤ j → length (pos j).rest ≤ length (pos i).rest) → length (next act (pos j)).rest ≤ length (pos i).rest
      go (yes l) f = omega (arith, f l, shrink_one (pos j).rest (pos j).cur (pos j).state (pos j).trail)
      go (no l) f = let e : i ≡ suc j = omega arith in rw e (omega arith)

  pub shrinks : (i j : ℕ) → Exchanging (pos i).rest → i < j → length (pos j).rest < length (pos i).rest
  unfolding pos
  shrinks i j x h = omega (arith, shrink (suc i) j h, shrink_exchange (pos i).rest (pos i).cur (pos i).state (pos i).trail x)
