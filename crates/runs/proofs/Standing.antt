-- Wherever a host stands, a slot that the order at hand writes behind its last product or refresh, or not at all, holds what it held just
-- before that order. Assumes nothing.
use mathlib.Core.Path.{◌≡◌, refl, sym, ap, ◌∙◌, subst}
use mathlib.Core.List.{List, [], ◌∷◌, ◌++◌}
use Prim.Native.Nat.{ℕ, zero, suc, ◌+◌, ◌-◌, ◌<◌, ◌≤◌}
use native.Mathlib.Nat.{zero-add}
use native.Mathlib.Omega.{arith}
use lib.ListN.{get_or, length, length-append, get_or-append}
use lib.Seq.{get_or-take, get_or_at}
use Rattle.shares.specs.Gates.{Share}
use Rattle.gates.specs.Steps.{at, Exchange, Step, local, deal, exchange, end, Cursor, origin, past}
use Rattle.gates.specs.Walk.{Conf, conf, next, whole}
use Rattle.gates.specs.Hosts.{Pair, Triple, share, of1, of2, joint1, joint2, act}
use Rattle.calls.specs.Scripts.{ends, orders_in, Closed}
use Rattle.calls.specs.Calls.{State}
use Rattle.runs.specs.Runs.{Stage, Spoken, Dealer, ready, Side, going, World, world, Call, Run, side_order, order1}
use Rattle.runs.specs.Orders.{trail, after_order, before_order, share_before, Unwritten, Silent, WrittenBehind}
use Rattle.runs.specs.Returned.{UnwrittenFrom}
use Rattle.runs.proofs.Places.{Halted, pos, whole_pos, trail_pos, trail_length, ends_pos}
use Rattle.runs.proofs.Ties.{joint, Tied}
use Rattle.runs.proofs.Kept.{all, j₀, last, position, dealt_all, OneOk, wait1, go1, TwoOk, wait2, go2, Ok, ok, kept}
use Rattle.runs.proofs.Unwritten.{act_misses, closed_from, halted_speaks, misses_or, behind_behind, never_behind}
use Rattle.runs.proofs.Spared.{kept_between}

module _ (A B : List ℕ) (all : List Step) (j₀ : Triple) where
  abbrev at_n : ℕ → Conf Triple
  at_n n = joint A B all j₀ n

  -- as the order before order q left the lanes, in a trail
  before : ℕ → List Triple → Triple
  before zero t = j₀
  before (suc q) t = get_or t q j₀

  -- what the order at hand has still to do, and slot i while a product or refresh of it is not done
  record Current (i : ℕ) (p : Conf Triple) : Type 0 where
    pub later : (k q : ℕ) → q ≡ p.cur.order + k → WrittenBehind i q all → WrittenBehind i k p.rest
    pub same : WrittenBehind i p.cur.order all → (Silent p.rest → ⊥)
        → share p.state i ≡ share (before p.cur.order p.trail) i
    pub count : length p.trail ≡ p.cur.order

  here : (i : ℕ) (p : Conf Triple) → Current i p → WrittenBehind i p.cur.order all → WrittenBehind i 0 p.rest
  here i p z u = z.later 0 p.cur.order (omega arith) u

  module _ (i : ℕ) (ss : List Step) (c : Cursor) (j : Triple) (t : List Triple) where
    -- past a step of the order at hand
    within : (x : Step) (c' : Cursor) (j' : Triple) → c'.order ≡ c.order → ((k : ℕ) → WrittenBehind i k (x ∷ ss) → WrittenBehind i k ss)
        → (Silent (x ∷ ss) → Silent ss) → (WrittenBehind i 0 (x ∷ ss) → (Silent ss → ⊥) → share j' i ≡ share j i)
        → Current i (conf (x ∷ ss) c j t) → Current i (conf ss c' j' t)
    within x c' j' e f o g z =
        record {
          later = λ k q h u. f k (z.later k q (omega (arith, h, e)) u);
          same = λ u n.
              let v : WrittenBehind i c.order all = subst (λ (q : ℕ). WrittenBehind i q all) e u in
              g (here i (conf (x ∷ ss) c j t) z v) n ∙ z.same v (λ y. n (o y)) ∙ ap (λ (q : ℕ). share (before q t) i) (sym e);
          count = omega (arith, z.count, e);
        }

    behind_end : Current i (conf (end ∷ ss) c j t) → Current i (conf ss (past end c) (act A B end c j) (t ++ (j ∷ [])))
    unfolding past act before
    behind_end z =
        record {
          later = λ k q h u. z.later (suc k) q (omega (arith, h)) u;
          same = λ u n. ap (λ (x : Triple). share x i) (sym (get_or_at t j [] j₀ c.order z.count));
          count = omega (arith, length-append t (j ∷ []), z.count);
        }

  current_next : (i : ℕ) (ss : List Step) (c : Cursor) (j : Triple) (t : List Triple) → Current i (conf ss c j t)
      → Current i (next (act A B) (conf ss c j t))
  unfolding past
  current_next i [] c j t z = z
  current_next i (local d m l ∷ ss) c j t z =
      within i ss c j t (local d m l) _ _ refl (λ k. behind_behind i k (local d m l) ss tt) (λ y. y)
      (λ u n. act_misses A B (local d m l) c j i (misses_or u.0 n)) z
  current_next i (deal d f ∷ ss) c j t z =
      within i ss c j t (deal d f) _ _ refl (λ k. behind_behind i k (deal d f) ss tt) (λ y. y)
      (λ u n. act_misses A B (deal d f) c j i (misses_or u.0 n)) z
  current_next i (exchange d e ∷ ss) c j t z =
      within i ss c j t (exchange d e) _ _ refl (λ k. behind_behind i k (exchange d e) ss tt) (λ y. absurd y)
      (λ u n. act_misses A B (exchange d e) c j i (misses_or u.0 n)) z
  current_next i (end ∷ ss) c j t z = behind_end i ss c j t z

  current : (i n : ℕ) → Current i (at_n n)
  unfolding pos before
  current i zero =
      record {
        later = λ k q h u. let e : q ≡ k = omega (arith, h) in subst (λ (x : ℕ). WrittenBehind i x all) e u;
        same = λ u n. refl;
        count = refl;
      }
  current i (suc n) = current_next i (at_n n).rest (at_n n).cur (at_n n).state (at_n n).trail (current i n)

  -- ---- the last position

  shorter : (ss : List Step) (c : Cursor) (j : Triple) (t : List Triple) → length (next (act A B) (conf ss c j t)).rest ≡ length ss - 1
  shorter [] c j t = refl
  shorter (x ∷ ss) c j t = omega arith

  pub rest_length : (n : ℕ) → length (joint A B all j₀ n).rest ≡ length all - n
  unfolding pos
  rest_length zero = omega arith
  rest_length (suc n) =
      let p : Conf Triple = joint A B all j₀ n in omega (arith, shorter p.rest p.cur p.state p.trail, rest_length n)

  whole_here : (ss : List Step) (c : Cursor) (j : Triple) (t : List Triple) → length ss ≡ 0 → whole (act A B) ss c j t ≡ conf ss c j t
  unfolding whole
  whole_here [] c j t e = refl
  whole_here (x ∷ ss) c j t e = absurd (omega arith)

  pub last_is : whole (act A B) all origin j₀ [] ≡ joint A B all j₀ (length all)
  unfolding pos
  last_is =
      let p : Conf Triple = joint A B all j₀ (length all) in
      whole_pos (act A B) all j₀ (length all)
      ∙ whole_here p.rest p.cur p.state p.trail (omega (arith, rest_length (length all)))

module _ (S : Stage) where
  abbrev A : List ℕ
  A = S.A

  abbrev B : List ℕ
  B = S.B

  abbrev point : ℕ → Conf Triple
  point n = position S n

  before_is : (n q : ℕ) → (point n).cur.order ≡ q → before A B (all S) (j₀ S) q (point n).trail ≡ before_order S q
  unfolding before before_order after_order trail
  before_is n zero e = refl
  before_is n (suc q) e =
      let r = trail_pos (act A B) (all S) (j₀ S) n in
      let l : q < length (point n).trail = omega (arith, trail_length (act A B) (all S) (j₀ S) n, e) in
      sym (ap (λ (u : List Triple). get_or u q (j₀ S)) r.1 ∙ get_or-append (point n).trail r.0 (j₀ S) q l)

  -- slot i at position n, where the order at hand has still a product or refresh to do, or no end
  stands_at : (n i : ℕ) → (Silent (point n).rest → ⊥) → WrittenBehind i (point n).cur.order (all S)
      → share (point n).state i ≡ share_before S (point n).cur.order i
  stands_at n i o u = (current A B (all S) (j₀ S) i n).same u o ∙ ap (λ (x : Triple). share x i) (before_is n _ refl)

  inside : (n : ℕ) → (point n).cur.order ≤ orders_in S.script
  inside n = omega (arith, ends_pos (act A B) (all S) (j₀ S) n)

  -- behind order p, where no order from order p on writes it
  pub stands_since : (p i n : ℕ) → Halted (point n).rest → UnwrittenFrom S p i → p ≤ (point n).cur.order
      → share (point n).state i ≡ share_before S p i
  stands_since p i n o u h =
      stands_at n i (halted_speaks (point n).rest o) (never_behind i (point n).cur.order (all S) (u (point n).cur.order h))
      ∙ kept_between S p i (point n).cur.order h (inside n) (λ q a b. u q a)

  -- the orders that a host is past are the script's
  pub order1_inside : {x : Side} → OneOk S x → side_order x ≤ orders_in S.script
  order1_inside (wait1 h) = omega arith
  order1_inside (go1 X) = rw X.is (inside X.n)

  pub order2_inside : {x : Side} → TwoOk S x → side_order x ≤ orders_in S.script
  order2_inside (wait2 h) = omega arith
  order2_inside (go2 X) = rw X.is (inside X.n)

  pub in_script : {cs : List Call} (v : World) → Run S cs v → (q : ℕ) → q < order1 v → q < orders_in S.script
  in_script v r q l = go v (kept S r) l
    where
      go : (v : World) → Ok S v → q < order1 v → q < orders_in S.script
      go _ (ok z one two a) l = omega (arith, l, order1_inside one)

  module _ (h : Triple → Pair) (say : Exchange → Cursor → Triple → ℕ) (s : State) (t : List Pair) (said : List Spoken)
      (Z : Tied A B (all S) (j₀ S) h say s t said) (i : ℕ) where
    order_is : s.order ≡ (point Z.n).cur.order
    order_is = ap (λ (x : State). x.order) Z.is

    tied_stands : WrittenBehind i s.order (all S) → share (point Z.n).state i ≡ share_before S s.order i
    tied_stands u =
        stands_at Z.n i (halted_speaks (point Z.n).rest Z.halts) (subst (λ (q : ℕ). WrittenBehind i q (all S)) order_is u)
        ∙ ap (λ (q : ℕ). share_before S q i) (sym order_is)

  -- ---- host by host

  pub stands1 : {cs : List Call} {z : Dealer} {buf : List ℕ} {s : State} {t : List Pair} {said : List Spoken} {two : Side}
      → Run S cs (world z buf (going s t said) two)
      → (i : ℕ) → WrittenBehind i s.order (all S)
      → (at s.m i ≡ (share_before S s.order i).m) × (at s.mask i ≡ (share_before S s.order i).l1)
  stands1 {s = s} {t = t} {said = said} r i u = go (kept S r)
    where
      go : {z : Dealer} {buf : List ℕ} {two : Side} → Ok S (world z buf (going s t said) two)
          → (at s.m i ≡ (share_before S s.order i).m) × (at s.mask i ≡ (share_before S s.order i).l1)
      go (ok z (go1 X) two a) =
          let e = tied_stands of1 (joint1 A B) s t said X i u in (
            ap (λ (x : State). at x.m i) X.is ∙ ap (λ (x : Share ℕ). x.m) e,
            ap (λ (x : State). at x.mask i) X.is ∙ ap (λ (x : Share ℕ). x.l1) e,
          )

  pub stands2 : {cs : List Call} {z : Dealer} {buf : List ℕ} {one : Side} {s : State} {t : List Pair} {said : List Spoken}
      → Run S cs (world z buf one (going s t said))
      → (i : ℕ) → WrittenBehind i s.order (all S)
      → (at s.m i ≡ (share_before S s.order i).m) × (at s.mask i ≡ (share_before S s.order i).l2)
  stands2 {s = s} {t = t} {said = said} r i u = go (kept S r)
    where
      go : {z : Dealer} {buf : List ℕ} {one : Side} → Ok S (world z buf one (going s t said))
          → (at s.m i ≡ (share_before S s.order i).m) × (at s.mask i ≡ (share_before S s.order i).l2)
      go (ok z one (go2 Y) a) =
          let e = tied_stands of2 (joint2 A B) s t said Y i u in (
            ap (λ (x : State). at x.m i) Y.is ∙ ap (λ (x : Share ℕ). x.m) e,
            ap (λ (x : State). at x.mask i) Y.is ∙ ap (λ (x : Share ℕ). x.l2) e,
          )

  -- the end of the joint walk, past every order
  last_order : (point (length (all S))).cur.order ≡ orders_in S.script
  unfolding ends
  last_order =
      go (point (length (all S))).rest (ends_pos (act A B) (all S) (j₀ S) (length (all S)))
      (rest_length A B (all S) (j₀ S) (length (all S)))
    where
      go : (ss : List Step) → ends ss + (point (length (all S))).cur.order ≡ ends (all S) → length ss ≡ length (all S) - length (all S)
          → (point (length (all S))).cur.order ≡ ends (all S)
      go [] e l = sym (zero-add _) ∙ e
      go (x ∷ ss) e l = absurd (omega arith)

  last_halts : Halted (point (length (all S))).rest
  last_halts = go (point (length (all S))).rest (rest_length A B (all S) (j₀ S) (length (all S)))
    where
      go : (ss : List Step) → length ss ≡ length (all S) - length (all S) → Halted ss
      go [] l = tt
      go (x ∷ ss) l = absurd (omega arith)

  pub last_since : (p i : ℕ) → UnwrittenFrom S p i → p ≤ orders_in S.script → share (last S).state i ≡ share_before S p i
  last_since p i u h =
      ap (λ (x : Conf Triple). share x.state i) (last_is A B (all S) (j₀ S))
      ∙ stands_since p i (length (all S)) last_halts u (omega (arith, h, last_order))

  last_stands : Closed (all S) → (i : ℕ) → share (last S).state i ≡ share_before S (orders_in S.script) i
  last_stands shut i =
      let n : ℕ = length (all S) in
      let u : Unwritten i (point n).cur.order (all S) = closed_from i (all S) shut (point n).cur.order (omega (arith, last_order)) in
      ap (λ (p : Conf Triple). share p.state i) (last_is A B (all S) (j₀ S))
      ∙ stands_at n i (halted_speaks (point n).rest last_halts) (never_behind i (point n).cur.order (all S) u)
      ∙ ap (λ (q : ℕ). share_before S q i) last_order

  pub stands0 : {cs : List Call} {r : Pair} {t : List Pair} {buf : List ℕ} {one two : Side} → Closed (all S)
      → Run S cs (world (ready r t) buf one two)
      → (i : ℕ) → i < S.script.slots
      → (at r.0 i ≡ (share_before S (orders_in S.script) i).l1) × (at r.1 i ≡ (share_before S (orders_in S.script) i).l2)
  stands0 {r = r} {t = t} shut R i h = go (kept S R)
    where
      go : {buf : List ℕ} {one two : Side} → Ok S (world (ready r t) buf one two)
          → (at r.0 i ≡ (share_before S (orders_in S.script) i).l1) × (at r.1 i ≡ (share_before S (orders_in S.script) i).l2)
      go (ok (dealt_all p g e k) one two a) =
          let z = last_stands shut i in (
            ap (λ (x : Pair). at x.0 i) e ∙ get_or-take S.script.slots (last S).state.1 i 0 h ∙ ap (λ (x : Share ℕ). x.l1) z,
            ap (λ (x : Pair). at x.1 i) e ∙ get_or-take S.script.slots (last S).state.2 i 0 h ∙ ap (λ (x : Share ℕ). x.l2) z,
          )
