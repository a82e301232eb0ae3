-- The known side of a product with a known value has the masks 0 on every host, and is spoken like document 01's product: of any script
-- whose joint walk has such sides, and so of every job. Assumes nothing.
use mathlib.Core.Path.{◌≡◌, sym, ap, ◌∙◌, subst}
use mathlib.Core.List.{List, [], ◌∷◌, map}
use Prim.Native.Nat.{ℕ, zero, suc}
use native.Mathlib.Omega.{arith}
use Rattle.gates.specs.Steps.{at, Exchange, product, known_product, Step, exchange, Cursor, origin, past, say1, say2, new_at}
use Rattle.gates.specs.Walk.{Conf, conf, next, Exchanging}
use Rattle.gates.specs.Hosts.{Pair, Triple, of0, of1, of2, act0, joint1, joint2, act}
use Rattle.gates.specs.Known.{KnownSide, SideAt, AtEach}
use Rattle.gates.proofs.LaneByLane.{of0_act}
use Rattle.tables.specs.Table.{Row, rows}
use Rattle.programs.specs.declared.Order.{Order}
use Rattle.programs.specs.Orders.{program}
use Rattle.programs.proofs.Known.{AllTold, told_program, Known, job_known}
use Rattle.jobs.specs.Job.{orders, job_gates}
use Rattle.calls.specs.Places.{Found, nowhere, found, seek}
use Rattle.calls.specs.Calls.{State, word_at}
use Rattle.calls.proofs.Scripts.{job_made}
use Rattle.runs.specs.Runs.{Stage, staged, Spoken, placed_word, Among, Dealer, Side, going, world, Call, Run}
use Rattle.runs.specs.KnownSides.{AtKnown, Sides, KnownSides}
use Rattle.runs.proofs.Places.{pos, seek_pos}
use Rattle.runs.proofs.Ties.{Tied}
use Rattle.runs.proofs.Kept.{all, j₀, position, go1, go2, Ok, ok, kept}

-- what stands at a place: the steps from there on, and the word spoken there on lanes j
abbrev ahead : Found → List Step
ahead nowhere = []
ahead (found ss c) = ss

abbrev word_there : (Exchange → Cursor → Triple → ℕ) → Triple → Found → ℕ
word_there say j nowhere = 0
word_there say j (found ss c) = word_at say ss c j

-- what host 0 has on its own walk, from the joint walk
on_host0 : (A B : List ℕ) (ss : List Step) (c : Cursor) (j : Triple) → AtEach (act A B) (λ x j. SideAt x (of0 j)) ss c j
    → AtEach (act0 A B) SideAt ss c (of0 j)
on_host0 A B [] c j h = tt
on_host0 A B (x ∷ ss) c j h =
    (h.0, subst (AtEach (act0 A B) SideAt ss (past x c)) (sym (of0_act A B x c j)) (on_host0 A B ss (past x c) (act A B x c j) h.1))

module _ (S : Stage) (known : Known S.A S.B S.script.steps) where
  abbrev A : List ℕ
  A = S.A

  abbrev B : List ℕ
  B = S.B

  abbrev Here : Conf Triple → Type 0
  Here p = AtEach (act A B) (λ x j. SideAt x (of0 j)) p.rest p.cur p.state

  further : (p : Conf Triple) → Here p → Here (next (act A B) p)
  further p h = go p.rest h
    where
      go : (ss : List Step) → Here (conf ss p.cur p.state p.trail) → Here (next (act A B) (conf ss p.cur p.state p.trail))
      go [] h = tt
      go (x ∷ ss) h = h.1

  at_position : (n : ℕ) → Here (position S n)
  unfolding pos
  at_position zero = known origin (j₀ S)
  at_position (suc n) = further (position S n) (at_position n)

  -- a host that holds lanes h of the joint walk at position n, and stands at such a product
  module _ (h : Triple → Pair) (say : Exchange → Cursor → Triple → ℕ) (s : State) (t : List Pair) (said : List Spoken)
      (X : Tied A B (all S) (j₀ S) h say s t said) (k : AtKnown S.script s) where
    abbrev p : Conf Triple
    p = position S X.n

    abbrev e : Exchange
    e = known_product k.ops k.a k.b

    place : found p.rest p.cur ≡ found (exchange k.target e ∷ k.later) k.cursor
    place =
        sym (seek_pos (act A B) (all S) (j₀ S) X.n X.halts)
        ∙ ap (λ (x : State). seek x.order x.turn (all S) origin) (sym X.is) ∙ k.here

    rest_is : p.rest ≡ exchange k.target e ∷ k.later
    rest_is = ap ahead place

    side : KnownSide k.ops k.a (of0 p.state)
    side = (subst (λ (ss : List Step). AtEach (act A B) (λ x j. SideAt x (of0 j)) ss p.cur p.state) rest_is (at_position X.n)).0

    -- and has spoken the joint walk's word there
    spoken : (v : ℕ) → say e k.cursor p.state ≡ v → Among (placed_word s v) said
    unfolding word_at
    spoken v q =
        let speaks : Exchanging p.rest = subst (λ (ss : List Step). Exchanging ss) (sym rest_is) tt in
        let w : word_at say p.rest p.cur p.state ≡ v = ap (word_there say p.state) place ∙ q in
        subst (λ (x : Spoken). Among x said)
        (ap {B = Spoken} (λ (x : ℕ). (p.cur.order, p.cur.turn, x)) w ∙ ap {B = Spoken} (λ (x : State). placed_word x v) (sym X.is))
        (X.heard.every X.n (omega arith) speaks)

  stands1 : {cs : List Call} {z : Dealer} {buf : List ℕ} {s : State} {t : List Pair} {said : List Spoken} {two : Side}
      → Run S cs (world z buf (going s t said) two) → Tied A B (all S) (j₀ S) of1 (joint1 A B) s t said
  stands1 {s = s} {t = t} {said = said} r = go (kept S r)
    where
      go : {z : Dealer} {buf : List ℕ} {two : Side} → Ok S (world z buf (going s t said) two)
          → Tied A B (all S) (j₀ S) of1 (joint1 A B) s t said
      go (ok z (go1 X) two q) = X

  stands2 : {cs : List Call} {z : Dealer} {buf : List ℕ} {one : Side} {s : State} {t : List Pair} {said : List Spoken}
      → Run S cs (world z buf one (going s t said)) → Tied A B (all S) (j₀ S) of2 (joint2 A B) s t said
  stands2 {s = s} {t = t} {said = said} r = go (kept S r)
    where
      go : {z : Dealer} {buf : List ℕ} {one : Side} → Ok S (world z buf one (going s t said))
          → Tied A B (all S) (j₀ S) of2 (joint2 A B) s t said
      go (ok z one (go2 Y) q) = Y

  word1 : (s : State) (t : List Pair) (said : List Spoken) (X : Tied A B (all S) (j₀ S) of1 (joint1 A B) s t said)
      (k : AtKnown S.script s)
      → Among (placed_word s (say1 (product k.ops k.a k.b) s.m s.mask 0 (at A k.cursor.a))) said
  unfolding joint1 new_at
  word1 s t said X k =
      let z = side of1 (joint1 A B) s t said X k in
      let j = (position S X.n).state in
      spoken of1 (joint1 A B) s t said X k _
      (z.like.host1 k.a k.b j.0 j.1 _ _ z.l1
      ∙ ap (λ (x : State). say1 (product k.ops k.a k.b) x.m x.mask 0 (at A k.cursor.a)) (sym X.is))

  word2 : (s : State) (t : List Pair) (said : List Spoken) (Y : Tied A B (all S) (j₀ S) of2 (joint2 A B) s t said)
      (k : AtKnown S.script s)
      → Among (placed_word s (say2 (product k.ops k.a k.b) s.m s.mask 0 (at B k.cursor.b))) said
  unfolding joint2
  word2 s t said Y k =
      let z = side of2 (joint2 A B) s t said Y k in
      let j = (position S Y.n).state in
      spoken of2 (joint2 A B) s t said Y k _
      (z.like.host2 k.a k.b j.0 j.2 _ _ z.l2
      ∙ ap (λ (x : State). say2 (product k.ops k.a k.b) x.m x.mask 0 (at B k.cursor.b)) (sym Y.is))

  pub sides : Sides S
  sides =
      record {
        host0 = on_host0 A B (all S) origin (j₀ S) (known origin (j₀ S));
        host1 = λ cs z buf s t said two r k.
            let X = stands1 r in
            ap (λ (x : State). at x.mask k.a) X.is ∙ (side of1 (joint1 A B) s t said X k).l1;
        host2 = λ cs z buf one s t said r k.
            let Y = stands2 r in
            ap (λ (x : State). at x.mask k.a) Y.is ∙ (side of2 (joint2 A B) s t said Y k).l2;
        says1 = λ cs z buf s t said two r k. word1 s t said (stands1 r) k;
        says2 = λ cs z buf one s t said r k. word2 s t said (stands2 r) k;
      }

-- ---- every job, accepted or not

all_told : (w : ℕ) (ps : List Row) (os : List Order) → AllTold w (map (program w ps) os)
all_told w ps [] = tt
all_told w ps (o ∷ os) = (told_program w ps o, all_told w ps os)

pub known_sides : KnownSides
unfolding job_gates
known_sides =
    record {
      job = λ w S.
          sides (staged w S)
          (subst (Known S.A S.B) (sym (job_made w S.job S.table))
          (job_known w S.A S.B (job_gates w S.job S.table) (all_told w (rows S.table) (orders S.job))));
    }
