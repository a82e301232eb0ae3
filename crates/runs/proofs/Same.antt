-- Every run is one of document 01's own: lent exactly what that says, with the same calls, comes to the same world. Assumes nothing.
use mathlib.Core.Path.{◌≡◌, refl, sym, ap, ◌∙◌, subst}
use mathlib.Core.Bool.{Bool, true, false, cond}
use mathlib.Core.List.{List, [], ◌∷◌, ◌++◌, map}
use Prim.Native.Nat.{ℕ, suc, ◌≤◌}
use native.Mathlib.Omega.{arith}
use borrow.Author.Tests.{le-ltb, eq-eqb}
use lib.Dec.{ltb}
use lib.ListN.{length}
use Rattle.gates.specs.Steps.{origin}
use Rattle.gates.specs.Walk.{Conf, Exchanging}
use Rattle.gates.specs.Hosts.{Pair, Triple, of1, of2, joint1, joint2, act, Supplied}
use Rattle.gates.proofs.Seen.{through}
use Rattle.jobs.specs.Job.{short_b, short_deals}
use Rattle.calls.specs.Scripts.{script_cost}
use Rattle.calls.specs.Places.{seek}
use Rattle.calls.specs.Lent.{worker2, worker_with, or_else, lists_fault, lent_fault}
use Rattle.calls.specs.Calls.{State, Answer, fresh2, word_at, spoken_at, state_of, start_walk, start, hear_walk, found_of, resume, hear}
use Rattle.runs.specs.Runs.{Stage, Spoken, placed_word, Among, ready, Side, waiting, going, World, world, Call, starting1, starting2}
use Rattle.runs.specs.Runs.{hearing1, hearing2, lent1, lent2, held, started, stepped, Completes, prepares, starts1, starts2, hears1}
use Rattle.runs.specs.Runs.{hears2, Run, begin, complete, refuse}
use Rattle.runs.specs.Strict.{Narrow, none, refuses, StrictRun, Strict}
use Rattle.runs.proofs.Places.{Halted, one_halt}
use Rattle.runs.proofs.Ties.{shadow2, words, Went, starts, hears_on, word_right}
use Rattle.runs.proofs.Refusals.{start_none, hear_none}
use Rattle.runs.proofs.Started.{or_else_none}
use Rattle.runs.proofs.Kept.{all, j₀, position, Tied2, Heard1, HasDeals, not_yet, dealt_all, go1, wait2, go2, Ok, ok, supplied}
use Rattle.runs.proofs.Kept.{deals_fit, kept}
use Rattle.runs.proofs.Progress.{start_zero, hear_zero}
use Rattle.runs.proofs.Strict.{resume_number, moved1, moved2, unheard, wide, longer, BothSpent, both, spent, start_other}
use Rattle.runs.proofs.Strict.{hear_other1, strictly_ended, finished_all, next_run, carried, begun}

module _ (S : Stage) where
  abbrev A : List ℕ
  A = S.A

  abbrev B : List ℕ
  B = S.B

  abbrev at_n : ℕ → Conf Triple
  at_n n = position S n

  -- ---- host 1 takes no notice of the deals

  started_same1 : (D E : List ℕ) (s : State) → started S (lent1 S E) s ≡ started S (lent1 S D) s
  unfolding start lent_fault lists_fault worker_with start_walk
  started_same1 D E s = refl

  stepped_same1 : (D E : List ℕ) (s : State) (v : ℕ) (t : List Pair) (said : List Spoken)
      → stepped S (lent1 S E) s v t said ≡ stepped S (lent1 S D) s v t said
  unfolding hear lent_fault lists_fault worker_with found_of
  stepped_same1 D E s v t said = refl

  -- ---- host 2, on two lists that both begin with the deals

  module _ (D E : List ℕ) (g : HasDeals S D) (f : HasDeals S E) where
    abbrev Went2 : (F : List ℕ) → HasDeals S F → ℕ → List Pair → Answer → List Pair → Type 0
    Went2 F x = Went A B (all S) (j₀ S) (worker2 B F) of2 (joint2 A B) (joint1 A B) (Supplied A B F) (shadow2 A B F) x

    answer_of : Conf Triple → Answer
    answer_of p =
        record {
          number = 0;
          index = 0;
          spoken = spoken_at p.rest p.cur;
          word = word_at (joint2 A B) p.rest p.cur p.state;
          state = state_of (through of2 p);
        }

    same_went : (k : ℕ) (t tr ur : List Pair) (a b : Answer) → Went2 D g k t a tr → Went2 E f k t b ur → (a ≡ b) × (t ++ tr ≡ t ++ ur)
    unfolding answer_of
    same_went k t tr ur a b X Y =
        let e : at_n X.to ≡ at_n Y.to =
        one_halt (act A B) (all S) (j₀ S) k X.to Y.to X.later Y.later X.halts Y.halts X.quietly Y.quietly in
        (X.is ∙ ap answer_of e ∙ sym Y.is, X.whole_trail ∙ ap (λ (p : Conf Triple). (through of2 p).trail) e ∙ sym Y.whole_trail)

    side_path : {s s' : State} {t t' : List Pair} {u u' : List Spoken} → s ≡ s' → t ≡ t' → u ≡ u' → going s t u ≡ going s' t' u'
    side_path p q r = rw (p, q, r)

    started_same2 : (s : State) → held S s ≡ (S.rm, S.r2)
        → (start (lent2 S D) (held S s)).number ≡ 0 → (start (lent2 S E) (held S s)).number ≡ 0
        → started S (lent2 S E) s ≡ started S (lent2 S D) s
    unfolding worker_with start_walk
    started_same2 s h e e' =
        let x = (start_none (lent2 S D) (held S s) e).1 in
        let y = (start_none (lent2 S E) (held S s) e').1 in
        let X =
        starts A B (all S) (j₀ S) (worker2 B D) of2 (joint2 A B) (joint1 A B) (Supplied A B D) (shadow2 A B D) g
        (held S s) (ap {B = Pair} (λ (p : Pair). fresh2 p) h) in
        let Y =
        starts A B (all S) (j₀ S) (worker2 B E) of2 (joint2 A B) (joint1 A B) (Supplied A B E) (shadow2 A B E) f
        (held S s) (ap {B = Pair} (λ (p : Pair). fresh2 p) h) in
        let z = same_went 0 [] _ _ _ _ X Y in
        let u : start (lent2 S E) (held S s) ≡ start (lent2 S D) (held S s) =
        y ∙ sym z.0 ∙ sym x in
        side_path (ap (λ (a : Answer). a.state) u) (sym z.1)
        (ap {B = List Spoken} (λ (a : Answer). placed_word a.state a.word ∷ []) u)

    heard_same_at : (n v : ℕ) → Exchanging (at_n n).rest → Halted (at_n n).rest → v ≡ words A B (all S) (j₀ S) (joint1 A B) n
        → (resume (worker2 B D) (state_of (through of2 (at_n n))) v (seek (at_n n).cur.order (at_n n).cur.turn (all S) origin)
        ≡ resume (worker2 B E) (state_of (through of2 (at_n n))) v (seek (at_n n).cur.order (at_n n).cur.turn (all S) origin))
        × (map of2 (at_n n).trail ++ (hear_walk (worker2 B D) (state_of (through of2 (at_n n))) v
        (seek (at_n n).cur.order (at_n n).cur.turn (all S) origin)).trail
        ≡ map of2 (at_n n).trail ++ (hear_walk (worker2 B E) (state_of (through of2 (at_n n))) v
        (seek (at_n n).cur.order (at_n n).cur.turn (all S) origin)).trail)
    heard_same_at n v x h e =
        same_went (suc n) (map of2 (at_n n).trail) _ _ _ _
        (hears_on A B (all S) (j₀ S) (worker2 B D) of2 (joint2 A B) (joint1 A B) (Supplied A B D) (shadow2 A B D) g n v x h e)
        (hears_on A B (all S) (j₀ S) (worker2 B E) of2 (joint2 A B) (joint1 A B) (Supplied A B E) (shadow2 A B E) f n v x h e)

    heard_same : (s : State) (t : List Pair) (said : List Spoken) (v : ℕ) (Z : Tied2 S s t said)
        → Exchanging (at_n Z.n).rest
        → v ≡ words A B (all S) (j₀ S) (joint1 A B) Z.n
        → (resume (worker2 B D) s v (seek s.order s.turn (all S) origin)
        ≡ resume (worker2 B E) s v (seek s.order s.turn (all S) origin))
        × (t ++ (hear_walk (worker2 B D) s v (seek s.order s.turn (all S) origin)).trail
        ≡ t ++ (hear_walk (worker2 B E) s v (seek s.order s.turn (all S) origin)).trail)
    heard_same s t said v Z x e = rw (Z.is, Z.trails) (heard_same_at Z.n v x Z.halts e)

    stepped_same2 : (s : State) (t : List Pair) (said said1 : List Spoken) (k v : ℕ) → Tied2 S s t said
        → Heard1 S k said1 → Among (placed_word s v) said1 → (hear (lent2 S D) s v).number ≡ 0
        → (hear (lent2 S E) s v).number ≡ 0
        → stepped S (lent2 S E) s v t said ≡ stepped S (lent2 S D) s v t said
    unfolding worker_with found_of
    stepped_same2 s t said said1 k v Z H m e e' =
        let M = moved2 S D g s Z.n k v said1 (record { halts = Z.halts; is = Z.is }) H m e in
        let q =
        word_right A B (all S) (j₀ S) (worker2 B D) of2 (joint2 A B) (joint1 A B) (Supplied A B D) (shadow2 A B D) g Z.n k v said1
        M.heard H (rw Z.is at m) in
        let z = heard_same s t said v Z M.heard q in
        let u : hear (lent2 S E) s v ≡ hear (lent2 S D) s v =
        (hear_none (lent2 S E) s v e').1 ∙ sym z.0 ∙ sym (hear_none (lent2 S D) s v e).1 in
        side_path (ap (λ (a : Answer). a.state) u) (sym z.1)
        (ap {B = List Spoken} (λ (a : Answer). placed_word a.state a.word ∷ said) u)

  -- ---- the buffer is long enough to be lent

  lists_pass : (b d : Bool) → ◌≡◌ {A = ℕ} (cond b 6 (cond d 7 0)) 0 → b ≡ false
  lists_pass true d e = absurd (omega arith)
  lists_pass false d e = refl

  buffer_passes : (D buf : List ℕ) → (lent_fault (lent2 S D)).0 ≡ 0 → (script_cost S.script).deals ≤ length buf
      → (lent_fault (lent2 S buf)).0 ≡ 0
  unfolding lent_fault lists_fault short_b short_deals or_else
  buffer_passes D buf e h =
      let p = or_else_none S.script.fault _ e in
      let q : ltb (length B) (script_cost S.script).b ≡ false =
      lists_pass (ltb (length B) (script_cost S.script).b) (ltb (length D) (script_cost S.script).deals) p.1 in
      rw (
        eq-eqb S.script.fault.0 0 p.0,
        q,
        le-ltb (length buf) (script_cost S.script).deals h,
      )

  hear_buffer : (D buf : List ℕ) (s : State) (v : ℕ) → (script_cost S.script).deals ≤ length buf → (hear (lent2 S D) s v).number ≡ 0
      → (hear (lent2 S buf) s v).number ≡ 0
  unfolding worker_with found_of
  hear_buffer D buf s v l e =
      let q = hear_none (lent2 S D) s v e in
      let h : (resume (worker2 B D) s v (found_of (lent2 S D) s)).number ≡ 0 = rw q.1 at e in
      hear_zero (lent2 S buf) s v (buffer_passes D buf q.0 l)
      (resume_number (worker2 B buf) (worker2 B D) s v (found_of (lent2 S D) s) ∙ h)

  -- ---- call by call

  module _ (E : List ℕ) where
    abbrev Exactly : (c : Call) (v : World) (h1 h2 : List Spoken) → World → Type 0
    Exactly c v h1 h2 v' = (k : Completes S c v v') × Narrow S E h1 h2 k

    exactly : {c : Call} {v v' : World} {h1 h2 : List Spoken} → Completes S c v v' → Ok S v → BothSpent S v h1 h2 → Exactly c v h1 h2 v'
    exactly (prepares e) o b = (prepares e, tt)
    exactly {h1 = h1} {h2 = h2} (starts1 {z = z} {buf = buf} {s = s} {two = two} D e) o b =
        subst (λ (x : Side). Exactly starting1 (world z buf (waiting s) two) h1 h2 (world z buf x two)) (started_same1 D E s)
        (starts1 E (start_other S E D (held S s) e), refl)
    exactly {h1 = h1} {h2 = h2} (starts2 {r = r} {t₀ = t₀} {buf = buf} {s = s} {one = one} D d e) (ok (dealt_all p g h k) x (wait2 q) a) b =
        let l = deals_fit S buf p g in
        let e' =
        start_zero (lent2 S buf) (held S s)
        (buffer_passes D buf (start_none (lent2 S D) (held S s) e).0 l) in
        subst (λ (x : Side). Exactly starting2 (world (ready r t₀) buf one (waiting s)) h1 h2 (world (ready r t₀) buf one x))
        (started_same2 D buf (supplied S buf p D g d) (supplied S buf p buf g refl) s q e e') (starts2 buf refl e', refl)
    exactly {h1 = h1} {h2 = h2} (hears1 {z = z} {buf = buf} {s = s} {s2 = s2} {t = t} {t2 = t2} {said = said} {said2 = said2} D v m e)
        (ok z' (go1 X) (go2 Y) a) (both b c) =
        subst (λ (x : Side). Exactly (hearing1 v) (world z buf (going s t said) (going s2 t2 said2)) h1 h2
        (world z buf x (going s2 t2 said2))) (stepped_same1 D E s v t said)
        (hears1 E v m (hear_other1 S E D s v e), (refl, unheard S of1 s _ _ v b (moved1 S D s b.n _ v _ b.stands Y.heard m e)))
    exactly (hears2 D d v m e) (ok (not_yet h) (go1 X) (go2 Y) a) (both b c) = absurd a
    exactly {h1 = h1} {h2 = h2} (hears2 {z = z} {buf = buf} {s = s} {s1 = s1} {t = t} {t1 = t1} {said = said} {said1 = said1} D d v m e)
        (ok (dealt_all p g h k) (go1 X) (go2 Y) a) (both b c) =
        let D_has = supplied S buf p D g d in
        let e' = hear_buffer D buf s v (deals_fit S buf p g) e in
        subst (λ (x : Side). Exactly (hearing2 v) (world z buf (going s1 t1 said1) (going s t said)) h1 h2
        (world z buf (going s1 t1 said1) x)) (stepped_same2 D buf D_has (supplied S buf p buf g refl) s t said _ _ v Y X.heard m e e')
        (hears2 buf refl v m e', (refl, unheard S of2 s _ _ v c (moved2 S D D_has s c.n _ v _ c.stands X.heard m e)))

    strict_of : {cs : List Call} {v : World} → Run S cs v → (h1 : List Spoken) × (h2 : List Spoken) × StrictRun S E cs v h1 h2
    strict_of (begin b) = ([], [], record { from = _; begins = b; calls = none })
    strict_of (complete r k) =
        let i = strict_of r in
        let x = exactly k (kept S r) (spent S i.2) in
        (_, _, next_run S E i.2 x.0 x.1)
    strict_of (refuse r f) =
        let i = strict_of r in
        (i.0, i.1, record { from = i.2.from; begins = i.2.begins; calls = refuses i.2.calls f })

pub strict : Strict
strict =
    record {
      wide = λ S E cs v h1 h2 r. wide S r;
      narrow = λ S E cs v r. strict_of S E r;
      finishes = λ S E cs v h1 h2 r acc n q h. finished_all S v (strictly_ended S E r acc n) q h;
      longer = λ S E cs more v v' h1 h2 u1 u2 r c. longer S r c;
      goes_on = λ S E cs v h1 h2 r acc. carried S E r acc;
      exists = λ S E v b acc. begun S E v b acc;
    }
