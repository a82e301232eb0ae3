-- Beside every run on a stage there is one on any other stage of its script whose lists are as long: the same calls, at the same places.
-- A host that has the same on both, and for which the same words (and for host 2 the same deals) are defined, sees the same. Assumes nothing.
use mathlib.Core.Path.{◌≡◌, refl, sym, ap, ap₂, ◌∙◌}
use mathlib.Core.Logic.{◌≢◌}
use mathlib.Core.List.{List, [], ◌∷◌, ◌++◌, map}
use Prim.Native.Nat.{ℕ}
use lib.ListN.{length, drop}
use Rattle.gates.specs.Steps.{Lane}
use Rattle.gates.specs.Hosts.{Pair}
use Rattle.calls.specs.Scripts.{Script, script_cost}
use Rattle.calls.specs.Lent.{lent}
use Rattle.calls.specs.Calls.{State, start, hear, prepare, prepare_walk, script_deals}
use Rattle.runs.specs.Runs.{Stage, Spoken, placed_word, Among, Dealer, idle, ready, Side, waiting, going, dealer_holds, with_masks}
use Rattle.runs.specs.Runs.{side_state, with_state, side_trail, World, world, with_registers, Refuses, refuses0, refuses0_elsewhere}
use Rattle.runs.specs.Runs.{refuses1, refuses2, Call, preparing, starting1, starting2, turned_down, hearing1, hearing2, lent1, lent2}
use Rattle.runs.specs.Runs.{Dealt, preparation, held, started, stepped}
use Rattle.runs.specs.Runs.{Completes, prepares, starts1, starts2, hears1, hears2, Begins, given_out, buffer_of}
use Rattle.runs.specs.Strict.{Narrow, Calls, none, completes, refuses, StrictRun}
use Rattle.runs.specs.InOrder.{words_of_1, words_of_2}
use Rattle.runs.proofs.InOrder.{in_order}
use Rattle.runs.proofs.Refusals.{prepare_back}
use Rattle.runs.proofs.Behind.{idle_holds}
use Rattle.runs.proofs.Strict.{wide}
use Rattle.demands.proofs.Demand2.{demand2}
use Rattle.privacy.specs.Privacy as P
use Rattle.privacy.specs.Privacy.{Event, calls_of, silent, SeenBeside, SeesSame}
use Rattle.privacy.proofs.Places.{Level, start_level, hear_level, start_number, hear_number, lent_same, dealer_same}
use Rattle.privacy.proofs.Places.{prepare_number, buffer_is, buffer_long}
use Rattle.privacy.proofs.Sides.{word_there, same_word, said_by, next_alike, given_too, side_level, with_level, turned_too, first_time1, first_time2}
use Rattle.privacy.proofs.Worlds.{twin, Same0, Same1, Same2, dealer_of, one_of, two_of, Alike, with_alike}

-- the stage S, and one of the same script with lists as long
module _ (S : Stage) (A' B' : List ℕ) (rm' r1' r2' : Lane) (rm_full' : length rm' ≡ S.script.slots)
    (r1_full' : length r1' ≡ S.script.slots) (r2_full' : length r2' ≡ S.script.slots)
    (la : length S.A ≡ length A') (lb : length S.B ≡ length B') where
  abbrev σ : Script
  σ = S.script

  abbrev S' : Stage
  S' = twin S A' B' rm' r1' r2' rm_full' r1_full' r2_full'

  -- a host that holds the same, and has seen the same
  abbrev See0 : (v v' : World) (l l' : List Event) → Type 0
  See0 v v' l l' = Same0 S S' → (dealer_of v ≡ dealer_of v') × (buffer_of v ≡ buffer_of v') × (l ≡ l')

  abbrev See1 : (v v' : World) (l l' : List Event) → Type 0
  See1 v v' l l' = Same1 S S' → (one_of v ≡ one_of v') × (l ≡ l')

  abbrev See2 : (v v' : World) (l l' : List Event) → Type 0
  See2 v v' l l' = Same2 S S' → (two_of v ≡ two_of v') × (buffer_of v ≡ buffer_of v') × (l ≡ l')

  module _ (E : List ℕ) {v₀ v₀' : World} (b : Begins S v₀) (b' : Begins S' v₀') where
    abbrev strict : {cs : List Call} {v : World} {h1 h2 : List Spoken} → Calls S E v₀ [] [] cs v h1 h2 → StrictRun S E cs v h1 h2
    strict r = record { from = v₀; begins = b; calls = r }

    abbrev strict' : {cs : List Call} {v : World} {h1 h2 : List Spoken} → Calls S' E v₀' [] [] cs v h1 h2 → StrictRun S' E cs v h1 h2
    strict' r = record { from = v₀'; begins = b'; calls = r }

    -- the run r so far, and the run r' beside it
    pub record Now {cs cs' : List Call} {v v' : World} {h1 h2 u1 u2 : List Spoken} (r : Calls S E v₀ [] [] cs v h1 h2)
        (r' : Calls S' E v₀' [] [] cs' v' u1 u2) : Type 0 where
      pub silently : map silent cs' ≡ map silent cs
      pub alike : Alike v v'
      pub see0 : See0 v v' (calls_of S 0 r) (calls_of S' 0 r')
      pub see1 : See1 v v' (calls_of S 1 r) (calls_of S' 1 r')
      pub see2 : See2 v v' (calls_of S 2 r) (calls_of S' 2 r')

    pub record Counterpart {cs : List Call} {v : World} {h1 h2 : List Spoken} (r : Calls S E v₀ [] [] cs v h1 h2) : Type 0 where
      pub calls : List Call
      pub to : World
      pub u1 : List Spoken
      pub u2 : List Spoken
      pub run : Calls S' E v₀' [] [] calls to u1 u2
      pub now : Now r run

    abbrev found : {cs cs' : List Call} {v v' : World} {h1 h2 u1 u2 : List Spoken} {r : Calls S E v₀ [] [] cs v h1 h2}
        (r' : Calls S' E v₀' [] [] cs' v' u1 u2) → Now r r' → Counterpart r
    found r' N = record { calls = _; to = _; u1 = _; u2 = _; run = r'; now = N }

    -- ---- one call more

    module _ {cs cs' : List Call} {h1 h2 u1 u2 : List Spoken} where
      -- host 0's preparation
      preparing_on : {p p' : Pair} {buf buf' : List ℕ} {one one' two two' : Side}
          (r : Calls S E v₀ [] [] cs (world (idle p) buf one two) h1 h2)
          (r' : Calls S' E v₀' [] [] cs' (world (idle p') buf' one' two') u1 u2) → Now r r'
          → (e : (preparation S buf p).number ≡ 0) → Counterpart (completes r (prepares e) tt)
      unfolding calls_of
      preparing_on {p = p} {p' = p'} {buf = buf} {buf' = buf'} r r' N e =
          let l : length buf ≡ length buf' = N.alike.1 in
          let e' : (preparation S' buf' p').number ≡ 0 =
          sym (prepare_number σ S.A A' S.B B' buf buf' p p' (dealer_same σ S.A A' S.B B' buf buf' la lb l)) ∙ e in
          found (completes r' (prepares e') tt)
          (record {
            silently = λ i. preparing ∷ N.silently i;
            alike = (tt, buffer_long σ S.A A' S.B B' buf buf' p p' e e' l, N.alike.2, N.alike.3);
            see0 = λ h. let k = N.see0 h in (
              λ i. ready (prepare σ (h.A i) (h.B i) (k.1 i) (dealer_holds (k.0 i))).masks
                  (prepare_walk σ (h.A i) (h.B i) (dealer_holds (k.0 i))).trail,
              λ i. (prepare σ (h.A i) (h.B i) (k.1 i) (dealer_holds (k.0 i))).buffer,
              λ i. P.prepared σ (h.A i) (h.B i) (k.1 i) (dealer_holds (k.0 i))
                  (prepare σ (h.A i) (h.B i) (k.1 i) (dealer_holds (k.0 i)))
                  ∷ k.2 i,
            );
            see1 = N.see1;
            see2 = λ h. let k = N.see2 h in (
              k.0,
              buffer_is σ S.A S.B buf p e
                  ∙ ap₂ (λ (p : Pair) (c : List ℕ). script_deals σ S.A S.B p ++ drop (script_cost σ).deals c)
                  (idle_holds S (wide S (strict r))) k.1
                  ∙ ap (λ (c : List ℕ). c ++ drop (script_cost σ).deals buf') h.deals
                  ∙ ap (λ (p : Pair). script_deals σ A' B' p ++ drop (script_cost σ).deals buf')
                  (sym (idle_holds S' (wide S' (strict' r'))))
                  ∙ sym (buffer_is σ A' B' buf' p' e'),
              k.2,
            );
          })

      -- startings
      starting1_on : {z z' : Dealer} {buf buf' : List ℕ} {s s' : State} {two two' : Side}
          (r : Calls S E v₀ [] [] cs (world z buf (waiting s) two) h1 h2)
          (r' : Calls S' E v₀' [] [] cs' (world z' buf' (waiting s') two') u1 u2) → Now r r'
          → (D : List ℕ) (e : (start (lent1 S D) (held S s)).number ≡ 0) (n : D ≡ E) → Counterpart (completes r (starts1 D e) n)
      unfolding calls_of
      starting1_on {s = s} {s' = s'} r r' N D e n =
          let e' : (start (lent1 S' D) (held S' s')).number ≡ 0 =
          sym (start_number (lent1 S D) (lent1 S' D) (held S s) (held S' s') (ap (λ f. f.0) (lent_same 1 σ S.A A' D D la refl))) ∙ e in
          let l = start_level 1 1 σ S.A A' D D (held S s) (held S' s') e e' in
          found (completes r' (starts1 D e') n)
          (record {
            silently = λ i. starting1 ∷ N.silently i;
            alike = (N.alike.0, N.alike.1, (l, next_alike (start (lent1 S D) (held S s)) (start (lent1 S' D) (held S' s')) [] [] l refl), N.alike.3);
            see0 = N.see0;
            see1 = λ h. let k = N.see1 h in (
              λ i. started S (lent 1 σ (h.A i) D) (side_state (k.0 i)),
              λ i. P.started (lent 1 σ (h.A i) D) (held S (side_state (k.0 i))) (start (lent 1 σ (h.A i) D) (held S (side_state (k.0 i))))
                  ∷ k.1 i,
            );
            see2 = N.see2;
          })

      starting2_on : {p p' : Pair} {t t' : List Pair} {buf buf' : List ℕ} {one one' : Side} {s s' : State}
          (r : Calls S E v₀ [] [] cs (world (ready p t) buf one (waiting s)) h1 h2)
          (r' : Calls S' E v₀' [] [] cs' (world (ready p' t') buf' one' (waiting s')) u1 u2) → Now r r'
          → (D : List ℕ) (d : Dealt S buf D) (e : (start (lent2 S D) (held S s)).number ≡ 0) (n : D ≡ buf)
          → Counterpart (completes r (starts2 D d e) n)
      unfolding calls_of
      starting2_on {buf = buf} {buf' = buf'} {s = s} {s' = s'} r r' N D d e n =
          let e' : (start (lent2 S' buf') (held S' s')).number ≡ 0 =
          sym (start_number (lent2 S D) (lent2 S' buf') (held S s) (held S' s')
          (ap (λ f. f.0) (lent_same 2 σ S.B B' D buf' lb (ap length n ∙ N.alike.1))))
          ∙ e in
          let l = start_level 2 2 σ S.B B' D buf' (held S s) (held S' s') e e' in
          found (completes r' (starts2 buf' refl e') refl)
          (record {
            silently = λ i. starting2 ∷ N.silently i;
            alike = (N.alike.0, N.alike.1, N.alike.2, (l, next_alike (start (lent2 S D) (held S s)) (start (lent2 S' buf') (held S' s')) [] [] l refl));
            see0 = N.see0;
            see1 = N.see1;
            see2 = λ h. let k = N.see2 h in let c = n ∙ k.1 in (
              λ i. started S (lent 2 σ (h.B i) (c i)) (side_state (k.0 i)),
              k.1,
              λ i. P.started (lent 2 σ (h.B i) (c i)) (held S (side_state (k.0 i)))
                  (start (lent 2 σ (h.B i) (c i)) (held S (side_state (k.0 i))))
                  ∷ k.2 i,
            );
          })

      -- hearings
      hearing1_on : {z z' : Dealer} {buf buf' : List ℕ} {s s2 s' s2' : State} {t t2 t' t2' : List Pair} {said said2 said' said2' : List Spoken}
          (r : Calls S E v₀ [] [] cs (world z buf (going s t said) (going s2 t2 said2)) h1 h2)
          (r' : Calls S' E v₀' [] [] cs' (world z' buf' (going s' t' said') (going s2' t2' said2')) u1 u2) → Now r r'
          → (D : List ℕ) (v : ℕ) (m : Among (placed_word s v) said2) (e : (hear (lent1 S D) s v).number ≡ 0)
          (n : (D ≡ E) × (Among (placed_word s v) h1 → ⊥))
          → Counterpart (completes r (hears1 D v m e) n)
      unfolding calls_of
      hearing1_on {s = s} {s2 = s2} {s' = s'} {s2' = s2'} {t = t} {t2 = t2} {t' = t'} {t2' = t2'} {said = said} {said2 = said2} {said' = said'}
          {said2' = said2'} r r' N D v m e n =
          let l = N.alike.2 in
          let x = word_there s s' v said2 said2' l.0 N.alike.3.1 m in
          let v' = x.0 in
          let e' : (hear (lent1 S' D) s' v').number ≡ 0 =
          sym (hear_number (lent1 S D) (lent1 S' D) s s' v v' refl (ap (λ f. f.0) (lent_same 1 σ S.A A' D D la refl)) l.0) ∙ e in
          let j = hear_level 1 1 σ S.A A' D D s s' v v' l.0 e e' in
          found (completes r' (hears1 D v' x.1 e') (n.0, first_time1 S' (strict' r') D v' x.1 e'))
          (record {
            silently = λ i. hearing1 0 ∷ N.silently i;
            alike = (N.alike.0, N.alike.1, (j, next_alike (hear (lent1 S D) s v) (hear (lent1 S' D) s' v') said said' j l.1), N.alike.3);
            see0 = N.see0;
            see1 = λ h. let k = N.see1 h in
                let y : v ≡ v' =
                same_word s s' v v' (words_of_2 S) (words_of_2 S') (in_order.each_once_2 S') h.words l.0
                (demand2.host2_speaks S _ _ _ _ s2 t2 said2 (wide S (strict r)) (placed_word s v) m)
                (demand2.host2_speaks S' _ _ _ _ s2' t2' said2' (wide S' (strict' r')) (placed_word s' v') x.1) in (
                  λ i. stepped S (lent 1 σ (h.A i) D) (side_state (k.0 i)) (y i) (side_trail (k.0 i)) (said_by (k.0 i)),
                  λ i. P.heard (lent 1 σ (h.A i) D) (side_state (k.0 i)) (y i) (hear (lent 1 σ (h.A i) D) (side_state (k.0 i)) (y i)) ∷ k.1 i,
                );
            see2 = N.see2;
          })

      hearing2_on : {z z' : Dealer} {buf buf' : List ℕ} {s s1 s' s1' : State} {t t1 t' t1' : List Pair} {said said1 said' said1' : List Spoken}
          (r : Calls S E v₀ [] [] cs (world z buf (going s1 t1 said1) (going s t said)) h1 h2)
          (r' : Calls S' E v₀' [] [] cs' (world z' buf' (going s1' t1' said1') (going s' t' said')) u1 u2) → Now r r'
          → (D : List ℕ) (d : Dealt S buf D) (v : ℕ) (m : Among (placed_word s v) said1) (e : (hear (lent2 S D) s v).number ≡ 0)
          (n : (D ≡ buf) × (Among (placed_word s v) h2 → ⊥))
          → Counterpart (completes r (hears2 D d v m e) n)
      unfolding calls_of
      hearing2_on {buf = buf} {buf' = buf'} {s = s} {s1 = s1} {s' = s'} {s1' = s1'} {t = t} {t1 = t1} {t' = t'} {t1' = t1'} {said = said}
          {said1 = said1} {said' = said'} {said1' = said1'} r r' N D d v m e n =
          let l = N.alike.3 in
          let x = word_there s s' v said1 said1' l.0 N.alike.2.1 m in
          let v' = x.0 in
          let e' : (hear (lent2 S' buf') s' v').number ≡ 0 =
          sym (hear_number (lent2 S D) (lent2 S' buf') s s' v v' refl
          (ap (λ f. f.0) (lent_same 2 σ S.B B' D buf' lb (ap length n.0 ∙ N.alike.1))) l.0)
          ∙ e in
          let j = hear_level 2 2 σ S.B B' D buf' s s' v v' l.0 e e' in
          found (completes r' (hears2 buf' refl v' x.1 e') (refl, first_time2 S' (strict' r') buf' v' refl x.1 e'))
          (record {
            silently = λ i. hearing2 0 ∷ N.silently i;
            alike = (N.alike.0, N.alike.1, N.alike.2, (j, next_alike (hear (lent2 S D) s v) (hear (lent2 S' buf') s' v') said said' j l.1));
            see0 = N.see0;
            see1 = N.see1;
            see2 = λ h. let k = N.see2 h in
                let c = n.0 ∙ k.1 in
                let y : v ≡ v' =
                same_word s s' v v' (words_of_1 S) (words_of_1 S') (in_order.each_once_1 S') h.words l.0
                (demand2.host1_speaks S _ _ _ s1 t1 said1 _ (wide S (strict r)) (placed_word s v) m)
                (demand2.host1_speaks S' _ _ _ s1' t1' said1' _ (wide S' (strict' r')) (placed_word s' v') x.1) in (
                  λ i. stepped S (lent 2 σ (h.B i) (c i)) (side_state (k.0 i)) (y i) (side_trail (k.0 i)) (said_by (k.0 i)),
                  k.1,
                  λ i. P.heard (lent 2 σ (h.B i) (c i)) (side_state (k.0 i)) (y i)
                      (hear (lent 2 σ (h.B i) (c i)) (side_state (k.0 i)) (y i))
                      ∷ k.2 i,
                );
          })

      -- ---- refused calls

      refusing_on : {z z' : Dealer} {buf buf' : List ℕ} {one one' two two' : Side}
          (r : Calls S E v₀ [] [] cs (world z buf one two) h1 h2)
          (r' : Calls S' E v₀' [] [] cs' (world z' buf' one' two') u1 u2) → Now r r'
          → {v : World} (f : Refuses σ.slots (world z buf one two) v) → Counterpart (refuses r f)
      unfolding calls_of
      refusing_on {z = z} {z' = z'} {buf = buf} {buf' = buf'} r r' N (refuses0 τ X Y e) =
          let l : length buf ≡ length buf' = N.alike.1 in
          let e' : (prepare τ X Y buf' (dealer_holds z')).number ≢ 0 =
          λ k. e (prepare_number τ X X Y Y buf buf' (dealer_holds z) (dealer_holds z') (dealer_same τ X X Y Y buf buf' refl refl l) ∙ k) in
          let g = (prepare_back τ X Y buf (dealer_holds z) e).1 in
          let g' = (prepare_back τ X Y buf' (dealer_holds z') e').1 in
          found (refuses r' (refuses0 τ X Y e'))
          (record {
            silently = λ i. turned_down ∷ N.silently i;
            alike = (with_alike z z' _ _ N.alike.0, ap length g ∙ l ∙ sym (ap length g'), N.alike.2, N.alike.3);
            see0 = λ h. let k = N.see0 h in (
              λ i. with_masks (k.0 i) (prepare τ X Y (k.1 i) (dealer_holds (k.0 i))).masks,
              λ i. (prepare τ X Y (k.1 i) (dealer_holds (k.0 i))).buffer,
              λ i. P.prepared τ X Y (k.1 i) (dealer_holds (k.0 i)) (prepare τ X Y (k.1 i) (dealer_holds (k.0 i))) ∷ k.2 i,
            );
            see1 = N.see1;
            see2 = λ h. let k = N.see2 h in (k.0, g ∙ k.1 ∙ sym g', k.2);
          })
      refusing_on {z = z} {z' = z'} r r' N (refuses0_elsewhere τ X Y other e) =
          let e' : (prepare τ X Y other (dealer_holds z')).number ≢ 0 =
          λ k. e (prepare_number τ X X Y Y other other (dealer_holds z) (dealer_holds z') refl ∙ k) in
          found (refuses r' (refuses0_elsewhere τ X Y other e'))
          (record {
            silently = λ i. turned_down ∷ N.silently i;
            alike = (with_alike z z' _ _ N.alike.0, N.alike.1, N.alike.2, N.alike.3);
            see0 = λ h. let k = N.see0 h in (
              λ i. with_masks (k.0 i) (prepare τ X Y other (dealer_holds (k.0 i))).masks,
              k.1,
              λ i. P.prepared τ X Y other (dealer_holds (k.0 i)) (prepare τ X Y other (dealer_holds (k.0 i))) ∷ k.2 i,
            );
            see1 = N.see1;
            see2 = N.see2;
          })
      refusing_on {one = one} {one' = one'} r r' N (refuses1 t) =
          let l = N.alike.2 in
          let T = turned_too σ.slots (side_state one) (side_state one') (side_level one one' l) t in
          found (refuses r' (refuses1 T.turned))
          (record {
            silently = λ i. turned_down ∷ N.silently i;
            alike = (N.alike.0, N.alike.1, with_level one one' _ _ l T.level, N.alike.3);
            see0 = N.see0;
            see1 = λ h. let k = N.see1 h in
                let g = T.same (ap side_state k.0) in
                (λ i. with_state (k.0 i) (g.0 i), λ i. g.1 i ∷ k.1 i);
            see2 = N.see2;
          })
      refusing_on {two = two} {two' = two'} r r' N (refuses2 t) =
          let l = N.alike.3 in
          let T = turned_too σ.slots (side_state two) (side_state two') (side_level two two' l) t in
          found (refuses r' (refuses2 T.turned))
          (record {
            silently = λ i. turned_down ∷ N.silently i;
            alike = (N.alike.0, N.alike.1, N.alike.2, with_level two two' _ _ l T.level);
            see0 = N.see0;
            see1 = N.see1;
            see2 = λ h. let k = N.see2 h in
                let g = T.same (ap side_state k.0) in
                (λ i. with_state (k.0 i) (g.0 i), k.1, λ i. g.1 i ∷ k.2 i);
          })

      -- ---- whichever call it is

      completing_on : {c : Call} {v v' w : World} (r : Calls S E v₀ [] [] cs v h1 h2) (r' : Calls S' E v₀' [] [] cs' v' u1 u2) → Now r r'
          → (k : Completes S c v w) (n : Narrow S E h1 h2 k) → Counterpart (completes r k n)
      completing_on {v' = world (idle p') buf' one' two'} r r' N (prepares e) n = preparing_on r r' N e
      completing_on {v' = world (ready p' t') buf' one' two'} r r' N (prepares e) n = absurd N.alike.0
      completing_on {v' = world z' buf' (waiting s') two'} r r' N (starts1 D e) n = starting1_on r r' N D e n
      completing_on {v' = world z' buf' (going s' t' said') two'} r r' N (starts1 D e) n = absurd N.alike.2
      completing_on {v' = world (ready p' t') buf' one' (waiting s')} r r' N (starts2 D d e) n = starting2_on r r' N D d e n
      completing_on {v' = world (idle p') buf' one' two'} r r' N (starts2 D d e) n = absurd N.alike.0
      completing_on {v' = world (ready p' t₀') buf' one' (going s' t' said')} r r' N (starts2 D d e) n = absurd N.alike.3
      completing_on {v' = world z' buf' (going s' t' said') (going s2' t2' said2')} r r' N (hears1 D v m e) n = hearing1_on r r' N D v m e n
      completing_on {v' = world z' buf' (waiting s') two'} r r' N (hears1 D v m e) n = absurd N.alike.2
      completing_on {v' = world z' buf' (going s' t' said') (waiting s2')} r r' N (hears1 D v m e) n = absurd N.alike.3
      completing_on {v' = world z' buf' (going s1' t1' said1') (going s' t' said')} r r' N (hears2 D d v m e) n = hearing2_on r r' N D d v m e n
      completing_on {v' = world z' buf' (waiting s1') two'} r r' N (hears2 D d v m e) n = absurd N.alike.2
      completing_on {v' = world z' buf' (going s1' t1' said1') (waiting s')} r r' N (hears2 D d v m e) n = absurd N.alike.3

      refused_on : {v v' w : World} (r : Calls S E v₀ [] [] cs v h1 h2) (r' : Calls S' E v₀' [] [] cs' v' u1 u2) → Now r r'
          → (f : Refuses σ.slots v w) → Counterpart (refuses r f)
      refused_on {v = world z buf one two} {v' = world z' buf' one' two'} r r' N f = refusing_on r r' N f

    pub followed : Now none none → {cs : List Call} {v : World} {h1 h2 : List Spoken} (r : Calls S E v₀ [] [] cs v h1 h2) → Counterpart r
    followed N none = found none N
    followed N (completes r k n) = let c = followed N r in completing_on r c.run c.now k n
    followed N (refuses r f) = let c = followed N r in refused_on r c.run c.now f

  -- ---- the first world: the hosts are given the registers of S', and keep what they kept

  counterpart : (E : List ℕ) {cs : List Call} {v : World} {h1 h2 : List Spoken} (r : StrictRun S E cs v h1 h2)
      → (v₀' : World) × (b' : Begins S' v₀') × Counterpart E r.begins b' r.calls
  unfolding calls_of
  counterpart E r = go r.begins r.calls
    where
      level : (s : State) (p : Pair) → Level s (with_registers σ.slots s p)
      level s p = record { order = refl; turn = refl; stored = refl }

      go : {cs : List Call} {v₀ v : World} {h1 h2 : List Spoken} (b : Begins S v₀) (r : Calls S E v₀ [] [] cs v h1 h2)
          → (v₀' : World) × (b' : Begins S' v₀') × Counterpart E b b' r
      go (given_out {buf = buf} {one = one} {two = two} f g) r =
          let x = given_too σ.slots one (S.rm, S.r1) (rm', r1') f rm_full' r1_full' in
          let y = given_too σ.slots two (S.rm, S.r2) (rm', r2') g rm_full' r2_full' in (
            world (idle (r1', r2')) buf (waiting (with_registers σ.slots one (rm', r1'))) (waiting (with_registers σ.slots two (rm', r2'))),
            given_out x.0 y.0,
            followed E (given_out f g) (given_out x.0 y.0)
                (record {
                  silently = refl;
                  alike = (tt, refl, level one (rm', r1'), level two (rm', r2'));
                  see0 = λ h. (λ i. idle (h.r1 i, h.r2 i), refl, refl);
                  see1 = λ h. (ap waiting (x.1 (λ i. (h.rm i, h.r1 i))), refl);
                  see2 = λ h. (ap waiting (y.1 (λ i. (h.rm i, h.r2 i))), refl, refl);
                }) r,
          )

  -- ---- what the hosts see

  seen : (h : ℕ) {cs : List Call} {v : World} {h1 h2 : List Spoken} (r : StrictRun S [] cs v h1 h2)
      → (c : (v₀' : World) × (b' : Begins S' v₀') × Counterpart [] r.begins b' r.calls)
      → calls_of S h r.calls ≡ calls_of S' h c.2.run → SeenBeside h S S' cs v h1 h2 r
  seen h r c e =
      record {
        calls = c.2.calls;
        ends_in = c.2.to;
        heard1 = c.2.u1;
        heard2 = c.2.u2;
        run = record { from = c.0; begins = c.1; calls = c.2.run };
        alike = c.2.now.silently;
        same = sym e;
      }

  pub sees0 : Same0 S S' → SeesSame 0 S S'
  sees0 h cs v h1 h2 r = let c = counterpart [] r in seen 0 r c (c.2.now.see0 h).2

  pub sees1 : Same1 S S' → SeesSame 1 S S'
  sees1 h cs v h1 h2 r = let c = counterpart [] r in seen 1 r c (c.2.now.see1 h).1

  pub sees2 : Same2 S S' → SeesSame 2 S S'
  sees2 h cs v h1 h2 r = let c = counterpart [] r in seen 2 r c (c.2.now.see2 h).2
