-- The walk of host 1 or 2 over a list of programs, some gates of a program at a time, and on from a product or refresh where the
-- other's word was heard; on plain values. Assumes nothing.
use mathlib.Core.Path.{◌≡◌, sym, ap, ◌∙◌}
use mathlib.Core.List.{List, [], ◌∷◌, ◌++◌, map}
use Prim.Native.Nat.{ℕ, suc, ◌+◌}
use native.Mathlib.Numerals.{add-one}
use lib.ListN.{drop, set}
use Rattle.gates.specs.Gates.{Gate}
use Rattle.gates.specs.declared.Used.{Used}
use Rattle.gates.specs.Steps.{Lane, Step, end, Cursor, past}
use Rattle.gates.specs.Costs.{used_at}
use Rattle.gates.specs.Meaning.{meaning, each, order_steps, job_steps}
use Rattle.gates.specs.Walk.{Exchanging}
use Rattle.gates.specs.Hosts.{Pair}
use Rattle.gates.proofs.Uses.{behind_a, behind_deals}
use Rattle.calls.specs.Lent.{Worker, worker_with}
use Rattle.calls.specs.Places.{found}
use Rattle.calls.specs.Calls.{State, stored_places, Answer, word_at, report, hear_walk}
use Rattle.walks.specs.Workers.{cursor, heard_at}
use Rattle.walks.specs.Halts.{going_on, reported, steps_from, Going}
use Rattle.walks.proofs.Gates.{first_gate}
use Rattle.walks.proofs.Halts.{passes_end, stops, ends, past_exchange, walk_on}
use Rattle.walks.proofs.Alike.{written, passes_each}
use Rattle.walks.proofs.Workers.{acts_end, word_any, heard_any}

module _ (w h : ℕ) (M D : List ℕ) (programs : List (List Gate)) where
  abbrev P : Worker
  P = worker_with h M D

  module _ (o x i a b dealt : ℕ) (s : Pair) where
    -- from gate i of the program o on
    abbrev from_here : Answer
    from_here = reported P (steps_from w i (drop o programs)) (cursor o x a b dealt) s

    pub finished : drop o programs ≡ [] → from_here ≡ going_on b 0 s.0 s.1 o x (stored_places a b dealt)
    unfolding steps_from
    finished e = rw e (ends P [] o x a b dealt s)

    -- the program o is one gate that writes slot d on each lane alike, and the walk stands before it
    pub at_once : (gs : List Gate) → drop o programs ≡ gs ∷ drop (suc o) programs → i ≡ 0 → (d : ℕ) (f : Lane → ℕ)
        → ((ss : List Step) → order_steps w gs ss ≡ each d f ∷ end ∷ ss)
        → (m l : Lane) → m ≡ set s.0 d (f s.0) → l ≡ set s.1 d (f s.1)
        → from_here ≡ reported P (steps_from w i (drop (o + 1) programs)) (cursor (o + 1) 0 a b dealt) (m, l)
    unfolding steps_from past
    at_once gs e z d f one m l em el =
        let behind = job_steps w (drop (suc o) programs) in
        rw (z, e, em, el, add-one o)
        (ap (λ (ss : List Step). reported P ss (cursor o x a b dealt) s) (one behind)
        ∙ passes_each h M D d f behind (cursor o x a b dealt) s
        ∙ ap (λ (ss : List Step). reported P ss (cursor (suc o) 0 a b dealt) (written d f s)) (first_gate w (drop (suc o) programs)))

    -- the program o is gs; its gates from i on are those of hs from k on, and then the rest, and the walk has come to gate j of hs
    module _ (gs : List Gate) (e : drop o programs ≡ gs ∷ drop (suc o) programs) (hs rest : List Gate) (k : ℕ)
        (cut : (ss : List Step) → order_steps w (drop i gs) ss ≡ map (meaning w) (drop k hs) ++ order_steps w rest ss)
        (j a' dealt' : ℕ) (m l : Lane) (q : Going w P hs k a dealt s j a' dealt' (m, l)) where
      abbrev behind : List Step
      behind = job_steps w (drop (suc o) programs)

      within : from_here ≡ reported P (map (meaning w) (drop j hs) ++ order_steps w rest behind) (cursor o x a' b dealt') (m, l)
      unfolding steps_from
      within =
          rw e
          (ap (λ (ss : List Step). reported P ss (cursor o x a b dealt) s) (cut behind)
          ∙ q.same (order_steps w rest behind) o x b)

      -- at a product or refresh
      pub halted : (y : Step) (ss : List Step) → Exchanging (y ∷ []) → map (meaning w) (drop j hs) ≡ y ∷ ss
          → (v : ℕ) → v ≡ word_at P.say (y ∷ []) (cursor 0 0 a' b dealt') (m, l)
          → (u : Used) → u ≡ used_at y
          → from_here ≡ going_on (b + 1) v m l o x (stored_places (a' + u.a) (b + 1) (dealt' + u.deals))
      halted y ss speaks here v ev u eu =
          within
          ∙ ap (λ (ts : List Step). reported P (ts ++ order_steps w rest behind) (cursor o x a' b dealt') (m, l)) here
          ∙ stops P (ss ++ order_steps w rest behind) o x a' b dealt' (m, l) y speaks
          ∙ rw (
            ev,
            word_any h M D y o x a' b dealt' (m, l),
            add-one b,
            behind_a y u eu (cursor 0 0 a' 0 dealt'),
            behind_deals y u eu (cursor 0 0 a' 0 dealt'),
          )

      -- past the last gate of hs
      module _ (over : drop j hs ≡ []) where
        past_all : from_here ≡ reported P (order_steps w rest behind) (cursor o x a' b dealt') (m, l)
        past_all =
            within
            ∙ ap (λ (z : List Gate). reported P (map (meaning w) z ++ order_steps w rest behind) (cursor o x a' b dealt') (m, l)) over

        pub same_program : (i' : ℕ) → rest ≡ drop i' gs
            → from_here ≡ reported P (steps_from w i' (drop o programs)) (cursor o x a' b dealt') (m, l)
        unfolding steps_from
        same_program i' r =
            past_all
            ∙ ap (λ (z : List Gate). reported P (order_steps w z behind) (cursor o x a' b dealt') (m, l)) r
            ∙ ap (λ (z : List (List Gate)). reported P (steps_from w i' z) (cursor o x a' b dealt') (m, l)) (sym e)

        pub next_program : rest ≡ []
            → from_here ≡ reported P (steps_from w 0 (drop (o + 1) programs)) (cursor (o + 1) 0 a' b dealt') (m, l)
        unfolding order_steps
        next_program r =
            past_all
            ∙ ap (λ (z : List Gate). reported P (order_steps w z behind) (cursor o x a' b dealt') (m, l)) r
            ∙ passes_end P behind o x a' b dealt' (m, l) (acts_end h M D (cursor o x a' b dealt') (m, l))
            ∙ rw (add-one o)
            (ap (λ (ss : List Step). reported P ss (cursor (suc o) 0 a' b dealt') (m, l))
            (first_gate w (drop (suc o) programs)))

  -- ---- the other's word is heard at gate i of the program o, whose step is y

  module _ (o i : ℕ) (y : Step) (here : steps_from w i (drop o programs) ≡ y ∷ steps_from w (i + 1) (drop o programs))
      (speaks : Exchanging (y ∷ [])) where
    pub resumed : (s : State) (v a b dealt i' a' dealt' : ℕ) (m l : Lane) (u : Used) → u ≡ used_at y
        → (m, l) ≡ heard_at P y (cursor 0 0 a b dealt) (s.m, s.mask) v
        → i' ≡ i + 1 → a' ≡ a + u.a → dealt' ≡ dealt + u.deals
        → reported P (steps_from w i' (drop o programs)) (cursor o (s.turn + 1) a' (b + 1) dealt') (m, l)
        ≡ report P (hear_walk P s v (found (steps_from w i (drop o programs)) (cursor o s.turn a b dealt)))
    resumed s v a b n i' a' n' m l u eu em ei ea en =
        let after = steps_from w (i + 1) (drop o programs) in
        let c = cursor o s.turn a b n in
        let c' = cursor o (s.turn + 1) a' (b + 1) n' in
        let past_c : past y c ≡ c' =
        rw (
          add-one s.turn,
          add-one b,
          ea,
          en,
          behind_a y u eu (cursor 0 0 a 0 n),
          behind_deals y u eu (cursor 0 0 a 0 n),
        ) (past_exchange y speaks o s.turn a b n) in
        ap (λ (k : ℕ). reported P (steps_from w k (drop o programs)) c' (m, l)) ei
        ∙ sym
        (ap (λ (ss : List Step). report P (hear_walk P s v (found ss c))) here
        ∙ walk_on P s v y after c speaks
        ∙ ap (λ (z : Cursor). reported P after z (heard_at P y c (s.m, s.mask) v)) past_c
        ∙ ap (λ (z : Pair). reported P after c' z) (heard_any h M D y o s.turn a b n (s.m, s.mask) v ∙ sym em))
