-- Preparation's walk over the orders of a job, an addition or subtraction at once and the others piece by piece: a turn, and the end. Assumes nothing.
use mathlib.Core.Path.{◌≡◌, sym, ap, subst, ◌∙◌}
use mathlib.Core.Bool.{true, false}
use mathlib.Core.List.{List, [], ◌∷◌, ◌++◌}
use Prim.Native.Nat.{ℕ, zero, suc, ◌+◌, ◌*◌, ◌/◌, ◌≤◌, ◌<◌}
use native.Mathlib.Numerals.{add-one}
use native.Mathlib.Omega.{arith}
use lib.ListN.{length, get_or, drop, length-append}
use Rattle.gates.specs.Gates.{Gate}
use Rattle.gates.specs.declared.Used.{Used}
use Rattle.gates.specs.Steps.{Lane, Step, end}
use Rattle.gates.specs.Meaning.{each, order_steps, job_steps}
use Rattle.gates.specs.Hosts.{on_mask}
use Rattle.gates.specs.Speech.{shape}
use Rattle.gates.specs.Costs.{Cost, plus, step_cost, cost}
use Rattle.tables.specs.Table.{rows}
use Rattle.programs.specs.declared.Order.{Order}
use Rattle.programs.specs.Orders.{program}
use Rattle.programs.specs.Costs.{program_cost}
use Rattle.programs.proofs.Sizes.{few, order_cost}
use Rattle.program_fetch.specs.declared.Piece.{Piece}
use Rattle.program_fetch.proofs.Stands.{Stands}
use Rattle.program_fetch.proofs.PieceSteps.{piece_steps, piece_end, gates_behind, piece_cut, last_steps, more_steps, steps_count}
use Rattle.jobs.specs.Job.{job_gates, steps_of, order_at}
use Rattle.jobs.specs.Additions.{Additive, added_word, added}
use Rattle.jobs.proofs.Additions.{additive_steps}
use Rattle.jobs.proofs.Indices.{order_there, gates_at, gates_over}
use Rattle.walks.specs.Dealers.{Dealer, dealer, dealing, deal_all, Room}
use Rattle.walks.specs.Halts.{steps_from}
use Rattle.walks.proofs.Gates.{first_gate}
use Rattle.walks.proofs.Preparing.{Midway, begins, done, room_now, further, past_end}

-- a program of several takes no more words of A than all
own_words : (w : ℕ) (programs : List (List Gate)) (o : ℕ)
    → (cost (order_steps w (get_or programs o []) [])).a ≤ (cost (job_steps w programs)).a
unfolding job_steps order_steps cost plus step_cost program_cost
own_words w [] o = omega arith
own_words w (gs ∷ rest) zero = omega (arith, ap (λ (k : Cost). k.a) (order_cost w gs (job_steps w rest)))
own_words w (gs ∷ rest) (suc o) = omega (arith, own_words w rest o, ap (λ (k : Cost). k.a) (order_cost w gs (job_steps w rest)))

module _ (w : ℕ) (A B job table : List ℕ) where
  abbrev all : List Step
  all = steps_of w job table

  -- the steps from gate i of the order at o on
  abbrev pub left : (o i : ℕ) → List Step
  left o i = steps_from w i (drop o (job_gates w job table))

  pub job_begins : (s : Dealer) → Room A B all s → Midway A B all (left 0 0) s s
  unfolding steps_of
  job_begins s h = subst (λ (ss : List Step). Midway A B all ss s s) (first_gate w (job_gates w job table)) (begins A B all s h)

  module _ (o i : ℕ) (s₀ s : Dealer) (h : Midway A B all (left o i) s₀ s) where
    pub job_done : length job / 4 ≤ o → s ≡ deal_all A B all s₀
    unfolding steps_from
    job_done l =
        done A B all s₀ s
        (subst (λ (ps : List (List Gate)). Midway A B all (steps_from w i ps) s₀ s) (gates_over w job table o l) h)

  module _ (o i : ℕ) (n : o < length job / 4) (x : Order) (ex : x ≡ order_at job o) where
    abbrev later : List Step
    later = job_steps w (drop (suc o) (job_gates w job table))

    from_gate : (j : ℕ) → left o j ≡ order_steps w (drop j (program w (rows table) x)) later
    unfolding steps_from
    from_gate j = ap (steps_from w j) (order_there w job table o n x ex)

    next_order : later ≡ left (o + 1) 0
    next_order = rw (add-one o) (first_gate w (drop (suc o) (job_gates w job table)))

    -- ---- an addition or subtraction: its one gate

    module _ (z : i ≡ 0) (k : Additive x) where
      one_gate : left o i ≡ each x.target (added_word w x) ∷ end ∷ left (o + 1) i
      one_gate =
          let e : left o 0 ≡ each x.target (added_word w x) ∷ end ∷ left (o + 1) 0 =
          from_gate 0 ∙ additive_steps w (rows table) x k later
          ∙ ap (λ (ss : List Step). each x.target (added_word w x) ∷ end ∷ ss) next_order in
          rw z e

      pub fewer_left : length (left (o + 1) i) < length (left o i)
      fewer_left = omega (arith, ap length one_gate)

      pub added_done : (s₀ : Dealer) (u : Used) (l1 l2 : Lane) (buf : List ℕ) → Midway A B all (left o i) s₀ (dealer u l1 l2 buf)
          → (m1 m2 : Lane) → m1 ≡ added w x l1 → m2 ≡ added w x l2 → Midway A B all (left (o + 1) i) s₀ (dealer u m1 m2 buf)
      unfolding deal_all dealing shape on_mask
      added_done s₀ u l1 l2 buf h m1 m2 e1 e2 =
          past_end A B all s₀ (dealer u m1 m2 buf) (left (o + 1) i)
          (further A B all s₀ (dealer u l1 l2 buf) (left o i) (each x.target (added_word w x) ∷ []) (end ∷ left (o + 1) i) one_gate h
          (dealer u m1 m2 buf) (rw (e1, e2)))

    -- ---- a piece of its program

    module _ (p : Piece) (st : Stands w (rows table) x i p) where
      abbrev now_steps : List Step
      now_steps = piece_steps w (rows table) x i p st

      abbrev end_at : ℕ
      end_at = piece_end w (rows table) x i p st

      abbrev then_steps : List Step
      then_steps = order_steps w (gates_behind w (rows table) x i p st) later

      cut : left o i ≡ now_steps ++ then_steps
      cut = from_gate i ∙ piece_cut w (rows table) x i p st later

      same_order : p.last ≡ false → then_steps ≡ left o end_at
      same_order e = more_steps w (rows table) x i p st e later ∙ sym (from_gate end_at)

      -- the steps left get fewer
      pub fewer_orders : p.last ≡ true → length (left (o + 1) 0) < length (left o i)
      fewer_orders e = omega (
        arith,
        ap length cut,
        length-append now_steps then_steps,
        ap length (last_steps w (rows table) x i p st e later),
        ap length next_order,
      )

      pub fewer_gates : p.last ≡ false → length (left o end_at) < length (left o i)
      fewer_gates e = omega (
        arith,
        ap length cut,
        length-append now_steps then_steps,
        ap length (same_order e),
        steps_count w (rows table) x i p st,
        st.some e,
      )

      module _ (s₀ s : Dealer) (h : Midway A B all (left o i) s₀ s) where
        pub piece_room : Room A B now_steps s
        piece_room = room_now A B all s₀ s (left o i) now_steps then_steps cut h

        module _ (t : Dealer) (et : t ≡ deal_all A B now_steps s) where
          behind : Midway A B all then_steps s₀ t
          behind = further A B all s₀ s (left o i) now_steps then_steps cut h t et

          pub order_done : p.last ≡ true → Midway A B all (left (o + 1) 0) s₀ t
          order_done e =
              let m : Midway A B all (end ∷ later) s₀ t =
              subst (λ (ss : List Step). Midway A B all ss s₀ t) (last_steps w (rows table) x i p st e later) behind in
              subst (λ (ss : List Step). Midway A B all ss s₀ t) next_order (past_end A B all s₀ t later m)

          pub piece_done : p.last ≡ false → Midway A B all (left o end_at) s₀ t
          piece_done e = subst (λ (ss : List Step). Midway A B all ss s₀ t) (same_order e) behind

-- a job's order has few gates beside those that take a word of A
pub few_gates : (A B job table : List ℕ) (s : Dealer) → Room A B (steps_of 32 job table) s
    → (o : ℕ) → o < length job / 4 → (x : Order) → x ≡ order_at job o → length (program 32 (rows table) x) ≤ 2 * length A + 60
unfolding steps_of
few_gates A B job table s h o n x ex =
    let own = program 32 (rows table) x in
    let e : get_or (job_gates 32 job table) o [] ≡ own = gates_at 32 job table o n ∙ sym (ap (program 32 (rows table)) ex) in
    omega (
      arith,
      few (rows table) x,
      own_words 32 (job_gates 32 job table) o,
      ap (λ (gs : List Gate). (cost (order_steps 32 gs [])).a) e,
      h.a,
    )
