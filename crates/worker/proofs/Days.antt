-- A day's order, begun or gone on with by the code of host 1 or 2 as its own order, gives what the day's walk gives; on plain values.
-- Assumes nothing.
use mathlib.Core.Path.{◌≡◌, refl, sym, ap, ap₂, subst, ◌∙◌}
use mathlib.Core.Bool.{Bool, true, false, cond}
use mathlib.Core.List.{List, [], ◌∷◌, ◌++◌, map}
use Prim.Native.Nat.{ℕ, suc, ◌+◌, ◌*◌, ◌≤◌, ◌<◌}
use native.Mathlib.Numerals.{add-one}
use native.Mathlib.Omega.{arith}
use lib.Dec.{ltb}
use lib.ListN.{length, drop, drop_of_length-le}
use Rattle.std.specs.Prelude.{Option, Some, None}
use Rattle.std.proofs.lemmas.Option.{none-some}
use Rattle.tables.specs.Table.{Row, Rules, rows}
use Rattle.gates.specs.Gates.{Gate}
use Rattle.gates.specs.Steps.{Lane, at, Step, end, Cursor, origin}
use Rattle.gates.specs.Meaning.{meaning, order_steps, job_steps}
use Rattle.gates.specs.Walk.{far}
use Rattle.gates.specs.Codes.{At, fetched}
use Rattle.gates.proofs.Fetched as Fetched
use Rattle.gates.specs.Hosts.{Pair}
use Rattle.gates.specs.Costs.{Cost}
use Rattle.programs.specs.declared.Order.{Order}
use Rattle.programs.specs.Orders.{program}
use Rattle.programs.specs.Costs.{program_cost}
use Rattle.programs.specs.Seek.{sought}
use Rattle.programs.specs.declared.GatePlace.{GatePlace}
use Rattle.programs.proofs.Sizes.{few_gates}
use Rattle.jobs.specs.Job.{order_at, job_gates}
use Rattle.jobs.specs.CostTable.{curve_cost, kind_costs, kind_cost}
use Rattle.jobs.proofs.CostTable.{cost_table}
use Rattle.calls.specs.Lent.{Worker, worker_with}
use Rattle.calls.specs.declared.Stored.{Stored}
use Rattle.calls.specs.Calls.{Answer, report, hear_walk}
use Rattle.calls.specs.Places.{Found, nowhere, found, seek}
use Rattle.walks.specs.Workers.{cursor}
use Rattle.walks.specs.Halts.{going_on, reported, steps_from}
use Rattle.walks.proofs.Halts.{ends}
use Rattle.calendars.specs.Quarters.{tabled}
use Rattle.days.specs.Day.{day_factor, day_gates, day_steps}
use Rattle.days.specs.Orders.{curve_order, mean_order, own_order, is_run, order_words, with_share, entered, left, front, within}
use Rattle.days.specs.Orders.{first_tail, second_tail}
use Rattle.days.proofs.Quarters.{day_gates_count, factor_tabled}
use Rattle.days.proofs.Lanes.{takes, any_share, first_word, second_word, first_short, second_short}
use Rattle.days.proofs.Walked.{steps_are, day_from, Held, Walked, halted, gone_by, begins, walked}
use Rattle.days.proofs.Orders.{steps_whole, steps_within}
use Rattle.days.proofs.Own.{own_job, own_at, own_length, own_spares}
use Rattle.days.proofs.Heard as Heard
use Rattle.days.proofs.Idle.{idle_walk}
use Rattle.days.proofs.Places.{seek_far, used_before, found_in_day, nowhere_in_day, nowhere_left_out}
use Rattle.worker.proofs.Places.{found_here, stands_own}
use Rattle.worker.specs.Answers.{state_with}
use Rattle.worker.specs.declared.place.Stand.{Stand}
use Rattle.worker.specs.Jobs.{Sized, StandIs}
use Rattle.worker.specs.Days.{few_counts, used_until, sought_run, DayLent, DayPlace, DayStandIs}

-- one curve's counts
pub lent_few : (T S : List ℕ) (k : Cost) (f : ℕ → Bool) (n : ℕ) → DayLent T S k f n → few_counts k
unfolding curve_cost
lent_few T S k f n L =
    let p : k ≡ curve_cost 0 (length (rows T)) = L.counts in
    let u = L.ruled.at_most in (
      omega (arith, u, ap (λ (c : Cost). c.deals) p),
      omega (arith, u, ap (λ (c : Cost). c.words) p),
      omega (arith, u, ap (λ (c : Cost). c.a) p),
      omega (arith, u, ap (λ (c : Cost). c.b) p),
    )

-- ---- the code's own order

-- it speaks
own_speaks : (ps : List Row) (o : ℕ) → (program_cost 32 (program 32 ps (own_order o))).b ≡ 0 → ⊥
unfolding own_order kind_cost kind_costs curve_cost
own_speaks ps o e = go (ltb o 96) (sym (ap (λ (k : Cost). k.b) (cost_table.order_counts ps (own_order o))) ∙ e)
  where
    go : (b : Bool) → (kind_cost (cond b curve_order mean_order).kind (cond b curve_order mean_order).fourth (length ps)).b ≡ 0 → ⊥
    go true p = absurd (omega arith)
    go false p = absurd (omega arith)

-- it is a small job
pub sized_own : (table : List ℕ) (o : ℕ) → Rules table → Sized 32 (order_words o) table
sized_own table o r =
    let e = own_length o in
    record {
      few_words = omega (arith, e);
      whole_orders = omega (arith, e);
      few_gates = λ q h. few_gates (rows table) (order_at (order_words o) q) (λ k. r.at_most);
      short_table = λ q h k. omega (arith, r.at_most, r.whole_rows);
    }

-- its steps
own_steps : (w : ℕ) (table : List ℕ) (o i : ℕ)
    → steps_from w i (drop 0 (job_gates w (order_words o) table)) ≡ order_steps w (drop i (program w (rows table) (own_order o))) []
unfolding job_gates steps_from job_steps
own_steps w table o i = rw (own_job o)

-- ---- the place that the code finds

-- from the order's words in hand
pub own_sought : (T : List ℕ) (o x : ℕ) (J : List ℕ) → J ≡ order_words o → (ord : Order) → ord ≡ order_at J 0
    → sought 32 (program 32 (rows T) ord) x 0 0 0 ≡ sought 32 (program 32 (rows T) (own_order o)) x 0 0 0
own_sought T o x J eJ ord eo =
    ap (λ (q : Order). sought 32 (program 32 (rows T) q) x 0 0 0) (eo ∙ ap (λ (j : List ℕ). order_at j 0) eJ ∙ own_at o)

module _ (T : List ℕ) (f : ℕ → Bool) (o x : ℕ) (in_day : o ≤ 96) (g : Option GatePlace) (eg : g ≡ sought_run f T o x) where
  pub none_placed : g ≡ None → seek o x (day_steps 32 T f) origin ≡ nowhere
  unfolding sought_run
  none_placed p = go (is_run f o) refl (sym eg ∙ p)
    where
      go : (b : Bool) → is_run f o ≡ b → cond b (sought 32 (program 32 (rows T) (own_order o)) x 0 0 0) None ≡ None
          → seek o x (day_steps 32 T f) origin ≡ nowhere
      go true run e = nowhere_in_day T f o x in_day run e
      go false idle e = nowhere_left_out T f o x in_day idle

  -- a place is found in an order that is run alone
  found_run : (p : GatePlace) → g ≡ Some p
      → (is_run f o ≡ true) × (sought 32 (program 32 (rows T) (own_order o)) x 0 0 0 ≡ Some p)
  unfolding sought_run
  found_run p s = go (is_run f o) refl (sym eg ∙ s)
    where
      go : (b : Bool) → is_run f o ≡ b → cond b (sought 32 (program 32 (rows T) (own_order o)) x 0 0 0) None ≡ Some p
          → (is_run f o ≡ true) × (sought 32 (program 32 (rows T) (own_order o)) x 0 0 0 ≡ Some p)
      go true run e = (run, e)
      go false idle e = absurd (none-some p e)

  pub placed_day : Rules T → (p : GatePlace) → g ≡ Some p → (k u : Cost) → k ≡ curve_cost 0 (length (rows T)) → u ≡ used_until f k o
      → DayPlace T f o x p.gate (u.a + p.a) (u.b + x) (u.deals + p.deals)
  unfolding used_until
  placed_day r p z k u ek eu =
      let run = (found_run p z).0 in
      let s = (found_run p z).1 in
      let q = found_in_day T f o x in_day run (λ z. few_gates (rows T) z (λ c. r.at_most)) p.gate p.a p.deals s in
      let e : sought 32 (program 32 (rows T) (order_at (order_words o) 0)) x 0 0 0 ≡ Some p =
      ap (λ (z : Order). sought 32 (program 32 (rows T) z) x 0 0 0) (own_at o) ∙ s in
      let h = found_here 32 (order_words o) T 0 x (omega (arith, own_length o)) (sized_own T o r) p e in
      rw (eu, ek)
      (record {
        in_day = in_day;
        run = run;
        standing = h.standing;
        few_gates = h.few_gates;
        few_turns = h.few_turns;
        few_a = omega (arith, q.1);
        few_b = omega (arith, q.2);
        few_deals = omega (arith, q.3);
        is = q.0;
      })

-- by the code's own numbers
pub place_at : (T : List ℕ) (f : ℕ → Bool) (o x i a b n : ℕ) → DayPlace T f o x i a b n → (ord : Order) (z : Stand)
    → StandIs 32 (rows T) ord i a b n z → DayPlace T f o x z.at.gate z.at.used.a z.at.used.b z.at.used.deals
place_at T f o x i a b n p ord z S = rw (S.gate, S.a_used, S.b_used, S.deals_used) p

-- and what the gate there is, where the code has the order alone
pub stands_in : (T : List ℕ) (f : ℕ → Bool) (o x i a b n : ℕ) → DayPlace T f o x i a b n → (J : List ℕ) → J ≡ order_words o
    → (ord : Order) → ord ≡ order_at J 0 → (z : Stand) → StandIs 32 (rows T) ord i a b n z
    → DayPlace T f o x z.at.gate z.at.used.a z.at.used.b z.at.used.deals × DayStandIs T o z
stands_in T f o x i a b n p J eJ ord eo z S = (
  place_at T f o x i a b n p ord z S,
  subst (λ (q : Order). StandIs 32 (rows T) q z.at.gate z.at.used.a z.at.used.b z.at.used.deals z)
      (eo ∙ ap (λ (j : List ℕ). order_at j 0) eJ ∙ own_at o) (stands_own 32 T ord i a b n z S),
)

-- ---- an order begun

-- an answer's lanes are as long as a state's
abbrev pub Long : Answer → Type 0
Long a = (length a.state.m ≡ 24) × (length a.state.mask ≡ 24)

module _ (h : ℕ) (M D T S : List ℕ) (curve : Cost) (f : ℕ → Bool) (counted : ℕ) (L : DayLent T S curve f counted) (o : ℕ) (in_day : o ≤ 96)
    (run : is_run f o ≡ true) (k l : ℕ) where
  abbrev P : Worker
  P = worker_with h M D

  abbrev own : List Gate
  own = program 32 (rows T) (own_order o)

  abbrev t₁ : Lane
  t₁ = first_tail S

  abbrev t₂ : Lane
  t₂ = second_tail S

  abbrev s₁ : length t₁ ≤ 104
  s₁ = first_short S L.listed

  abbrev s₂ : length t₂ ≤ 104
  s₂ = second_short S L.listed

  abbrev rest : List Step
  rest = job_steps 32 (drop (suc o) (day_gates 32 f (rows T)))

  -- the answer on the day's lanes, at the order's place
  abbrev at_order : Answer → Answer
  at_order a =
      going_on a.spoken a.word (within k t₁ a.state.m) (within l t₂ a.state.mask) o a.state.turn a.state.stored

  -- the order's share is put into slot 15
  module _ (m c m₁ c₁ : Lane) (lm : length m ≡ 24) (lc : length c ≡ 24) (em : m₁ ≡ with_share (at S (o * 2)) m)
      (ec : c₁ ≡ with_share (at S (o * 2 + 1)) c) where
    pub taken : Held h M D 32 o k l t₁ t₂ s₁ s₂ (m₁, c₁)
    taken =
        rw (em, ec, ← first_word S L.listed o, ← second_word S L.listed o) (takes (at t₁ o) m lm, takes (at t₂ o) c lc)

    pub same_first : within k t₁ m ≡ within k t₁ m₁
    same_first = rw em (sym (any_share k t₁ m lm (at S (o * 2))))

    pub same_second : within l t₂ c ≡ within l t₂ c₁
    same_second = rw ec (sym (any_share l t₂ c lc (at S (o * 2 + 1))))

    module _ (a b n : ℕ) (m₂ c₂ : Lane) (fm : m₂ ≡ entered 32 (day_factor f) o m₁)
        (fc : c₂ ≡ entered 32 (day_factor f) o c₁) where
      abbrev day : Answer
      day = reported P (job_steps 32 (drop o (day_gates 32 f (rows T)))) (cursor o 0 a b n) (within k t₁ m, within l t₂ c)

      abbrev code : Answer
      code = reported P (steps_from 32 0 (drop 0 (job_gates 32 (order_words o) T))) (cursor 0 0 a b n) (m₂, c₂)

      ready : (reported P (map (meaning 32) (front (day_factor f) o) ++ day_from 32 o own rest) (cursor o 0 a b n) (within k t₁ m₁, within l t₂ c₁)
          ≡ reported P (day_from 32 o own rest) (cursor o 0 a b n) (within k t₁ m₂, within l t₂ c₂))
          × Held h M D 32 o k l t₁ t₂ s₁ s₂ (m₂, c₂)
      ready = rw (fm, fc) (begins h M D 32 o k l t₁ t₂ s₁ s₂ (day_factor f) (day_from 32 o own rest) 0 a b n (m₁, c₁) taken)

      day_is : day ≡ reported P (day_from 32 o own rest) (cursor o 0 a b n) (within k t₁ m₂, within l t₂ c₂)
      day_is =
          ap₂ (λ (ss : List Step) (z : Pair). reported P ss (cursor o 0 a b n) z) (steps_whole 32 f (rows T) o in_day run)
          (ap₂ {C = Pair} (λ (y z : Lane). (y, z)) same_first same_second)
          ∙ ready.0

      code_is : code ≡ reported P (map (meaning 32) own ++ (end ∷ [])) (cursor 0 0 a b n) (m₂, c₂)
      code_is = ap (λ (ss : List Step). reported P ss (cursor 0 0 a b n) (m₂, c₂)) (own_steps 32 T o 0 ∙ steps_are 32 own [])

      -- it halts at its first product or refresh
      begun : (x : Answer) → x ≡ code → (at_order x ≡ day) × Long x
      begun x e = go (walked h M D 32 o k l t₁ t₂ s₁ s₂ own (own_spares 32 (rows T) o) rest 0 a b n (m₂, c₂) ready.1)
        where
          go : Walked h M D 32 o k l t₁ t₂ s₁ s₂ rest 0 b (program_cost 32 own).b (far (day_from 32 o own rest) (cursor o 0 a b n))
              (reported P (day_from 32 o own rest) (cursor o 0 a b n) (within k t₁ m₂, within l t₂ c₂))
              (reported P (map (meaning 32) own ++ (end ∷ [])) (cursor 0 0 a b n) (m₂, c₂))
              → (at_order x ≡ day) × Long x
          go (halted v u s r p q) = let y = e ∙ code_is ∙ p in (ap at_order y ∙ sym (day_is ∙ q), rw y (r.0.long, r.1.long))
          go (gone_by a' n' s p r q y none) = absurd (own_speaks (rows T) o none)

    -- as the code has it in hand: the order's words, and what is used before it
    pub begun_as : (J : List ℕ) → J ≡ order_words o → (u : Cost) → u ≡ used_until f curve o → (m₂ c₂ : Lane)
        → m₂ ≡ entered 32 (tabled counted) o m₁ → c₂ ≡ entered 32 (tabled counted) o c₁ → (x : Answer)
        → x ≡ reported P (steps_from 32 0 (drop 0 (job_gates 32 J T))) (cursor 0 0 u.a u.b u.deals) (m₂, c₂)
        → (at_order x
        ≡ reported P (job_steps 32 (drop o (day_gates 32 f (rows T))))
        (cursor o 0 (used_until f curve o).a (used_until f curve o).b (used_until f curve o).deals) (within k t₁ m, within l t₂ c))
        × Long x
    begun_as J eJ u eu m₂ c₂ fm fc x e =
        begun (used_until f curve o).a (used_until f curve o).b (used_until f curve o).deals m₂ c₂
        (fm ∙ ap (λ (q : ℕ). entered 32 q o m₁) (factor_tabled f counted L.counted))
        (fc ∙ ap (λ (q : ℕ). entered 32 q o c₁) (factor_tabled f counted L.counted)) x
        (e ∙ ap₂ (λ (j : List ℕ) (y : Cost). reported P (steps_from 32 0 (drop 0 (job_gates 32 j T))) (cursor 0 0 y.a y.b y.deals) (m₂, c₂))
        eJ eu)

    -- ---- gone on with, from the product or refresh at the place (o, x)

    module _ (x i a b n : ℕ) (pl : DayPlace T f o x i a b n) (stored : Stored) (v : ℕ) where
      abbrev heard_day : Answer
      heard_day = report P (hear_walk P (state_with (within k t₁ m) (within l t₂ c) o x stored) v (seek o x (day_steps 32 T f) origin))

      abbrev heard_code : Answer
      heard_code =
          report P
          (hear_walk P (state_with m₁ c₁ 0 x stored) v (found (steps_from 32 i (drop 0 (job_gates 32 (order_words o) T))) (cursor 0 x a b n)))

      abbrev g : Gate
      g = pl.standing.held

      there : fetched own i ≡ At g
      there = ap (λ (q : Order). fetched (program 32 (rows T) q) i) (sym (own_at o)) ∙ pl.standing.there

      -- the place, as the day has it
      found_is : seek o x (day_steps 32 T f) origin ≡ found (day_from 32 o (drop i own) rest) (cursor o x a b n)
      found_is =
          let h : i < length own = Fetched.inside own i g there in
          pl.is ∙ ap (λ (ss : List Step). found ss (cursor o x a b n)) (steps_within 32 f (rows T) o in_day run i (omega arith))

      day_heard : heard_day ≡ Heard.day h M D 32 o k l t₁ t₂ s₁ s₂ own (own_spares 32 (rows T) o) i g there pl.standing.speaks rest
          x a b n m₁ c₁ taken stored v
      day_heard =
          ap₂ (λ (y z : Lane). report P (hear_walk P (state_with y z o x stored) v (seek o x (day_steps 32 T f) origin))) same_first same_second
          ∙ ap (λ (z : Found). report P (hear_walk P (state_with (within k t₁ m₁) (within l t₂ c₁) o x stored) v z)) found_is

      code_heard : heard_code ≡ Heard.code h M D 32 o k l t₁ t₂ s₁ s₂ own (own_spares 32 (rows T) o) i g there pl.standing.speaks rest
          x a b n m₁ c₁ taken stored v
      code_heard =
          ap (λ (ss : List Step). report P (hear_walk P (state_with m₁ c₁ 0 x stored) v (found ss (cursor 0 x a b n)))) (own_steps 32 T o i)

      -- the code has gone by the order: the day stands before the next one, with as much used as the answer stores
      abbrev used_by : Answer → Cursor
      used_by z = cursor (suc o) 0 z.state.stored.a z.state.stored.b z.state.stored.deals

      pub record GoneBy (z : Answer) : Type 0 where
        pub day_there : heard_day ≡ reported P rest (used_by z) (within k t₁ (left 32 o z.state.m), within l t₂ (left 32 o z.state.mask))
        pub long_there : (length (left 32 o z.state.m) ≡ 24) × (length (left 32 o z.state.mask) ≡ 24)
        pub all_there : far rest (used_by z) ≡ far (day_steps 32 T f) origin

      abbrev Walks : Type 0
      Walks =
          Walked h M D 32 o k l t₁ t₂ s₁ s₂ rest (suc x) (suc b) (program_cost 32 (drop (suc i) own)).b
          (far (day_from 32 o (drop i own) rest) (cursor o x a b n))
          (Heard.day h M D 32 o k l t₁ t₂ s₁ s₂ own (own_spares 32 (rows T) o) i g there pl.standing.speaks rest x a b n m₁ c₁ taken stored v)
          (Heard.code h M D 32 o k l t₁ t₂ s₁ s₂ own (own_spares 32 (rows T) o) i g there pl.standing.speaks rest x a b n m₁ c₁ taken stored v)

      both_walk : Walks
      both_walk =
          Heard.heard_walked h M D 32 o k l t₁ t₂ s₁ s₂ own (own_spares 32 (rows T) o) i g there pl.standing.speaks rest x a b n m₁ c₁ taken stored v

      module _ (J : List ℕ) (eJ : J ≡ order_words o) (z : Answer)
          (ez : z ≡ report P (hear_walk P (state_with m₁ c₁ 0 x stored) v (found (steps_from 32 i (drop 0 (job_gates 32 J T))) (cursor 0 x a b n))))
        where
          e : z ≡ heard_code
          e =
              ez
              ∙ ap (λ (j : List ℕ). report P
              (hear_walk P (state_with m₁ c₁ 0 x stored) v (found (steps_from 32 i (drop 0 (job_gates 32 j T))) (cursor 0 x a b n)))) eJ

          pub halts_in : z.state.order ≡ 0 → (at_order z ≡ heard_day) × Long z
          halts_in ends = go both_walk
            where
              go : Walks → (at_order z ≡ heard_day) × Long z
              go (halted v u s r p q) = let y = e ∙ code_heard ∙ p in (ap at_order y ∙ sym (day_heard ∙ q), rw y (r.0.long, r.1.long))
              go (gone_by a' n' s p r q y none) =
                  let w : ◌≡◌ {A = ℕ} 1 0 = sym (ap (λ (x : Answer). x.state.order) (e ∙ code_heard ∙ p)) ∙ ends in absurd (omega arith)

          goes_by : (z.state.order ≡ 0 → ⊥) → GoneBy z
          goes_by on = go both_walk
            where
              go : Walks → GoneBy z
              go (halted v u s r p q) = absurd (on (ap (λ (x : Answer). x.state.order) (e ∙ code_heard ∙ p)))
              go (gone_by a' n' s p r q y none) =
                  let w = e ∙ code_heard ∙ p in
                  let all = seek_far o x (day_steps 32 T f) origin _ _ found_is in
                  rw w
                  (record { day_there = day_heard ∙ q; long_there = (r.0.long, r.1.long); all_there = sym y ∙ all })

          module _ (on : z.state.order ≡ 0 → ⊥) (m₃ c₃ : Lane) (fm : m₃ ≡ left 32 o z.state.m) (fc : c₃ ≡ left 32 o z.state.mask) where
            pub long_left : (length m₃ ≡ 24) × (length c₃ ≡ 24)
            long_left = rw (fm, fc) (goes_by on).long_there

            -- the mean is the last order
            pub ends_day : o ≡ 96 → going_on z.state.stored.b 0 (within k t₁ m₃) (within l t₂ c₃) (o + 1) 0 z.state.stored ≡ heard_day
            unfolding job_steps
            ends_day last =
                let q = goes_by on in
                let none : drop (suc o) (day_gates 32 f (rows T)) ≡ [] =
                drop_of_length-le (day_gates 32 f (rows T)) {i = suc o} (omega (arith, day_gates_count 32 f (rows T))) in
                rw (fm, fc, add-one o)
                (sym (q.day_there
                ∙ ap (λ (os : List (List Gate)). reported P (job_steps 32 os) (used_by z)
                (within k t₁ (left 32 o z.state.m), within l t₂ (left 32 o z.state.mask))) none
                ∙ ends P [] (suc o) 0 z.state.stored.a z.state.stored.b z.state.stored.deals _))

            -- the quarters up to order o₁ are left out
            pub next_order : (o₁ : ℕ) → o < o₁ → o₁ ≤ 96 → ((q : ℕ) → suc o ≤ q → q < o₁ → f q ≡ false)
                → reported P (job_steps 32 (drop o₁ (day_gates 32 f (rows T))))
                (cursor o₁ 0 (used_until f curve o₁).a (used_until f curve o₁).b (used_until f curve o₁).deals) (within k t₁ m₃, within l t₂ c₃)
                ≡ heard_day
            unfolding used_until
            next_order o₁ later in_day₁ out =
                let q = goes_by on in
                let y = z.state.stored in
                let j = idle_walk h M D 32 f (rows T) (suc o) o₁ later in_day₁ out y.a y.b y.deals in
                let u = used_before T f o₁ y.a y.b y.deals in_day₁ (sym j.1 ∙ q.all_there) in
                rw (fm, fc, L.counts, ← u.0, ← u.1, ← u.2) (sym (q.day_there ∙ j.0 _))
