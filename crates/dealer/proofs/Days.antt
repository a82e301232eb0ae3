-- Preparation's answer of a day, from what the checks find and from where the code's walk over its orders ends. Assumes nothing.
use mathlib.Core.Path.{◌≡◌, refl, sym, ap, ◌∙◌}
use mathlib.Core.Bool.{Bool}
use mathlib.Core.List.{List}
use Prim.Native.Nat.{ℕ, ◌+◌, ◌^◌, ◌≤◌, ◌<◌}
use native.Mathlib.Omega.{arith}
use lib.Dec.{lit≤}
use lib.ListN.{length, set, take, replicate}
use lib.Seq.{take-take}
use Rattle.tables.specs.Table.{Rules, rows}
use Rattle.gates.specs.declared.Used.{Used}
use Rattle.gates.specs.Steps.{Lane, Step}
use Rattle.gates.specs.Meaning.{job_steps}
use Rattle.gates.specs.Hosts.{Pair}
use Rattle.gates.specs.Costs.{Cost, plus}
use Rattle.programs.specs.Sizes.{times_cost}
use Rattle.jobs.specs.CostTable.{curve_cost, kind_costs, kind_cost}
use Rattle.calls.specs.Scripts.{Script}
use Rattle.calls.specs.Lent.{dealer_fault}
use Rattle.calls.specs.Calls.{Prepared}
use Rattle.calls.proofs.Faults.{no_dealer_fault}
use Rattle.walks.specs.Dealers.{dealer, outset, deal_all, Room}
use Rattle.walks.proofs.Prepared.{refused, dealt_count, finished, room_outset}
use Rattle.calendars.specs.declared.Quarters.{Quarters}
use Rattle.calendars.specs.Ranges.{number}
use Rattle.calendars.specs.Calendar.{calendar_number}
use Rattle.calendars.specs.Quarters.{held}
use Rattle.calendars.proofs.Counting.{held_where, number_alike, number_le}
use Rattle.call_check.specs.declared.day.CheckedDay.{CheckedDay}
use Rattle.call_check.specs.Days.{DayIs}
use Rattle.days.specs.Day.{Hours, counting, day_steps, day_script, day_of}
use Rattle.days.specs.DayCalls.{day_given, own_masks, day_prepare}
use Rattle.days.specs.Orders.{within, first_tail, second_tail}
use Rattle.days.proofs.Quarters.{day_alike}
use Rattle.days.proofs.Counts.{few_words, day_counts}
use Rattle.days.proofs.Lanes.{own_lane, given_lanes}
use Rattle.days.proofs.Accepted.{accepted}

-- the registers of the day's lane: the share's slot is put back
registers_of : (k : ℕ) (tail c : Lane) → length c ≡ 24 → take 16 (set c 15 k) ≡ take 16 (take 120 (within k tail c))
registers_of k tail c n =
    ap (take 16) (sym (own_lane k tail c n)) ∙ take-take 16 24 (within k tail c) (lit≤ tt) ∙ sym (take-take 16 120 (within k tail c) (lit≤ tt))

module _ (table S : List ℕ) (H : Hours) (A B D : List ℕ) where
  abbrev σ : Script
  σ = day_script 32 table (length S) H

  pub day_refused : (n : ℕ) → (n, 0) ≡ dealer_fault σ A B D → (n ≡ 0 → ⊥)
      → ◌≡◌ {A = Prepared} (record { number = n; index = 0; deals = 0; masks = (replicate 16 0, replicate 16 0); buffer = D })
      (day_prepare 32 table S H A B D)
  unfolding day_prepare
  day_refused n e h = ap own_masks (refused σ A B D (day_given S) n 0 e h)

  module _ (e : (dealer_fault σ A B D).0 ≡ 0) where
    pub day_lent : (length S ≡ 192) × (calendar_number H.calendar H.weekday ≡ 0) × Rules table
    day_lent = accepted table (length S) H (no_dealer_fault σ A B D e)

    -- the quarters that count by the words in hand count by the hours
    module _ (c : CheckedDay) (is : DayIs table H c) where
      abbrev f : ℕ → Bool
      f = held c.day.quarters

      same_day : (q : ℕ) → q < 96 → f q ≡ counting H q
      same_day q l = ap (λ (x : Quarters). held x q) is.quarters ∙ held_where (counting H) q l

      steps_are : day_steps 32 table f ≡ day_steps 32 table (counting H)
      unfolding day_steps
      steps_are = ap (job_steps 32) (day_alike 32 f (counting H) (rows table) same_day)

      pub n_is : c.day.n ≡ number f 0 96
      n_is = is.n ∙ sym (number_alike f (counting H) 0 96 (λ k l. let a : 0 + k ≡ k = omega arith in rw a (same_day k l)))

      pub day_room : (l₁ l₂ : Lane) → Room A B (day_steps 32 table f) (outset l₁ l₂ D)
      day_room l₁ l₂ = rw steps_are (room_outset σ A B D l₁ l₂ e)

      -- the code's lanes are c₁ and c₂ at the end
      module _ (u : Used) (c₁ c₂ : Lane) (buf : List ℕ)
          (h : dealer u (within 0 (first_tail S) c₁) (within 0 (second_tail S) c₂) buf
          ≡ deal_all A B (day_steps 32 table f)
          (outset (within 0 (first_tail S) (replicate 24 0)) (within 0 (second_tail S) (replicate 24 0)) D)) where
        dealt : dealer u (within 0 (first_tail S) c₁) (within 0 (second_tail S) c₂) buf
            ≡ deal_all A B (day_steps 32 table (counting H))
            (outset (within 0 (first_tail S) (replicate 24 0)) (within 0 (second_tail S) (replicate 24 0)) D)
        dealt =
            h
            ∙ ap (λ (ss : List Step). deal_all A B ss (outset (within 0 (first_tail S) (replicate 24 0)) (within 0 (second_tail S) (replicate 24 0)) D))
            steps_are

        pub few_dealt : u.deals < 2 ^ 32
        unfolding day_of times_cost kind_cost kind_costs curve_cost plus
        few_dealt =
            let n = dealt_count σ A B D (day_given S) _ _ _ e (ap (λ (p : Pair). p.0) (given_lanes S)) (ap (λ (p : Pair). p.1) (given_lanes S)) dealt in
            let k = curve_cost 0 (length (rows table)) in
            let few : k.deals ≤ 1000 = omega (arith, day_lent.2.at_most) in
            omega (
              arith,
              n,
              ap (λ (k : Cost). k.deals) (day_counts table (length S) H),
              few_words k.deals (number (counting H) 0 96) few (number_le (counting H) 0 96),
            )

        pub day_answer : length c₁ ≡ 24 → length c₂ ≡ 24 → (k₁ k₂ : List ℕ) → k₁ ≡ take 16 (set c₁ 15 0) → k₂ ≡ take 16 (set c₂ 15 0)
            → ◌≡◌ {A = Prepared} (record { number = 0; index = 0; deals = u.deals; masks = (k₁, k₂); buffer = buf })
            (day_prepare 32 table S H A B D)
        unfolding day_prepare
        day_answer n₁ n₂ k₁ k₂ e₁ e₂ =
            let m₁ = e₁ ∙ registers_of 0 (first_tail S) c₁ n₁ in
            let m₂ = e₂ ∙ registers_of 0 (second_tail S) c₂ n₂ in
            (λ t. record { number = 0; index = 0; deals = u.deals; masks = (m₁ t, m₂ t); buffer = buf })
            ∙ ap own_masks (finished σ A B D (day_given S) _ _ _ e (ap (λ (p : Pair). p.0) (given_lanes S)) (ap (λ (p : Pair). p.1) (given_lanes S)) dealt _ _ refl refl)
