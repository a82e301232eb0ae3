-- On the joint walk of a day: after n quarters register 0 opens the sum of the values of those that count and register 1 the number of them
-- above the last row, the lent shares open the readings, and the last order leaves the mean. Assumes nothing.
use mathlib.Core.Path.{◌≡◌, refl, sym, ap, ap₂, ◌∙◌, subst}
use mathlib.Core.Bool.{Bool, true, false, cond}
use mathlib.Core.List.{List}
use mathlib.Core.Logic.{◌↔◌}
use Prim.Native.Nat.{ℕ, zero, suc, ◌+◌, ◌^◌, ◌≤◌, ◌<◌}
use native.Mathlib.Nat.{mod-eq_of_lt}
use native.Mathlib.Omega.{arith}
use native.Mathlib.Decide.{dec_lt}
use borrow.Author.Tests.{ne_eqb}
use lib.Dec.{T, eqb, lit≤, lit<}
use lib.IntN.{ℤ, pos, ◌+ℤ◌, ◌*ℤ◌, +ℤ_idr, *ℤ_comm}
use lib.ListN.{length, replicate, get_or-replicate, get_or-append}
use lib.Seq.{get_or-append-add}
use lib.Signed.{mag}
use Rattle.words.specs.Words.{add, sub, mul, numbers}
use Rattle.words.specs.Signed.{floor, signed, wrap, shr_signed, in_range}
use Rattle.words.proofs.Words.{sub_lt, mul_lt}
use Rattle.words.proofs.Signed.{signed_wrap, signed_shr}
use Rattle.shares.specs.Gates.{Share, value}
use Rattle.gates.specs.Gates.{Gate}
use Rattle.gates.specs.Steps.{Lane, at}
use Rattle.gates.specs.Meaning.{job_steps}
use Rattle.gates.specs.Hosts.{Triple, share}
use Rattle.tables.specs.Table.{Row, rows}
use Rattle.curves.specs.Curve.{last_count, above_last}
use Rattle.programs.specs.Opens.{curve_value}
use Rattle.programs.proofs.Points.{Other, Aside, register, behind, other, afters, num}
use Rattle.programs.proofs.Readings.{sum_reads, times_reads}
use Rattle.calls.specs.Scripts.{Orderly}
use Rattle.runs.specs.Runs.{Stage}
use Rattle.runs.specs.Orders.{Words, first, after_order, before_order, share_before, share_after, value_before, value_after}
use Rattle.runs.proofs.Gated as Gated
use Rattle.runs.proofs.Spared.{slot_kept}
use Rattle.runs.proofs.Unwritten.{unwritten_gates}
use Rattle.runs.proofs.Written.{none}
use Rattle.runs.proofs.Returned.{given_share_is}
use Rattle.calendars.specs.Hours.{Counts}
use Rattle.calendars.proofs.OpeningHours.{opening_hours}
use Rattle.days.specs.Day.{share_slot, quarter_program, mean_program, day_gates, day_steps, counting}
use Rattle.days.proofs.Quarters.{day_gates_count, counted_at, left_out_at, mean_at, day_made}
use Rattle.day_demands.specs.Settings.{DaySetting, day_staged, behind_zeros, quarter_share, quarter_reading}
use Rattle.day_demands.specs.Opened.{curve_alone, is_above, sum_of, above_of, factor_of, Sheet}
use Rattle.days.proofs.Counts.{day_orders, day_orderly}
use Rattle.day_demands.proofs.Programs.{quarter_sum, quarter_count, quarter_keeps, mean_opens, mean_keeps}
use Rattle.day_demands.proofs.Values.{value_lt, alone_reads, above_reads, sheet_keeps, sum_small, product_small, above_most}

-- a quarter counts where the test finds it
pub tested : (S : DaySetting) (q : ℕ) → (counting S.hours q ≡ true) ↔ Counts S.hours.calendar S.hours.weekday q
tested S q = opening_hours.quarter S.hours.calendar S.hours.weekday q

-- a quarter that is left out leaves every slot as it was
pub left_out : (w : ℕ) (S : DaySetting) (q : ℕ) → q < 96 → counting S.hours q ≡ false → (i : ℕ)
    → share_after (day_staged w S) q i ≡ share_before (day_staged w S) q i
unfolding day_steps
left_out w S q h e i =
    let f = counting S.hours in
    slot_kept (day_staged w S) q i (rw (day_orders w S.table 192 S.hours) (omega arith))
    (unwritten_gates w i q (day_gates w f (rows S.table)) (λ l. rw (left_out_at w f (rows S.table) q h e) none))

module _ (S : DaySetting) (words : Words 32 (day_staged 32 S)) where
  abbrev f : ℕ → Bool
  f = counting S.hours

  abbrev D : Stage
  D = day_staged 32 S

  abbrev ps : List Row
  ps = rows S.table

  abbrev gates : List (List Gate)
  gates = day_gates 32 f ps

  abbrev made : D.script.steps ≡ job_steps 32 gates
  made = day_made 32 S.table 192 S.hours

  abbrev tidy : Orderly D.script
  tidy = day_orderly 32 S.table 192 S.hours

  abbrev Pt : Type 0
  Pt = Gated.Pt 32 D tidy words

  abbrev run : List Gate → Pt → Pt
  run = afters 32 S.A S.B words.A words.B

  abbrev before : ℕ → Pt
  before = Gated.before 32 D tidy words gates made

  in_day : (q : ℕ) → q ≤ 96 → q < length gates
  in_day q h = rw (day_gates_count 32 f ps) (omega arith)

  found : (q : ℕ) → q ≤ 96 → before_order D q ≡ (before q).j
  found q h = Gated.before_is 32 D tidy words gates made q (in_day q h)

  -- ---- what a quarter that counts leaves

  module _ (q : ℕ) (h : q < 96) (counted : f q ≡ true) where
    quarter_left : after_order D q ≡ (run (quarter_program 32 q ps) (before q)).j
    quarter_left =
        Gated.after_is 32 D tidy words gates made q (in_day q (omega arith))
        ∙ ap (λ (gs : List Gate). (run gs (before q)).j) (counted_at 32 f ps q h counted)

    sum_left : 0 < length ps
        → value_after 32 D q 0 ≡ add 32 (value_before 32 D q 0) (curve_value 32 ps 0 (value_before 32 D q (share_slot q)) 0)
    unfolding num
    sum_left l =
        ap (λ (t : Triple). value (numbers 32) (share t 0)) quarter_left
        ∙ quarter_sum 32 S.A S.B words.A words.B (lit≤ tt) q ps (before q) (lit< tt) l
        ∙ ap (λ (t : Triple). add 32 (value (numbers 32) (share t 0))
        (curve_value 32 ps 0 (value (numbers 32) (share t (share_slot q))) 0)) (sym (found q (omega arith)))

    count_left : value_after 32 D q 1
        ≡ add 32 (value_before 32 D q 1) (above_last 32 (last_count ps) (value_before 32 D q (share_slot q)))
    unfolding num
    count_left =
        ap (λ (t : Triple). value (numbers 32) (share t 1)) quarter_left
        ∙ quarter_count 32 S.A S.B words.A words.B (lit≤ tt) q ps (before q)
        ∙ ap (λ (t : Triple). add 32 (value (numbers 32) (share t 1))
        (above_last 32 (last_count ps) (value (numbers 32) (share t (share_slot q))))) (sym (found q (omega arith)))

    counted_kept : (i : ℕ) → Aside i → eqb i 0 ≡ false → eqb i 1 ≡ false → share_after D q i ≡ share_before D q i
    counted_kept i o i0 i1 =
        ap (λ (t : Triple). share t i) quarter_left
        ∙ quarter_keeps 32 S.A S.B words.A words.B (lit≤ tt) q ps (before q) i o i0 i1
        ∙ ap (λ (t : Triple). share t i) (sym (found q (omega arith)))

  -- whether it counts or not
  quarter_kept : (q : ℕ) → q < 96 → (i : ℕ) → Aside i → eqb i 0 ≡ false → eqb i 1 ≡ false → share_after D q i ≡ share_before D q i
  quarter_kept q h i o i0 i1 = go (f q) refl
    where
      go : (b : Bool) → f q ≡ b → share_after D q i ≡ share_before D q i
      go true e = counted_kept q h e i o i0 i1
      go false e = left_out 32 S q h e i

  -- so registers from 2 on and the lent shares stand as they were given
  pub kept_before : (q i : ℕ) → q ≤ 96 → Aside i → eqb i 0 ≡ false → eqb i 1 ≡ false → share_before D q i ≡ share (first D) i
  unfolding before_order
  kept_before zero i h o i0 i1 = refl
  kept_before (suc q) i h o i0 i1 = quarter_kept q (omega arith) i o i0 i1 ∙ kept_before q i (omega arith) o i0 i1

  -- ---- what was given

  zeros_front : (l : Lane) (i : ℕ) → i < 24 → at (behind_zeros l) i ≡ 0
  zeros_front l i h = get_or-append (replicate 24 0) l 0 i h ∙ get_or-replicate 24 i 0 0 h

  zero_share : (i : ℕ) → i < 24 → share (first D) i ≡ record { m = 0; l1 = 0; l2 = 0 }
  zero_share i h =
      given_share_is 32 D i (omega arith) ∙ rw (zeros_front S.m i h, zeros_front S.l1 i h, zeros_front S.l2 i h)

  given_zero : (i : ℕ) → i < 24 → value (numbers 32) (share (first D) i) ≡ 0
  unfolding sub add
  given_zero i h = ap (value (numbers 32)) (zero_share i h)

  -- slot 24 + q has the share of quarter q, and opens its reading
  lent_share : (q : ℕ) → q < 96 → share_before D q (share_slot q) ≡ quarter_share S q
  unfolding share_slot
  lent_share q h =
      kept_before q (24 + q) (omega arith) (behind (24 + q) (omega arith)) (ne_eqb (24 + q) 0 (λ e. omega arith))
      (ne_eqb (24 + q) 1 (λ e. omega arith))
      ∙ given_share_is 32 D (24 + q) (omega arith)
      ∙ rw (lent S.m, lent S.l1, lent S.l2)
    where
      lent : (l : Lane) → at (behind_zeros l) (24 + q) ≡ at l q
      lent l = get_or-append-add (replicate 24 0) l q 0

  reading_is : (q : ℕ) → q < 96 → signed 32 (value_before 32 D q (share_slot q)) ≡ quarter_reading 32 S q
  unfolding quarter_reading
  reading_is q h = ap (λ (x : Share ℕ). signed 32 (value (numbers 32) x)) (lent_share q h)

  -- ---- the mean

  mean_left : after_order D 96 ≡ (run (mean_program 32 (factor_of S)) (before 96)).j
  mean_left =
      Gated.after_is 32 D tidy words gates made 96 (in_day 96 (lit≤ tt))
      ∙ ap (λ (gs : List Gate). (run gs (before 96)).j) (mean_at 32 f ps)

  pub mean_value : value_after 32 D 96 0 ≡ shr_signed 32 16 (mul 32 (value_before 32 D 96 0) (factor_of S))
  unfolding num
  mean_value =
      ap (λ (t : Triple). value (numbers 32) (share t 0)) mean_left
      ∙ mean_opens 32 S.A S.B words.A words.B (lit≤ tt) (factor_of S) (before 96) (lit< tt)
      ∙ ap (λ (t : Triple). shr_signed 32 16 (mul 32 (value (numbers 32) (share t 0)) (factor_of S))) (sym (found 96 (lit≤ tt)))

  mean_kept : (i : ℕ) → Other 0 i → share_after D 96 i ≡ share_before D 96 i
  mean_kept i o =
      ap (λ (t : Triple). share t i) mean_left
      ∙ mean_keeps 32 S.A S.B words.A words.B (lit≤ tt) (factor_of S) (before 96) i o
      ∙ ap (λ (t : Triple). share t i) (sym (found 96 (lit≤ tt)))

  -- ---- registers from 2 on, after every order

  pub other_share : (q i : ℕ) → q ≤ 96 → 1 < i → i < 16 → share_after D q i ≡ record { m = 0; l1 = 0; l2 = 0 }
  other_share q i h a b = go (dec_lt q 96) ∙ kept_before q i h (register i b) i0 i1 ∙ zero_share i (omega arith)
    where
      i0 : eqb i 0 ≡ false
      i0 = ne_eqb i 0 (λ e. omega arith)

      i1 : eqb i 1 ≡ false
      i1 = ne_eqb i 1 (λ e. omega arith)

      go : Dec (q < 96) → share_after D q i ≡ share_before D q i
      go (yes l) = quarter_kept q l i (register i b) i0 i1
      go (no l) =
          let e : 96 ≡ q = omega arith in
          subst (λ (n : ℕ). share_after D n i ≡ share_before D n i) e (mean_kept i (other 0 i b i0))

  -- ---- what a quarter that counts adds, whatever its share

  module _ (q : ℕ) (h : q < 96) (counted : f q ≡ true) where
    abbrev lent_value : ℕ
    lent_value = value (numbers 32) (quarter_share S q)

    pub sum_steps : 0 < length ps → value_after 32 D q 0 ≡ add 32 (value_before 32 D q 0) (curve_value 32 ps 0 lent_value 0)
    sum_steps l =
        sum_left q h counted l
        ∙ ap (λ (x : Share ℕ). add 32 (value_before 32 D q 0) (curve_value 32 ps 0 (value (numbers 32) x) 0)) (lent_share q h)

    pub count_steps : value_after 32 D q 1 ≡ add 32 (value_before 32 D q 1) (above_last 32 (last_count ps) lent_value)
    count_steps =
        count_left q h counted
        ∙ ap (λ (x : Share ℕ). add 32 (value_before 32 D q 1) (above_last 32 (last_count ps) (value (numbers 32) x))) (lent_share q h)

  -- ---- the sums, of a sheet

  module _ (sheet : Sheet S) where
    some_row : 0 < length ps
    some_row = omega (arith, sheet.table.at_least)

    module _ (q : ℕ) (h : q < 96) (counted : f q ≡ true) where
      abbrev x : ℕ
      x = value_before 32 D q (share_slot q)

      ranged : T (in_range 32 (signed 32 x))
      ranged = rw (reading_is q h) (sheet.readings q h ((tested S q).0 counted))

      value_reads : signed 32 (curve_value 32 ps 0 x 0) ≡ curve_alone S.table (quarter_reading 32 S q)
      value_reads = alone_reads S.table (sheet_keeps S sheet) x (sub_lt 32 _ _) ranged 0 ∙ ap (curve_alone S.table) (reading_is q h)

      digit_reads : above_last 32 (last_count ps) x ≡ is_above S.table (quarter_reading 32 S q)
      digit_reads = above_reads S.table (sheet_keeps S sheet) x (sub_lt 32 _ _) ranged ∙ ap (is_above S.table) (reading_is q h)

    -- a quarter more, where what it leaves is no large number
    sum_more : (q : ℕ) → q < 96 → (b : Bool) → f q ≡ b → signed 32 (value_before 32 D q 0) ≡ sum_of S q
        → mag (sum_of S q +ℤ cond b (curve_alone S.table (quarter_reading 32 S q)) (pos 0)) < 2 ^ 31
        → signed 32 (value_after 32 D q 0) ≡ sum_of S q +ℤ cond b (curve_alone S.table (quarter_reading 32 S q)) (pos 0)
    sum_more q h true e so_far small =
        ap (signed 32) (sum_left q h e some_row
        ∙ sum_reads 32 (value_before 32 D q 0) (sub_lt 32 _ _) _ (value_lt 32 ps 0 (x q h e) 0)
        ∙ ap₂ (λ (a b : ℤ). wrap 32 (a +ℤ b)) so_far (value_reads q h e))
        ∙ signed_wrap 32 _ (lit≤ tt) small
    sum_more q h false e so_far small =
        ap (λ (x : Share ℕ). signed 32 (value (numbers 32) x)) (left_out 32 S q h e 0) ∙ so_far ∙ sym (+ℤ_idr (sum_of S q))

    count_more : (q : ℕ) → q < 96 → (b : Bool) → f q ≡ b → value_before 32 D q 1 ≡ above_of S q
        → above_of S q + cond b (is_above S.table (quarter_reading 32 S q)) 0 < 2 ^ 32
        → value_after 32 D q 1 ≡ above_of S q + cond b (is_above S.table (quarter_reading 32 S q)) 0
    unfolding add
    count_more q h true e so_far small =
        count_left q h e ∙ ap₂ (add 32) so_far (digit_reads q h e) ∙ mod-eq_of_lt small
    count_more q h false e so_far small =
        ap (value (numbers 32)) (left_out 32 S q h e 1) ∙ so_far ∙ omega arith

    -- no sum wraps
    pub sum_is : (n : ℕ) → n ≤ 96 → signed 32 (value_before 32 D n 0) ≡ sum_of S n
    unfolding before_order sum_of signed
    sum_is zero h = ap (signed 32) (given_zero 0 (lit< tt))
    sum_is (suc q) h = sum_more q (omega arith) (f q) refl (sum_is q (omega arith)) (sum_small S sheet (suc q) h)

    pub count_is : (n : ℕ) → n ≤ 96 → value_before 32 D n 1 ≡ above_of S n
    unfolding before_order above_of
    count_is zero h = given_zero 1 (lit< tt)
    count_is (suc q) h = count_more q (omega arith) (f q) refl (count_is q (omega arith)) (omega (arith, above_most S (suc q)))

    pub mean_is : signed 32 (value_after 32 D 96 0) ≡ floor (pos (factor_of S) *ℤ sum_of S 96) 65536
    mean_is =
        let y : ℕ = value_before 32 D 96 0 in
        let k : ℕ = factor_of S in
        ap (signed 32) mean_value
        ∙ signed_shr 32 16 (mul 32 y k) (lit≤ tt) (mul_lt 32 y k)
        ∙ ap (λ (z : ℤ). floor z 65536)
        (ap (signed 32) (times_reads 32 y (sub_lt 32 _ _) k
        ∙ ap (wrap 32) (ap (λ (z : ℤ). z *ℤ pos k) (sum_is 96 (lit≤ tt)) ∙ *ℤ_comm (sum_of S 96) (pos k)))
        ∙ signed_wrap 32 (pos k *ℤ sum_of S 96) (lit≤ tt) (product_small S sheet 96 (lit≤ tt)))

    pub mean_count_is : value_after 32 D 96 1 ≡ above_of S 96
    mean_count_is =
        ap (value (numbers 32)) (mean_kept 1 (other 0 1 (lit< tt) refl)) ∙ count_is 96 (lit≤ tt)
