-- The words that the hosts of a day hold: a quarter writes registers with its last two gates, which speak no word, and the mean with its last
-- gate, so a state's registers are those before its order. Assumes nothing.
use mathlib.Core.Path.{◌≡◌, refl}
use mathlib.Core.Bool.{Bool, true, false, cond}
use mathlib.Core.Logic.{inr}
use mathlib.Core.List.{List, [], ◌∷◌}
use Prim.Native.Nat.{ℕ, ◌+◌, ◌<◌}
use native.Mathlib.Omega.{arith}
use native.Mathlib.Decide.{dec_lt}
use lib.ListN.{get_or, length}
use Rattle.gates.specs.Gates.{Gate, Add}
use Rattle.gates.specs.Steps.{Step}
use Rattle.gates.specs.Meaning.{meaning, order_steps}
use Rattle.tables.specs.Table.{Row, rows}
use Rattle.programs.specs.Programs.{t_slot, acc_slot}
use Rattle.programs.specs.Orders.{curve_program}
use Rattle.programs.proofs.Points.{target, register}
use Rattle.runs.specs.Orders.{WrittenBehind}
use Rattle.runs.proofs.Written.{spared, in_front, front_exact, front_curve}
use Rattle.runs.proofs.Unwritten.{front_behind, then_behind, behind_gates}
use Rattle.runs.proofs.Standing.{stands1, stands2}
use Rattle.days.specs.Day.{share_slot, quarter_program, mean_program, day_factor, day_gates, day_steps, counting}
use Rattle.days.proofs.Quarters.{day_gates_count, quarter_at, left_out_at, mean_at}
use Rattle.day_demands.specs.Settings.{day_staged}
use Rattle.day_demands.specs.Holdings.{DayHoldings}
use Rattle.day_demands.proofs.Values.{count_reads}
use Rattle.day_demands.proofs.Unplaced.{unplaced}
use Rattle.day_demands.proofs.Sums.{tested, left_out, mean_value, other_share, sum_steps, count_steps, sum_is, count_is}

module _ (w i : ℕ) (h : i < 16) where
  -- behind the two additions stands no product and no refresh
  quarter_behind : (q : ℕ) (ps : List Row) (ss : List Step) → WrittenBehind i 0 (order_steps w (quarter_program w q ps) ss)
  unfolding quarter_program order_steps meaning
  quarter_behind q ps ss =
      let o = register i h in
      let curve : List Gate = curve_program w (share_slot q) acc_slot ps 0 in
      then_behind w i curve (Add 0 0 acc_slot ∷ Add 1 1 t_slot ∷ []) ss
      (spared i acc_slot curve o.i22 (front_curve i o w (share_slot q) acc_slot ps 0)) (inr tt, (inr tt, tt))

  mean_behind : (by : ℕ) (ss : List Step) → WrittenBehind i 0 (order_steps w (mean_program w by) ss)
  unfolding mean_program target
  mean_behind k ss =
      let o = register i h in front_behind w i 0 (mean_program w k) ss (in_front o.i22 (front_exact i o w 16 acc_slot 0))

  -- nor where there are no gates
  order_behind : (b : Bool) (q : ℕ) (ps : List Row) (ss : List Step)
      → WrittenBehind i 0 (order_steps w (cond b (quarter_program w q ps) []) ss)
  unfolding order_steps
  order_behind true q ps ss = quarter_behind q ps ss
  order_behind false q ps ss = tt

  day_behind : (table : List ℕ) (f : ℕ → Bool) (q : ℕ) → WrittenBehind i q (day_steps w table f)
  unfolding day_steps
  day_behind table f q = behind_gates w i q gates (λ k ss. go (dec_lt q 96) k ss)
    where
      gates : List (List Gate)
      gates = day_gates w f (rows table)

      go : Dec (q < 96) → q < length gates → (ss : List Step) → WrittenBehind i 0 (order_steps w (get_or gates q []) ss)
      go (yes l) k ss = rw (quarter_at w f (rows table) q l) (order_behind (f q) q (rows table) ss)
      go (no l) k ss =
          let e : q ≡ 96 = omega (arith, day_gates_count w f (rows table), k) in
          rw (e, mean_at w f (rows table)) (mean_behind (day_factor f) ss)

-- a quarter that does not count fails the test
untested : (b : Bool) → (b ≡ true → ⊥) → b ≡ false
untested true f = absurd (f refl)
untested false f = refl

pub day_holdings : DayHoldings
day_holdings =
    record {
      host1 = λ w S cs z buf s t said two r i h. stands1 (day_staged w S) r i (day_behind w i h S.table (counting S.hours) s.order);
      host2 = λ w S cs z buf one s t said r i h. stands2 (day_staged w S) r i (day_behind w i h S.table (counting S.hours) s.order);
      sum_held = λ S sheet words q h. sum_is S words sheet q h;
      count_held = λ S sheet words q h. count_reads S q h (count_is S words sheet q h);
      others = λ S words q i h a b. other_share S words q i h a b;
      steps_sum = λ S words keeps q h c. sum_steps S words q h ((tested S q).1 c) (omega (arith, keeps.at_least));
      steps_count = λ S words q h c. count_steps S words q h ((tested S q).1 c);
      steps_mean = λ S words. mean_value S words;
      left_out = λ w S q h n.
          let e = untested _ (λ t. n ((tested S q).0 t)) in
          (left_out_at w (counting S.hours) (rows S.table) q h e, left_out w S q h e);
      no_place = λ S q x h n a.
          let e = untested _ (λ t. n ((tested S q).0 t)) in
          let z : 0 + q ≡ q = omega arith in
          unplaced 0 q x (day_gates 32 (counting S.hours) (rows S.table))
          (left_out_at 32 (counting S.hours) (rows S.table) q h e) (rw z a);
    }
