-- A script that is not refused has a run that finishes every order, with its preparation and both startings in front. Assumes nothing.
use mathlib.Core.Path.{◌≡◌, refl, sym}
use mathlib.Core.Logic.{◌↔◌, inl, inr}
use mathlib.Core.List.{List, []}
use Prim.Native.Nat.{ℕ, ◌<◌}
use native.Mathlib.Omega.{arith}
use Rattle.gates.specs.Steps.{origin}
use Rattle.gates.specs.Hosts.{Pair}
use Rattle.calls.specs.Scripts.{script_cost, orders_in}
use Rattle.calls.specs.Places.{seek}
use Rattle.calls.specs.Calls.{State, walked_to}
use Rattle.runs.specs.Runs.{Stage, staged, Spoken, ready, going, World, world, Call, lent1, lent2, preparation, held}
use Rattle.runs.specs.Runs.{Completes, prepares, starts1, starts2, hears1, hears2, given_out, begin, Finished, Accepted}
use Rattle.demands.specs.Conditions.{places_from, Terms, Single, PreparationIs, of_itself, of_lists, of_buffer, prepares_well}
use Rattle.demands.specs.Numbers.{Told}
use Rattle.demands.specs.Demand1.{job_terms, gate_terms}
use Rattle.runs.specs.Strict.{Calls, none, completes}
use Rattle.demands.specs.Whole.{WholeRun, first_world, Whole}
use Rattle.runs.proofs.Kept.{kept}
use Rattle.runs.proofs.Progress.{lent1_zero, lent2_zero, start_zero}
use Rattle.demands.proofs.Numbers.{preparation_is, numbers}
use Rattle.demands.proofs.Demand1.{demand1_at, demand1}
use Rattle.runs.proofs.Strict.{wide_on, joined, buffer_kept, carried_with}

module _ (S : Stage) (buf : List ℕ) (r : Pair) where
  -- the script's number, whatever its index
  abbrev own : Terms
  own =
      record {
        own = λ n i. S.script.fault.0 ≡ n;
        needs = script_cost S.script;
        places = places_from 0 0 S.script.steps;
        orders = orders_in S.script;
        walked = λ p. walked_to (seek p.0 p.1 S.script.steps origin);
      }

  abbrev own_told : Told S.script own
  own_told = record { none = λ e. e; some = λ n e. e; needs = refl; places = refl; orders = refl }

  abbrev Is : ℕ → ℕ → Type 0
  Is = PreparationIs own S.A S.B buf

  accepted_of : {n i : ℕ} → Is n i → n ≡ 0 → Accepted S buf
  accepted_of (of_itself q) e = absurd (omega arith)
  accepted_of (of_lists z h) e = absurd (omega arith)
  accepted_of (of_buffer z h k l) e = absurd (omega arith)
  accepted_of (prepares_well z h k l) e = record { script = z; a = h; b = k; deals = l }

  number_of : {n i : ℕ} → Is n i → Accepted S buf → n ≡ 0
  number_of (of_itself q) acc = absurd (omega (arith, acc.script, q))
  number_of (of_lists z (inl h)) acc = absurd (omega (arith, acc.a))
  number_of (of_lists z (inr h)) acc = absurd (omega (arith, acc.b))
  number_of (of_buffer z h k l) acc = absurd (omega (arith, acc.deals))
  number_of (prepares_well z h k l) acc = refl

  pub accepted : (preparation S buf r).number ≡ 0 → Accepted S buf
  accepted e = accepted_of (preparation_is S.script own own_told S.A S.B buf r) e

  pub not_refused : Accepted S buf → (preparation S buf r).number ≡ 0
  not_refused acc = number_of (preparation_is S.script own own_told S.A S.B buf r) acc

-- ---- what every call keeps once the three hosts are at work

data AtWork (m : Pair) (b : List ℕ) : World → Type 0 where
  at_work : {t t1 t2 : List Pair} {s1 s2 : State} {said1 said2 : List Spoken}
      → AtWork m b (world (ready m t) b (going s1 t1 said1) (going s2 t2 said2))

module _ (S : Stage) (E : List ℕ) where
  works_on : (m : Pair) (b : List ℕ) (c : Call) (v v' : World) → Completes S c v v' → AtWork m b v → AtWork m b v'
  works_on m b _ _ _ (prepares {r = r} {buf = buf} {one = one} {two = two} _) h = elim h [ ]
  works_on m b _ _ _ (starts1 {z = z} {buf = buf} {s = s} {two = two} D _) h = elim h [ ]
  works_on m b _ _ _ (starts2 {r = r} {t₀ = t₀} {buf = buf} {s = s} {one = one} D _ _) h = elim h [ ]
  works_on m b _ _ _ (hears1 D x i e) at_work = at_work
  works_on m b _ _ _ (hears2 D d x i e) at_work = at_work

  done_whole : (m : Pair) (b : List ℕ) (v v' : World) (cs : List Call) (h1 h2 : List Spoken) → AtWork m b v' → Calls S E v [] [] cs v' h1 h2
      → ((q : ℕ) → q < orders_in S.script → Finished v' q) → (one : State) × (two : State) × WholeRun S E v m b one two
  done_whole m b v _ cs h1 h2 (at_work {t = t} {t1 = t1} {t2 = t2} {s1 = s1} {s2 = s2} {said1 = said1} {said2 = said2}) r f = (
    s1,
    s2,
    record {
      calls = cs;
      trail0 = t;
      trail1 = t1;
      trail2 = t2;
      said1 = said1;
      said2 = said2;
      heard1 = h1;
      heard2 = h2;
      run = r;
      finished = f;
    },
  )

  module _ (buf : List ℕ) (one two : State) (p1 : held S one ≡ (S.rm, S.r1)) (p2 : held S two ≡ (S.rm, S.r2))
      (e : (preparation S buf (S.r1, S.r2)).number ≡ 0) where
    abbrev m : Pair
    m = (preparation S buf (S.r1, S.r2)).masks

    abbrev b : List ℕ
    b = (preparation S buf (S.r1, S.r2)).buffer

    whole_run : (s1 : State) × (s2 : State) × WholeRun S E (first_world S buf one two) m b s1 s2
    whole_run =
        let acc : Accepted S buf = accepted S buf (S.r1, S.r2) e in
        let b0 = given_out p1 p2 in
        let c1 = completes none (prepares e) tt in
        let acc' : Accepted S b = buffer_kept S (prepares e) (kept S (wide_on S (begin b0) c1)) acc in
        let c2 = completes c1 (starts1 E (start_zero (lent1 S E) (held S one) (lent1_zero S b acc' E))) refl in
        let c3 = completes c2 (starts2 b refl (start_zero (lent2 S b) (held S two) (lent2_zero S b acc' b acc'.deals))) refl in
        let d = carried_with S E (AtWork m b) (works_on m b) (record {
          from = first_world S buf one two;
          begins = b0;
          calls = c3;
        }) acc' at_work in
        done_whole m b _ d.0.ends_in _ d.0.heard1 d.0.heard2 d.1 (joined S c3 d.0.calls) d.0.finished

-- ---- where the script is what the terms say

module _ (S : Stage) (T : Terms) (told : Told S.script T) (single : Single T.own) (buf : List ℕ) where
  abbrev Told_by : ℕ → ℕ → Type 0
  Told_by = PreparationIs T S.A S.B buf

  stage_prepared : Told_by (preparation S buf (S.r1, S.r2)).number (preparation S buf (S.r1, S.r2)).index
  stage_prepared = numbers.preparing S.script T told S.A S.B buf (S.r1, S.r2)

  none_index : {n i : ℕ} → Told_by n i → n ≡ 0 → Told_by 0 0
  none_index (of_itself q) e = absurd (omega arith)
  none_index (of_lists z h) e = absurd (omega arith)
  none_index (of_buffer z h k l) e = absurd (omega arith)
  none_index (prepares_well z h k l) e = prepares_well z h k l

  pub accepted_told : Told_by 0 0 ↔ Accepted S buf
  accepted_told = (
    λ p. accepted S buf (S.r1, S.r2) (sym (numbers.one_preparation T single S.A S.B buf _ _ _ _ p stage_prepared).0),
    λ acc. none_index stage_prepared (not_refused S buf (S.r1, S.r2) acc),
  )

pub whole : Whole
whole =
    record {
      accepted = λ S buf r e. accepted S buf r e;
      prepares = λ S buf r acc. not_refused S buf r acc;
      accepted_job = λ S buf.
          accepted_told (staged 32 S) (job_terms S.job S.table) (demand1.told S.job S.table) (demand1.single S.job S.table) buf;
      accepted_at = λ w S buf.
          accepted_told (staged w S) (gate_terms w S.job S.table) ((demand1_at w).told S.job S.table)
          ((demand1_at w).single S.job S.table) buf;
      whole_run = λ S E buf one two p1 p2 e. whole_run S E buf one two p1 p2 e;
    }
