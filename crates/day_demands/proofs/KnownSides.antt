-- R-4 in a day: the sides that are known. Assumes nothing.
use mathlib.Core.Path.{◌≡◌, refl, sym, ap, ◌∙◌}
use mathlib.Core.Bool.{Bool, true, false, cond}
use mathlib.Core.List.{List, [], ◌∷◌, ◌++◌}
use Prim.Native.Nat.{ℕ, zero, suc}
use lib.ListN.{take}
use Rattle.gates.specs.Gates.{Gate}
use Rattle.gates.specs.Steps.{Lane, at, origin}
use Rattle.gates.specs.Meaning.{meaning}
use Rattle.gates.specs.Known.{saves}
use Rattle.tables.specs.Table.{Row, rows}
use Rattle.programs.proofs.Known.{Told, none, plain, told_append, told_exact, told_curve, AllTold, job_known}
use Rattle.calls.specs.Places.{seek}
use Rattle.calls.specs.Scripts.{Script}
use Rattle.calls.specs.Calls.{State}
use Rattle.runs.specs.Runs.{Spoken, going, waiting, World, world, Call, Run}
use Rattle.runs.specs.KnownSides.{AtKnown, Sides}
use Rattle.runs.proofs.KnownSides.{sides}
use Rattle.days.specs.Day.{share_slot, quarter_program, mean_program, quarters, day_factor, day_gates, day_steps, counting, day_script}
use Rattle.days.specs.DayCalls.{own_state}
use Rattle.day_demands.specs.Settings.{DaySetting, day_staged}
use Rattle.day_demands.specs.Runs.{DayDealer, DayHost, running, day_world, DayRun, Same}
use Rattle.day_demands.specs.KnownSides.{DayKnownSides}
use Rattle.day_demands.proofs.Returned.{day_returned}

module _ (w : ℕ) where
  told_quarter : (q : ℕ) (ps : List Row) → Told w (quarter_program w q ps)
  unfolding quarter_program meaning saves
  told_quarter q ps = told_append (told_curve w (share_slot q) _ ps 0) (plain refl (plain refl none))

  told_mean : (by : ℕ) → Told w (mean_program w by)
  unfolding mean_program meaning saves
  told_mean k = plain refl (told_exact w 16 _ 0)

  -- n quarters, those left out with no gates, and orders behind them
  told_order : (b : Bool) (q : ℕ) (ps : List Row) → Told w (cond b (quarter_program w q ps) [])
  told_order true q ps = told_quarter q ps
  told_order false q ps = none

  told_quarters : (f : ℕ → Bool) (ps : List Row) (q n : ℕ) (os : List (List Gate)) → AllTold w os
      → AllTold w (quarters w f ps q n ++ os)
  unfolding quarters
  told_quarters f ps q zero os h = h
  told_quarters f ps q (suc n) os h = (told_order (f q) q ps, told_quarters f ps (suc q) n os h)

  day_sides : (S : DaySetting) → Sides (day_staged w S)
  unfolding day_steps day_gates
  day_sides S =
      let f = counting S.hours in
      sides (day_staged w S)
      (job_known w S.A S.B (day_gates w f (rows S.table))
      (told_quarters f (rows S.table) 0 96 (mean_program w (day_factor f) ∷ []) (told_mean (day_factor f), tt)))

-- ---- the day's own calls

taken : (n : ℕ) (l : Lane) (a : ℕ) → at l a ≡ 0 → at (take n l) a ≡ 0
taken zero l a e = refl
taken (suc n) [] a e = refl
taken (suc n) (x ∷ l) zero e = e
taken (suc n) (x ∷ l) (suc a) e = taken n l a e

-- the state with the shares behind it stands at the same place
unfoldable same_place : (σ : Script) (s s' : State) → s ≡ own_state s' → AtKnown σ s → AtKnown σ s'
same_place σ s s' e k =
    record {
      target = k.target;
      ops = k.ops;
      a = k.a;
      b = k.b;
      later = k.later;
      cursor = k.cursor;
      here = ap (λ (x : State). seek x.order x.turn σ.steps origin) (sym e) ∙ k.here;
    }

module _ (w : ℕ) (S : DaySetting) (cs : List Call) (z : DayDealer) (buf : List ℕ) (s : State) (said : List Spoken) where
  abbrev σ : Script
  σ = day_script w S.table 192 S.hours

  own1 : (two : DayHost) → DayRun w S cs (day_world z buf (running s said) two) → (k : AtKnown σ s) → at s.mask k.a ≡ 0
  unfolding same_place
  own1 two r k = let q = day_returned.is_run w S cs _ r in go q.0 q.1 q.2
    where
      go : (v : World) → Run (day_staged w S) cs v → Same (day_world z buf (running s said) two) v → at s.mask k.a ≡ 0
      go (world z' buf' (waiting s') two') R e = absurd e.2
      go (world z' buf' (going s' t said') two') R e =
          let q : s ≡ own_state s' = e.2.0 in
          ap (λ (x : State). at x.mask k.a) q
          ∙ taken 24 s'.mask k.a ((day_sides w S).host1 cs z' buf' s' t said' two' R (same_place σ s s' q k))

  own2 : (one : DayHost) → DayRun w S cs (day_world z buf one (running s said)) → (k : AtKnown σ s) → at s.mask k.a ≡ 0
  unfolding same_place
  own2 one r k = let q = day_returned.is_run w S cs _ r in go q.0 q.1 q.2
    where
      go : (v : World) → Run (day_staged w S) cs v → Same (day_world z buf one (running s said)) v → at s.mask k.a ≡ 0
      go (world z' buf' one' (waiting s')) R e = absurd e.3
      go (world z' buf' one' (going s' t said')) R e =
          let q : s ≡ own_state s' = e.3.0 in
          ap (λ (x : State). at x.mask k.a) q
          ∙ taken 24 s'.mask k.a ((day_sides w S).host2 cs z' buf' one' s' t said' R (same_place σ s s' q k))

pub day_known_sides : DayKnownSides
day_known_sides =
    record {
      day = λ w S. day_sides w S;
      host1 = λ w S cs z buf s said two r k. own1 w S cs z buf s said two r k;
      host2 = λ w S cs z buf one s said r k. own2 w S cs z buf s said one r k;
    }
