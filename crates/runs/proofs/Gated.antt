-- A stage whose steps are those of lists of gates: its trail is what they leave, one after another, and where one of them is an order's
-- program, its target opens the value that document 01 defines, and a curve leaves R-1's a. Assumes nothing.
use mathlib.Core.Path.{◌≡◌, refl, sym, ap, ap₂, ◌∙◌}
use mathlib.Core.Bool.{Bool, true}
use mathlib.Core.List.{List, [], ◌∷◌, ◌++◌, map}
use Prim.Native.Nat.{ℕ, zero, suc, ◌+◌, ◌≤◌, ◌<◌}
use native.Mathlib.Omega.{arith}
use borrow.Author.Tests.{ltb-true, lt-ltb, ne_eqb}
use lib.Pow.{pow_pos}
use lib.ListN.{get_or, length, replicate, get_or-map}
use Rattle.words.specs.Words.{add, numbers}
use Rattle.shares.specs.Gates.{mask, value}
use Rattle.tables.specs.Table.{Row}
use Rattle.curves.specs.Curve.{last_count, above_last}
use Rattle.gates.specs.Gates.{Gate}
use Rattle.gates.specs.Steps.{Lane, at, Step, end, origin, past}
use Rattle.gates.specs.Meaning.{meaning, order_steps, job_steps}
use Rattle.gates.specs.Walk.{whole}
use Rattle.gates.specs.Hosts.{Triple, share, act}
use Rattle.gates.specs.Costs.{plus, step_cost, cost}
use Rattle.gates.proofs.Needs.{Further, past_used}
use Rattle.programs.specs.declared.Order.{Order}
use Rattle.programs.specs.Programs.{t_slot, sum_program}
use Rattle.programs.specs.Orders.{curve_program, kinds, program}
use Rattle.programs.specs.Opens.{order_value}
use Rattle.programs.specs.Costs.{program_cost}
use Rattle.programs.proofs.Gates.{Fits}
use Rattle.programs.proofs.Points.{register, Point, after, afters, num, l1_of, l2_of}
use Rattle.programs.proofs.Opens.{new_mask, curve_leaves, curve_mask, Sound, kind_opens}
use Rattle.jobs.proofs.Accepted.{Good, exact_shift, curve_ruled}
use Rattle.calls.specs.Scripts.{Orderly}
use Rattle.calls.specs.Calls.{fresh}
use Rattle.runs.specs.Runs.{Stage}
use Rattle.runs.specs.Orders.{Words, first, trail, after_order, before_order, value_before, mask_before, value_after, mask_behind}
use Rattle.runs.specs.Orders.{first_counts}
use Rattle.runs.proofs.Kept.{j₀_lengths}
use Rattle.runs.proofs.Chain.{ended, points, job_trail, point_before, point_after, point_next}

pub fits_append : (w : ℕ) (l k : Lane) → Fits w l → Fits w k → Fits w (l ++ k)
fits_append w [] k f g i = g i
fits_append w (x ∷ l) k f g zero = f zero
fits_append w (x ∷ l) k f g (suc i) = fits_append w l k (λ n. f (suc n)) g i

pub fits_zeros : (w n : ℕ) → Fits w (replicate n 0)
fits_zeros w zero i = pow_pos w
fits_zeros w (suc n) zero = pow_pos w
fits_zeros w (suc n) (suc i) = fits_zeros w n i

module _ (w : ℕ) (S : Stage) (tidy : Orderly S.script) (words : Words w S) where
  abbrev pub Pt : Type 0
  Pt = Point w S.A S.B words.A words.B

  abbrev run : List Gate → Pt → Pt
  run = afters w S.A S.B words.A words.B

  pub fresh_fits : (l : Lane) → Fits w l → Fits w (fresh l)
  unfolding fresh
  fresh_fits l h = fits_append w l (replicate 8 0) h (fits_zeros w 8)

  -- the start of the walk
  abbrev pub G₀ : Pt
  G₀ =
      record {
        c = origin;
        j = first S;
        fits = record { m = fresh_fits S.rm words.rm; l1 = fresh_fits S.r1 words.r1; l2 = fresh_fits S.r2 words.r2 };
        slots = λ i l. let n = j₀_lengths S in
            let k : i < 24 = ltb-true i 24 l in
            let h : i < S.script.slots + 8 = omega (arith, k, tidy.room) in
            record { m = rw n.m h; l1 = rw n.l1 h; l2 = rw n.l2 h };
      }

  -- the cursor

  afters_used : (gs : List Gate) (G : Pt) → Further G.c (program_cost w gs) (run gs G).c
  unfolding afters after program_cost order_steps cost step_cost plus
  afters_used [] G = omega arith
  afters_used (g ∷ gs) G =
      let p : Further G.c (step_cost (meaning w g)) (past (meaning w g) G.c) = past_used (meaning w g) G.c in
      let q : Further (past (meaning w g) G.c) (cost (order_steps w gs []))
      (run gs (after w S.A S.B words.A words.B g G)).c = afters_used gs (after w S.A S.B words.A words.B g G) in
      record { a = omega arith; b = omega arith; deals = omega arith }

  before_used : (os : List (List Gate)) (G : Pt) (q : ℕ)
      → Further G.c (first_counts w q os) (point_before w S.A S.B words.A words.B os G q).c
  unfolding first_counts point_before past plus
  before_used [] G zero = omega arith
  before_used [] G (suc q) = omega arith
  before_used (o ∷ os) G zero = omega arith
  before_used (o ∷ os) G (suc q) =
      let p : Further G.c (program_cost w o) (run o G).c = afters_used o G in
      let r : Further (past end (run o G).c) (first_counts w q os)
      (point_before w S.A S.B words.A words.B os (ended w S.A S.B words.A words.B (run o G)) q).c =
      before_used os (ended w S.A S.B words.A words.B (run o G)) q in
      record { a = omega arith; b = omega arith; deals = omega arith }

  module _ (gates : List (List Gate)) (made : S.script.steps ≡ job_steps w gates) where
    abbrev pub before : ℕ → Pt
    before q = point_before w S.A S.B words.A words.B gates G₀ q

    trail_is : trail S ≡ map (λ (p : Pt). p.j) (points w S.A S.B words.A words.B gates G₀)
    unfolding trail
    trail_is =
        ap (λ (ss : List Step). (whole (act S.A S.B) ss origin (first S) []).trail) made
        ∙ job_trail w S.A S.B words.A words.B gates G₀ []

    pub after_is : (q : ℕ) → q < length gates → after_order S q ≡ (run (get_or gates q []) (before q)).j
    unfolding after_order
    after_is q h =
        ap (λ (t : List Triple). get_or t q (first S)) trail_is
        ∙ get_or-map (λ (p : Pt). p.j) (points w S.A S.B words.A words.B gates G₀) q G₀
        ∙ ap (λ (p : Pt). p.j) (point_after w S.A S.B words.A words.B gates G₀ G₀ q h)

    pub before_is : (q : ℕ) → q < length gates → before_order S q ≡ (before q).j
    unfolding before_order after_order point_before
    before_is zero h = zero_is gates
      where
        zero_is : (os : List (List Gate)) → first S ≡ (point_before w S.A S.B words.A words.B os G₀ 0).j
        zero_is [] = refl
        zero_is (o ∷ os) = refl
    before_is (suc q) h =
        ap (λ (t : List Triple). get_or t q (first S)) trail_is
        ∙ get_or-map (λ (p : Pt). p.j) (points w S.A S.B words.A words.B gates G₀) q G₀
        ∙ sym (point_next w S.A S.B words.A words.B gates G₀ G₀ q (omega arith))

    -- ---- where list q is an order's program

    module _ (wide : 12 < w) (q : ℕ) (hq : q < length gates) (ps : List Row) (o : Order) (is : get_or gates q [] ≡ program w ps o)
        (ruled : Bool) (good : Good w ruled o) (some_row : ruled ≡ true → 0 < length ps) where
      low : 2 ≤ w
      low = omega (arith, wide)

      sound : Sound w S.A S.B words.A words.B low ps o.target o.source o.fourth good.target good.source
          (before q) o.kind
      sound =
          record {
            shift = λ e. let h = exact_shift w ruled o good e in (h.0, omega (arith, h.1));
            curve = λ e. (wide, some_row (curve_ruled w ruled o good e).1);
          }

      left_is : after_order S q ≡ (run (program w ps o) (before q)).j
      left_is = after_is q hq ∙ ap (λ (gs : List Gate). (run gs (before q)).j) is

      -- the mask of the refresh, where the order is a curve in one-bit mode
      mask_is : new_mask w S.A S.B words.A words.B low (run (sum_program w o.source ps) (before q))
          ≡ mask_behind w S.A S.B (first_counts w q gates) (sum_program w o.source ps)
      unfolding new_mask
      mask_is =
          let p = before_used gates G₀ q in
          let r = afters_used (sum_program w o.source ps) (before q) in
          ap₂ (add w) (ap (at S.A) (omega (arith, p.a, r.a))) (ap (at S.B) (omega (arith, p.b, r.b)))

      -- "each order opens to the value that document 01 defines for it"
      pub program_leaves : value_after w S q o.target
          ≡ order_value w ps o (value_before w S q o.source) (value_before w S q o.fourth)
          (mask_before w S q o.source) (mask_behind w S.A S.B (first_counts w q gates) (sum_program w o.source ps))
      unfolding order_value program num l1_of l2_of curve_mask
      program_leaves =
          ap (λ (t : Triple). value (numbers w) (share t o.target)) left_is
          ∙ kind_opens w S.A S.B words.A words.B low ps o.target o.source o.fourth good.target good.source
          (before q) o.kind good.kind sound
          ∙ ap₂ (λ (t : Triple) (R : ℕ). order_value w ps o (value (numbers w) (share t o.source))
          (value (numbers w) (share t o.fourth)) (mask (numbers w) (share t o.source)) R)
          (sym (before_is q hq)) mask_is

      -- R-1's a, which a curve leaves in slot t
      pub curve_leaves_a : o.kind ≡ 10
          → value_after w S q t_slot ≡ above_last w (last_count ps) (value_before w S q o.source)
      unfolding program kinds num
      curve_leaves_a k =
          let curve : program w ps o ≡ curve_program w o.source o.target ps o.fourth = rw k in
          ap (λ (t : Triple). value (numbers w) (share t t_slot)) (left_is ∙ ap (λ (gs : List Gate). (run gs (before q)).j) curve)
          ∙ curve_leaves w S.A S.B words.A words.B low o.source o.target o.fourth ps (before q)
          (register o.source good.source) (lt-ltb o.target 24 (omega (arith, good.target)))
          (ne_eqb 20 o.target (λ e. omega (arith, good.target)))
          ∙ ap (λ (t : Triple). above_last w (last_count ps) (value (numbers w) (share t o.source))) (sym (before_is q hq))
