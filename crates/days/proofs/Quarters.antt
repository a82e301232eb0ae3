-- A day's lists of gates: quarter q's program is list q, empty where it is left out, the mean's is list 96, and there are 97; they go by
-- which of the 96 quarters count alone. Assumes nothing.
use mathlib.Core.Path.{◌≡◌, refl, ap, ap₂, ◌∙◌}
use mathlib.Core.Bool.{Bool, true, false, cond}
use mathlib.Core.List.{List, [], ◌∷◌, ◌++◌}
use Prim.Native.Nat.{ℕ, zero, suc, ◌+◌, ◌<◌}
use native.Mathlib.Omega.{arith}
use borrow.Author.Tests.{le-leb}
use lib.ListN.{get_or, length, length-append, get_or-append}
use lib.Seq.{get_or_at}
use Rattle.gates.specs.Gates.{Gate, Add}
use Rattle.gates.specs.Meaning.{job_steps}
use Rattle.tables.specs.Table.{Row, rows}
use Rattle.programs.specs.Programs.{t_slot, acc_slot}
use Rattle.programs.specs.Orders.{curve_program}
use Rattle.calendars.proofs.Counting.{number_le, number_alike}
use Rattle.calendars.specs.Ranges.{number}
use Rattle.calendars.specs.Calendar.{factor}
use Rattle.calendars.specs.Quarters.{tabled}
use Rattle.days.specs.Day.{share_slot, quarter_program, mean_program, quarters, day_factor, day_gates, day_steps, Hours, counting, day_script}

-- a quarter's registers are written behind its curve
pub quarter_ends : (w q : ℕ) (ps : List Row)
    → quarter_program w q ps ≡ curve_program w (share_slot q) acc_slot ps 0 ++ (Add 0 0 acc_slot ∷ Add 1 1 t_slot ∷ [])
unfolding quarter_program
quarter_ends w q ps = refl

-- ---- n quarters

module _ (w : ℕ) (f : ℕ → Bool) (ps : List Row) where
  -- the gates of quarter q, none where it is left out
  abbrev pub quarter_gates : ℕ → List Gate
  quarter_gates q = cond (f q) (quarter_program w q ps) []

  pub quarters_count : (q n : ℕ) → length (quarters w f ps q n) ≡ n
  unfolding quarters
  quarters_count q zero = refl
  quarters_count q (suc n) = ap suc (quarters_count (suc q) n)

  pub quarters_at : (q n i : ℕ) → i < n → get_or (quarters w f ps q n) i [] ≡ quarter_gates (q + i)
  unfolding quarters
  quarters_at q zero i h = absurd (omega arith)
  quarters_at q (suc n) zero h =
      let e : q ≡ q + 0 = omega arith in
      ap quarter_gates e
  quarters_at q (suc n) (suc i) h =
      let e : suc q + i ≡ q + suc i = omega arith in
      quarters_at (suc q) n i (omega arith) ∙ ap quarter_gates e

  -- ---- the day

  pub day_gates_count : length (day_gates w f ps) ≡ 97
  unfolding day_gates
  day_gates_count =
      length-append (quarters w f ps 0 96) (mean_program w (day_factor f) ∷ []) ∙ ap (λ (n : ℕ). n + 1) (quarters_count 0 96)

  pub quarter_at : (q : ℕ) → q < 96 → get_or (day_gates w f ps) q [] ≡ quarter_gates q
  unfolding day_gates
  quarter_at q h =
      let l : q < length (quarters w f ps 0 96) = rw (quarters_count 0 96) h in
      let e : 0 + q ≡ q = omega arith in
      get_or-append (quarters w f ps 0 96) (mean_program w (day_factor f) ∷ []) [] q l
      ∙ quarters_at 0 96 q h ∙ ap quarter_gates e

  -- a quarter that counts, and one that is left out
  pub counted_at : (q : ℕ) → q < 96 → f q ≡ true → get_or (day_gates w f ps) q [] ≡ quarter_program w q ps
  counted_at q h e = quarter_at q h ∙ ap (λ (b : Bool). cond b (quarter_program w q ps) []) e

  pub left_out_at : (q : ℕ) → q < 96 → f q ≡ false → get_or (day_gates w f ps) q [] ≡ []
  left_out_at q h e = quarter_at q h ∙ ap (λ (b : Bool). cond b (quarter_program w q ps) []) e

  pub mean_at : get_or (day_gates w f ps) 96 [] ≡ mean_program w (day_factor f)
  unfolding day_gates
  mean_at = get_or_at (quarters w f ps 0 96) (mean_program w (day_factor f)) [] [] 96 (quarters_count 0 96)

-- the steps of a day's script are those of its lists of gates
pub day_made : (w : ℕ) (table : List ℕ) (n : ℕ) (H : Hours)
    → (day_script w table n H).steps ≡ job_steps w (day_gates w (counting H) (rows table))
unfolding day_steps
day_made w table n H = refl

-- the factor that the code's table has for n counted quarters
pub factor_tabled : (f : ℕ → Bool) (n : ℕ) → n ≡ number f 0 96 → tabled n ≡ day_factor f
unfolding tabled
factor_tabled f n e = rw (e, le-leb (number f 0 96) 96 (number_le f 0 96))

-- ---- the same quarters count

module _ (w : ℕ) (f g : ℕ → Bool) (ps : List Row) where
  quarters_alike : (q n : ℕ) → ((k : ℕ) → k < n → f (q + k) ≡ g (q + k)) → quarters w f ps q n ≡ quarters w g ps q n
  unfolding quarters
  quarters_alike q zero h = refl
  quarters_alike q (suc n) h =
      let a : q + 0 ≡ q = omega arith in
      ap₂ (λ (b : Bool) (gs : List (List Gate)). cond b (quarter_program w q ps) [] ∷ gs) (rw a at (h 0 (omega arith)))
      (quarters_alike (suc q) n (λ k l. let b : q + suc k ≡ suc q + k = omega arith in rw b at (h (suc k) (omega arith))))

  pub day_alike : ((q : ℕ) → q < 96 → f q ≡ g q) → day_gates w f ps ≡ day_gates w g ps
  unfolding day_gates
  day_alike h =
      let h' : (k : ℕ) → k < 96 → f (0 + k) ≡ g (0 + k) = λ k l. let a : 0 + k ≡ k = omega arith in rw a (h k l) in
      ap₂ (λ (gs : List (List Gate)) (n : ℕ). gs ++ (mean_program w (factor n) ∷ [])) (quarters_alike 0 96 h')
      (number_alike f g 0 96 h')
