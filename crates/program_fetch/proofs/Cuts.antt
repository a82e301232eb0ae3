-- Parts of a list of gates: where a part stands, and what is left from a gate of it on. Then a curve's program: its rows
-- and the parts of a row. Assumes nothing.
use Rattle.std.proofs.Common.{◌≡◌, ℕ, zero, suc, ◌+◌, ◌-◌, ◌*◌, ◌<◌, ◌≤◌, List, [], ◌∷◌, ◌++◌, length, get_or, drop, ℤ, pos, ◌-ℤ◌, sym, refl, ap, ◌∙◌, subst, ap₂, append_assoc, suc-mul, arith, length-append}
use lib.Seq.{drop-append_seam, drop-append-le, drop-append-add}
use Rattle.words.specs.Signed.{wrap}
use Rattle.gates.specs.Gates.{Gate}
use Rattle.tables.specs.Table.{Row, row_at, slopes}
use Rattle.curves.specs.Curve.{slope_after, coefficient}
use Rattle.programs.specs.Programs.{y_slot, res_slot, relu_program, row_program, rows_program, sum_program}
use Rattle.programs.specs.Sizes.{Size, relu_size, row_gates}
use Rattle.programs.proofs.CurveGates.{sum_gates}
use Rattle.programs.proofs.Sizes.{relu_sized, row_sized}
use Rattle.program_fetch.specs.Pieces.{change, first_gates, row_start, row_end}

-- the part stands in the list at index n
pub record Cut (gs : List Gate) (n : ℕ) (part : List Gate) : Type 0 where
  pub before : List Gate
  pub after : List Gate
  pub long : length before ≡ n
  pub is : gs ≡ before ++ (part ++ after)

pub at_first : (gs hs : List Gate) → Cut (gs ++ hs) 0 gs
at_first gs hs = record { before = []; after = hs; long = refl; is = refl }

pub behind : (fs gs : List Gate) (n : ℕ) (part : List Gate) → Cut gs n part → Cut (fs ++ gs) (length fs + n) part
behind fs gs n part c =
    record {
      before = fs ++ c.before;
      after = c.after;
      long = length-append fs c.before ∙ ap (λ (k : ℕ). length fs + k) c.long;
      is = ap (λ (l : List Gate). fs ++ l) c.is ∙ sym (append_assoc fs c.before (part ++ c.after));
    }

pub ahead : (gs hs : List Gate) (n : ℕ) (part : List Gate) → Cut gs n part → Cut (gs ++ hs) n part
ahead gs hs n part c =
    record {
      before = c.before;
      after = c.after ++ hs;
      long = c.long;
      is =
          ap (λ (l : List Gate). l ++ hs) c.is ∙ append_assoc c.before (part ++ c.after) hs
          ∙ ap (λ (l : List Gate). c.before ++ l) (append_assoc part c.after hs);
    }

-- a part of a part
pub inside : (gs : List Gate) (n : ℕ) (part : List Gate) (m : ℕ) (small : List Gate) → Cut gs n part → Cut part m small
    → Cut gs (n + m) small
inside gs n part m small c d =
    subst (λ (l : List Gate). Cut l (n + m) small) (sym c.is)
    (subst (λ (k : ℕ). Cut (c.before ++ (part ++ c.after)) (k + m) small) c.long
    (behind c.before (part ++ c.after) m small (ahead part c.after m small d)))

-- what is left from a part's gate on: the rest of the part, and what comes after it
pub left : (gs : List Gate) (n : ℕ) (part : List Gate) → Cut gs n part → (i from : ℕ) → i ≡ n + from → from ≤ length part
    → drop i gs ≡ drop from part ++ drop (i + (length part - from)) gs
left gs n part c i from e h =
    let b : List Gate = c.before in
    let a : List Gate = c.after in
    let here : i ≡ length b + from = omega (arith, c.long) in
    let there : i + (length part - from) ≡ length b + length part = omega (arith, c.long) in
    ap₂ (drop {A = Gate}) here c.is ∙ drop-append-add b (part ++ a) from ∙ drop-append-le from part a h
    ∙ ap (λ (l : List Gate). drop from part ++ l)
    (sym (ap₂ (drop {A = Gate}) there c.is ∙ drop-append-add b (part ++ a) (length part) ∙ drop-append_seam part a))

-- ---- the parts of a row

module _ (w x : ℕ) (ps : List Row) (j : ℕ) where
  abbrev row_gates_at : List Gate
  row_gates_at = row_program w x (row_at ps j).r (change w ps j)

  pub row_first : Cut row_gates_at 0 (row_start w ps j x)
  unfolding row_program row_start row_end
  row_first = record { before = []; after = relu_program w y_slot res_slot ++ row_end w ps j; long = refl; is = refl }

  pub row_relu : Cut row_gates_at 1 (relu_program w y_slot res_slot)
  unfolding row_program row_start row_end
  row_relu = record { before = row_start w ps j x; after = row_end w ps j; long = refl; is = refl }

  pub row_last : Cut row_gates_at (1 + (relu_size w).gates) (row_end w ps j)
  unfolding row_program row_start row_end
  row_last =
      record {
        before = row_start w ps j x ++ relu_program w y_slot res_slot;
        after = [];
        long = omega (arith, ap (λ (z : Size). z.gates) (relu_sized w y_slot res_slot));
        is = refl;
      }

-- ---- all rows, from the slope s before the first of them

module _ (w : ℕ) where
  abbrev change_from : ℤ → List Row → ℕ → ℕ
  change_from s ps j = wrap w (get_or (slopes ps) j (pos 0) -ℤ get_or (s ∷ slopes ps) j (pos 0))

  change_first : (s : ℤ) (p : Row) (ps : List Row) → coefficient w s p ps ≡ change_from s (p ∷ ps) 0
  unfolding coefficient slope_after slopes
  change_first s p [] = refl
  change_first s p (q ∷ ps) = refl

  change_next : (s : ℤ) (p : Row) (ps : List Row) (j : ℕ) → j < length ps
      → change_from (slope_after p ps) ps j ≡ change_from s (p ∷ ps) (suc j)
  unfolding slope_after slopes
  change_next s p [] j h = absurd (omega arith)
  change_next s p (q ∷ ps) j h = refl

module _ (w x : ℕ) where
  rows_at : (ps : List Row) (s : ℤ) (j n : ℕ) → j < length ps → n ≡ j * row_gates w
      → Cut (rows_program w x s ps) n (row_program w x (row_at ps j).r (change_from w s ps j))
  unfolding rows_program
  rows_at [] s j n h e = absurd (omega arith)
  rows_at (p ∷ ps) s zero n h e =
      let R : List Gate = row_program w x p.r (coefficient w s p ps) in
      let T : List Gate = rows_program w x (slope_after p ps) ps in
      let z : 0 ≡ n = omega arith in
      subst (λ (k : ℕ). Cut (R ++ T) n (row_program w x p.r k)) (change_first w s p ps)
      (subst (λ (k : ℕ). Cut (R ++ T) k R) z (at_first R T))
  rows_at (p ∷ ps) s (suc j) n h e =
      let R : List Gate = row_program w x p.r (coefficient w s p ps) in
      let T : List Gate = rows_program w x (slope_after p ps) ps in
      let r : length R ≡ row_gates w = ap (λ (z : Size). z.gates) (row_sized w x p.r (coefficient w s p ps)) in
      let z : length R + j * row_gates w ≡ n = omega (arith, r, suc-mul j (row_gates w)) in
      let q : List Gate = row_program w x (row_at ps j).r (change_from w (slope_after p ps) ps j) in
      subst (λ (k : ℕ). Cut (R ++ T) n (row_program w x (row_at ps j).r k)) (change_next w s p ps j (omega arith))
      (subst (λ (k : ℕ). Cut (R ++ T) k q) z
      (behind R T (j * row_gates w) q (rows_at ps (slope_after p ps) j (j * row_gates w) (omega arith) refl)))

  -- of a sum, with what comes after it
  pub sum_row : (ps : List Row) (hs : List Gate) (j : ℕ) → j < length ps
      → Cut (sum_program w x ps ++ hs) (1 + j * row_gates w) (row_program w x (row_at ps j).r (change w ps j))
  unfolding change
  sum_row ps hs j h =
      let part : List Gate = row_program w x (row_at ps j).r (change w ps j) in
      let rs : List Gate = rows_program w x (pos 0) ps in
      ahead (sum_program w x ps) hs (1 + j * row_gates w) part
      (subst (λ (l : List Gate). Cut l (1 + j * row_gates w) part) (sym (sum_gates w x ps))
      (behind (_ ∷ []) rs (j * row_gates w) part (rows_at ps (pos 0) j (j * row_gates w) h refl)))

  pub sum_start : (ps : List Row) (hs : List Gate) → Cut (sum_program w x ps ++ hs) 0 (first_gates w ps)
  unfolding first_gates
  sum_start ps hs =
      let rs : List Gate = rows_program w x (pos 0) ps in
      record { before = []; after = rs ++ hs; long = refl; is = ap (λ (l : List Gate). l ++ hs) (sum_gates w x ps) }
