-- The piece of a gate holds that gate and those behind it (`Stands`): a curve's pieces at any width, every piece at 32. Assumes nothing.
use Rattle.std.proofs.Common.{◌≡◌, ℕ, zero, suc, ◌+◌, ◌-◌, ◌*◌, ◌/◌, ◌%◌, ◌<◌, ◌≤◌, Bool, true, false, cond, T, eqb, ltb, leb, List, [], ◌∷◌, ◌++◌, map, length, get_or, take, drop, replicate, sym, refl, ap, ◌∙◌, subst, ap₂, true≢false, append_assoc, append-nil, mod-lt, mul_comm, div-add-mod', le-div_iff_mul-le, arith, leb→le, length-append, get_or-take, ltb-false, ltb-true, eqb-true}
use borrow.Author.Tests.{eqb-false}
use lib.ListN.{get_or-replicate, get_or-map, get_or-eq_default}
use lib.Seq.{drop-append-add}
use Rattle.gates.specs.Gates.{Gate, Refresh}
use Rattle.gates.specs.Codes.{Past, fetched}
use Rattle.tables.specs.Table.{Row, row_at}
use Rattle.curves.specs.Curve.{last_count}
use Rattle.programs.specs.declared.Order.{Order}
use Rattle.programs.specs.Programs.{acc_slot, res_slot, y_slot, relu_program, slack_program, one_bit_program, exact_program, row_program}
use Rattle.programs.specs.Programs.{sum_program, truncation, saturation}
use Rattle.programs.specs.Orders.{curve_program, kinds, program}
use Rattle.programs.specs.Sizes.{Size, one_bit_size, exact_size, relu_size, row_gates, saturation_size, plus_size, times_size}
use Rattle.programs.proofs.CurveGates.{refreshed}
use Rattle.programs.proofs.Sizes.{one_bit_sized, exact_sized, relu_sized, sum_sized, any_table, row_number, one_bit_number, exact_32}
use Rattle.programs.proofs.Sizes.{relu_32, saturation_sized, saturation_32}
use Rattle.program_fetch.specs.declared.Piece.{Piece}
use Rattle.program_fetch.specs.declared.Part.{Part}
use Rattle.program_fetch.specs.declared.Part.TheVariants.{One, OneBit, Exact, Relu, First, RowStart, RowEnd, Saturation, Nothing}
use Rattle.program_fetch.specs.Pieces.{change, first_gates, row_start, row_end, part_gates, piece_gates, order_with, wholes, whole, part}
use Rattle.program_fetch.specs.Pieces.{last_part, row_piece, last_piece, end_piece, curve_piece, piece_at}
use Rattle.program_fetch.proofs.Cuts.{Cut, at_first, behind, inside, left, row_first, row_relu, row_last, sum_row, sum_start}

-- the piece p holds the gate at index i of an order's program, and all that follow it as far as the piece goes; where
-- it is not the last one, it holds a gate at least
pub record Stands (w : ℕ) (ps : List Row) (o : Order) (i : ℕ) (p : Piece) : Type 0 where
  pub end : p.end ≡ length (piece_gates w ps p)
  pub few : p.end ≤ 50
  pub gates : drop i (program w ps o)
      ≡ drop p.from (piece_gates w ps p) ++ cond p.last [] (drop (i + (p.end - p.from)) (program w ps o))
  pub some : p.last ≡ false → p.from < p.end

module _ (w : ℕ) (ps : List Row) (o : Order) where
  -- a part of the program that others follow
  part_stands : (n : ℕ) (q : Part) (i from end : ℕ) → Cut (program w ps o) n (part_gates w ps q) → i ≡ n + from
      → from < end → end ≡ length (part_gates w ps q) → end ≤ 50 → Stands w ps o i (part q from end)
  unfolding piece_gates
  part_stands n q i from end c e f l m =
      let gs : List Gate = part_gates w ps q in
      record {
        end = l;
        few = m;
        gates =
            left (program w ps o) n gs c i from e (omega (arith, l))
            ∙ ap (λ (k : ℕ). drop from gs ++ drop (i + (k - from)) (program w ps o)) (sym l);
        some = λ z. f;
      }

  last_stands : (before : List Gate) (q : Part) (i from end : ℕ) → program w ps o ≡ before ++ part_gates w ps q
      → i ≡ length before + from → end ≡ length (part_gates w ps q) → end ≤ 50 → Stands w ps o i (last_part q from end)
  unfolding piece_gates
  last_stands before q i from end g e l m =
      let gs : List Gate = part_gates w ps q in
      record {
        end = l;
        few = m;
        gates = ap₂ (drop {A = Gate}) e g ∙ drop-append-add before gs from ∙ sym (append-nil (drop from gs));
        some = λ z. absurd (true≢false z);
      }

-- ---- a curve

module _ (w : ℕ) (ps : List Row) (o : Order) (h : o.kind ≡ 10) where
  abbrev sum : List Gate
  sum = sum_program w o.source ps

  -- R-1's last steps, and all behind the rows
  abbrev steps : List Gate
  steps = saturation w (last_count ps) o.source o.target

  abbrev rest : List Gate
  rest = truncation w o.fourth ++ steps

  curve_is : program w ps o ≡ sum ++ rest
  unfolding program kinds curve_program
  curve_is = rw h

  sum_long : length sum ≡ 1 + row_gates w * length ps
  unfolding plus_size times_size
  sum_long = ap (λ (z : Size). z.gates) (sum_sized w o.source ps)

  first_stands : Stands w ps o 0 (part First 0 1)
  unfolding part_gates first_gates
  first_stands =
      part_stands w ps o 0 First 0 0 1
      (subst (λ (l : List Gate). Cut l 0 (first_gates w ps)) (sym curve_is)
      (sum_start w o.source ps rest))
      refl (omega arith) refl (omega arith)

  -- a part of a row
  module _ (j : ℕ) (l : j < length ps) where
    row_part : (m : ℕ) (small : List Gate) → Cut (row_program w o.source (row_at ps j).r (change w ps j)) m small
        → Cut (program w ps o) (1 + j * row_gates w + m) small
    row_part m small c =
        subst (λ (l : List Gate). Cut l (1 + j * row_gates w + m) small) (sym curve_is)
        (inside (sum ++ rest) (1 + j * row_gates w)
        (row_program w o.source (row_at ps j).r (change w ps j)) m small
        (sum_row w o.source ps rest j l) c)

    start_stands : Stands w ps o (1 + j * row_gates w + 0) (part (RowStart o.source j) 0 1)
    unfolding part_gates row_start
    start_stands =
        part_stands w ps o (1 + j * row_gates w + 0) (RowStart o.source j) (1 + j * row_gates w + 0) 0 1
        (row_part 0 (row_start w ps j o.source) (row_first w o.source ps j))
        (omega arith) (omega arith) refl (omega arith)

    relu_stands : (i : ℕ) → i < (relu_size w).gates → (relu_size w).gates ≤ 50
        → Stands w ps o (1 + j * row_gates w + suc i) (part (Relu y_slot res_slot) i (relu_size w).gates)
    unfolding part_gates kinds
    relu_stands i f m =
        part_stands w ps o (1 + j * row_gates w + 1) (Relu y_slot res_slot) (1 + j * row_gates w + suc i) i (relu_size w).gates
        (row_part 1 (relu_program w y_slot res_slot) (row_relu w o.source ps j))
        (omega arith) f (sym (ap (λ (z : Size). z.gates) (relu_sized w y_slot res_slot))) m

    end_stands : (i : ℕ) → (relu_size w).gates ≤ i → suc i < row_gates w
        → Stands w ps o (1 + j * row_gates w + suc i) (part (RowEnd j) (i - (relu_size w).gates) 2)
    unfolding part_gates row_end
    end_stands i f m =
        let n = (relu_size w).gates in
        part_stands w ps o (1 + j * row_gates w + (1 + n)) (RowEnd j) (1 + j * row_gates w + suc i) (i - n) 2
        (row_part (1 + n) (row_end w ps j) (row_last w o.source ps j))
        (omega arith) (omega (arith, ap (λ (z : Size). z.gates) (row_number w))) refl (omega arith)

    row_stands : (relu_size w).gates ≤ 50 → (i : ℕ) → i < row_gates w
        → Stands w ps o (1 + j * row_gates w + i) (row_piece w o.source j i)
    unfolding row_piece
    row_stands m zero f = start_stands
    row_stands m (suc i) f = go (ltb i (relu_size w).gates) refl
      where
        go : (b : Bool) → ltb i (relu_size w).gates ≡ b → Stands w ps o (1 + j * row_gates w + suc i) (row_piece w o.source j (suc i))
        go true e = rw e (relu_stands i (ltb-true i _ e) m)
        go false e = rw e (end_stands i (ltb-false i _ e) f)

  -- R-1's last steps, behind a truncation of n gates
  steps_stand : (gs : List Gate) (n : ℕ) → truncation w o.fourth ≡ gs → length gs ≡ n → (i from : ℕ) → i ≡ n + from
      → (saturation_size w).gates ≤ 50
      → Stands w ps o (1 + row_gates w * length ps + i) (last_piece w o.source o.target from)
  unfolding part_gates kinds
  steps_stand gs n e c i from f m =
      last_stands w ps o (sum ++ gs) (Saturation o.source o.target) (1 + row_gates w * length ps + i) from
      (saturation_size w).gates
      (curve_is ∙ ap (λ (l : List Gate). sum ++ (l ++ steps)) e ∙ sym (append_assoc sum gs steps))
      (omega (arith, sum_long, length-append sum gs))
      (sym (ap (λ (z : Size). z.gates) (saturation_sized w (last_count ps) o.source o.target))) m

  exact_stands : o.fourth ≡ 0 → (i : ℕ) → i < (exact_size w).gates → (exact_size w).gates ≤ 50
      → Stands w ps o (1 + row_gates w * length ps + i) (part (Exact 12 acc_slot acc_slot) i (exact_size w).gates)
  unfolding part_gates kinds truncation
  exact_stands z i f m =
      let t : List Gate = exact_program w 12 acc_slot acc_slot in
      part_stands w ps o (length sum + 0) (Exact 12 acc_slot acc_slot) (1 + row_gates w * length ps + i) i (exact_size w).gates
      (subst (λ (l : List Gate). Cut l (length sum + 0) t)
      (sym (curve_is ∙ ap (λ (k : ℕ). sum ++ (truncation w k ++ steps)) z))
      (behind sum (t ++ steps) 0 t (at_first t steps)))
      (omega (arith, sum_long)) f (sym (ap (λ (z : Size). z.gates) (exact_sized w 12 acc_slot acc_slot))) m

  -- the one_bit truncation, behind its refresh
  module _ (n : o.fourth ≡ 0 → ⊥) where
    abbrev refresh : List Gate
    refresh = Refresh acc_slot acc_slot ∷ []

    abbrev one_bit : List Gate
    one_bit = one_bit_program w 12 acc_slot acc_slot

    one_bit_is : program w ps o ≡ sum ++ (refresh ++ (one_bit ++ steps))
    one_bit_is = curve_is ∙ ap (λ (l : List Gate). sum ++ (l ++ steps)) (sym (refreshed w o.fourth n))

    refresh_stands : Stands w ps o (1 + row_gates w * length ps + 0) (part (One (order_with 5 acc_slot acc_slot 0)) 0 1)
    unfolding part_gates kinds
    refresh_stands =
        part_stands w ps o (length sum + 0) (One (order_with 5 acc_slot acc_slot 0)) (1 + row_gates w * length ps + 0) 0 1
        (subst (λ (l : List Gate). Cut l (length sum + 0) refresh) (sym one_bit_is)
        (behind sum (refresh ++ (one_bit ++ steps)) 0 refresh (at_first refresh (one_bit ++ steps))))
        (omega (arith, sum_long)) (omega arith) refl (omega arith)

    one_bit_stands : (i : ℕ) → i < (one_bit_size w).gates
        → Stands w ps o (1 + row_gates w * length ps + suc i) (part (OneBit 12 acc_slot acc_slot) i (one_bit_size w).gates)
    unfolding part_gates kinds
    one_bit_stands i f =
        part_stands w ps o (length sum + (1 + 0)) (OneBit 12 acc_slot acc_slot) (1 + row_gates w * length ps + suc i) i
        (one_bit_size w).gates
        (subst (λ (l : List Gate). Cut l (length sum + (1 + 0)) one_bit) (sym one_bit_is)
        (behind sum (refresh ++ (one_bit ++ steps)) (1 + 0) one_bit
        (behind refresh (one_bit ++ steps) 0 one_bit (at_first one_bit steps))))
        (omega (arith, sum_long)) f
        (sym (ap (λ (z : Size). z.gates) (one_bit_sized w 12 acc_slot acc_slot)))
        (omega (arith, ap (λ (z : Size). z.gates) (one_bit_number w)))

  -- by the mode
  module _ (s : (saturation_size w).gates ≤ 50) where
    after_exact : o.fourth ≡ 0 → (exact_size w).gates ≤ 50 → (i : ℕ)
        → Stands w ps o (1 + row_gates w * length ps + i) (end_piece w 0 o.source o.target i)
    unfolding end_piece truncation
    after_exact e m i = go (ltb i n) refl
      where
        n : ℕ
        n = (exact_size w).gates

        go : (b : Bool) → ltb i n ≡ b → Stands w ps o (1 + row_gates w * length ps + i) (end_piece w 0 o.source o.target i)
        go true t = rw t (exact_stands e i (ltb-true i n t) m)
        go false t =
            rw t (steps_stand (exact_program w 12 acc_slot acc_slot) n (ap (truncation w) e)
            (ap (λ (z : Size). z.gates) (exact_sized w 12 acc_slot acc_slot)) i (i - n) (omega (arith, ltb-false i n t)) s)

    after_one_bit : (k : ℕ) → o.fourth ≡ suc k → (i : ℕ)
        → Stands w ps o (1 + row_gates w * length ps + suc i) (end_piece w (suc k) o.source o.target (suc i))
    unfolding end_piece truncation
    after_one_bit k e i = go (ltb i n) refl
      where
        n : ℕ
        n = (one_bit_size w).gates

        go : (b : Bool) → ltb i n ≡ b
            → Stands w ps o (1 + row_gates w * length ps + suc i) (end_piece w (suc k) o.source o.target (suc i))
        go true t = rw t (one_bit_stands (λ z. omega arith) i (ltb-true i n t))
        go false t =
            rw t (steps_stand (Refresh acc_slot acc_slot ∷ one_bit_program w 12 acc_slot acc_slot) (suc n) (ap (truncation w) e)
            (ap suc (ap (λ (z : Size). z.gates) (one_bit_sized w 12 acc_slot acc_slot))) (suc i) (i - n)
            (omega (arith, ltb-false i n t)) s)

    rest_stands : (exact_size w).gates ≤ 50 → (mode : ℕ) → o.fourth ≡ mode → (i : ℕ)
        → Stands w ps o (1 + row_gates w * length ps + i) (end_piece w mode o.source o.target i)
    unfolding end_piece
    rest_stands m zero e i = after_exact e m i
    rest_stands m (suc k) e zero = refresh_stands (λ z. omega arith)
    rest_stands m (suc k) e (suc i) = after_one_bit k e i

  curve_stands : (relu_size w).gates ≤ 50 → (exact_size w).gates ≤ 50 → (saturation_size w).gates ≤ 50 → (i : ℕ)
      → Stands w ps o i (curve_piece w (length ps) o i)
  unfolding curve_piece
  curve_stands l m s zero = first_stands
  curve_stands l m s (suc i) = go (ltb (i / row_gates w) (length ps)) refl
    where
      some : 0 < row_gates w
      some = omega (arith, ap (λ (z : Size). z.gates) (row_number w))

      go : (b : Bool) → ltb (i / row_gates w) (length ps) ≡ b → Stands w ps o (suc i) (curve_piece w (length ps) o (suc i))
      go true e =
          let j = i / row_gates w in
          let at : 1 + j * row_gates w + i % row_gates w ≡ suc i = omega (arith, div-add-mod' i (row_gates w)) in
          rw e (subst (λ (k : ℕ). Stands w ps o k (row_piece w o.source j (i % row_gates w))) at
          (row_stands j (ltb-true j (length ps) e) l (i % row_gates w) (mod-lt i some)))
      go false e =
          let n = row_gates w * length ps in
          let past : length ps * row_gates w ≤ i = (le-div_iff_mul-le some).0 (ltb-false (i / row_gates w) (length ps) e) in
          let at : 1 + n + (i - n) ≡ suc i = omega (arith, past, mul_comm (length ps) (row_gates w)) in
          rw e (subst (λ (k : ℕ). Stands w ps o k (end_piece w o.fourth o.source o.target (i - n))) at
          (rest_stands s m o.fourth refl (i - n)))

-- ---- the other kinds
module _ (w : ℕ) (ps : List Row) where
  -- of a kind that does not look at the table
  single_gates : (o : Order) → o.kind < 6 → part_gates w ps (One o) ≡ program w ps o
  unfolding part_gates program
  single_gates o h = get_or-take 6 (kinds w ps o.target o.source o.fourth) o.kind [] h

  pub one_gated : (o : Order) → o.kind < 6 → part_gates w ps (One o) ≡ program w [] o
  one_gated o h = single_gates o h ∙ any_table w ps [] o (λ e. omega arith)

  pub none_gated : (o : Order) → 6 ≤ o.kind → (i : ℕ) → Past ≡ fetched (part_gates w ps (One o)) i
  unfolding part_gates kinds fetched
  none_gated o h i =
      let ks = take 6 (kinds w ps o.target o.source o.fourth) in
      ap (λ (gs : List Gate). fetched gs i) (sym (get_or-eq_default ks [] h))

  -- kinds 0 to 9: all of the program
  pub single : (o : Order) → o.kind < 6 → One o ≡ whole o
  unfolding whole
  single o h = sym (get_or-replicate 6 o.kind (One o) Nothing h) ∙ get_or-take 6 (wholes o) o.kind Nothing h

  behind_single : (o : Order) (j : ℕ) → j < 4 → part_gates w ps (get_or (wholes o) (suc (suc (suc (suc (suc (suc j)))))) Nothing)
      ≡ get_or (kinds w ps o.target o.source o.fourth) (suc (suc (suc (suc (suc (suc j)))))) []
  unfolding part_gates kinds
  behind_single o zero h = refl
  behind_single o (suc zero) h = refl
  behind_single o (suc (suc zero)) h = refl
  behind_single o (suc (suc (suc zero))) h = refl
  behind_single o (suc (suc (suc (suc j)))) h = absurd (omega arith)

  whole_gates : (o : Order) → o.kind < 10 → part_gates w ps (whole o) ≡ program w ps o
  unfolding whole program
  whole_gates o h = go (ltb o.kind 6) refl
    where
      go : (b : Bool) → ltb o.kind 6 ≡ b → part_gates w ps (whole o) ≡ program w ps o
      go true e =
          let m : o.kind < 6 = ltb-true o.kind 6 e in
          ap (part_gates w ps) (sym (single o m)) ∙ single_gates o m
      go false e =
          let m : 6 ≤ o.kind = ltb-false o.kind 6 e in
          let j : ℕ = o.kind - 6 in
          let is : o.kind ≡ suc (suc (suc (suc (suc (suc j))))) = omega (arith, m) in
          ap (λ (k : ℕ). part_gates w ps (get_or (wholes o) k Nothing)) is
          ∙ behind_single o j (omega (arith, m, h))
          ∙ ap (λ (k : ℕ). get_or (kinds w ps o.target o.source o.fourth) k []) (sym is)

  none_stands : (o : Order) (i : ℕ) → 10 < o.kind → Stands w ps o i (last_part Nothing i 0)
  unfolding part_gates kinds program
  none_stands o i h =
      last_stands w ps o [] Nothing i i 0
      (get_or-eq_default (kinds w ps o.target o.source o.fourth) [] h) (omega arith) refl (omega arith)

-- ---- the numbers of gates of kinds 0 to 9, at 32

abbrev pub kind_gates : List ℕ
kind_gates = replicate 6 1 ++ (3 ∷ 13 ∷ 50 ∷ 39 ∷ [])

lengths : (ps : List Row) (d a c : ℕ) → map length (take 10 (kinds 32 ps d a c)) ≡ kind_gates
unfolding kinds slack_program one_bit_program
lengths ps d a c =
    let e : length (exact_program 32 c a d) ≡ 50 = ap (λ (z : Size). z.gates) (exact_sized 32 c a d ∙ exact_32) in
    let r : length (relu_program 32 a d) ≡ 39 = ap (λ (z : Size). z.gates) (relu_sized 32 a d ∙ relu_32) in
    rw (e, r) refl

module _ (ps : List Row) (o : Order) (h : o.kind < 10) where
  counted : get_or kind_gates o.kind 0 ≡ length (program 32 ps o)
  unfolding program
  counted =
      let ks : List (List Gate) = kinds 32 ps o.target o.source o.fourth in
      ap (λ (l : List ℕ). get_or l o.kind 0) (sym (lengths ps o.target o.source o.fourth))
      ∙ get_or-map length (take 10 ks) o.kind [] ∙ ap length (get_or-take 10 ks o.kind [] h)

  pub counted_at : (k : ℕ) → o.kind ≡ k → get_or kind_gates k 0 ≡ length (program 32 ps o)
  counted_at k e = ap (λ (i : ℕ). get_or kind_gates i 0) (sym e) ∙ counted

  pub counted_one : o.kind < 6 → 1 ≡ length (program 32 ps o)
  counted_one m = sym (get_or-replicate 6 o.kind 1 0 m) ∙ get_or-take 6 kind_gates o.kind 0 m ∙ counted

abbrev Each : ℕ → List ℕ → Type 0
Each b [] = Unit
Each b (n ∷ l) = T (leb n b) × Each b l

each_at : (b : ℕ) (l : List ℕ) → Each b l → (k : ℕ) → get_or l k 0 ≤ b
each_at b [] h k = omega arith
each_at b (n ∷ l) h zero = leb→le n b h.0
each_at b (n ∷ l) h (suc k) = each_at b l h.1 k

whole_stands : (ps : List Row) (o : Order) (i : ℕ) → o.kind < 10 → Stands 32 ps o i (last_part (whole o) i (length (program 32 ps o)))
whole_stands ps o i h =
    let n = length (program 32 ps o) in
    let all : part_gates 32 ps (whole o) ≡ program 32 ps o = whole_gates 32 ps o h in
    let m : get_or kind_gates o.kind 0 ≤ 50 =
    each_at 50 kind_gates (tt, (tt, (tt, (tt, (tt, (tt, (tt, (tt, (tt, (tt, tt)))))))))) o.kind
    in
    last_stands 32 ps o [] (whole o) i i n (sym all) (omega arith) (ap length (sym all)) (omega (arith, m, counted ps o h))

-- ---- the piece of a gate stands where the gate does

pub stands : (ps : List Row) (o : Order) (i : ℕ) → Stands 32 ps o i (piece_at 32 ps o i)
unfolding piece_at
stands ps o i = go (ltb o.kind 10) refl (eqb o.kind 10) refl
  where
    go : (b : Bool) → ltb o.kind 10 ≡ b → (c : Bool) → eqb o.kind 10 ≡ c → Stands 32 ps o i (piece_at 32 ps o i)
    go true e c d = rw e (whole_stands ps o i (ltb-true o.kind 10 e))
    go false e true d =
        rw (e, d) (curve_stands 32 ps o (eqb-true o.kind 10 d) (omega (arith, ap (λ (z : Size). z.gates) relu_32))
        (omega (arith, ap (λ (z : Size). z.gates) exact_32)) (omega (arith, ap (λ (z : Size). z.gates) saturation_32)) i)
    go false e false d =
        let n : o.kind ≡ 10 → ⊥ = eqb-false o.kind 10 d in
        rw (e, d) (none_stands 32 ps o i (omega (arith, ltb-false o.kind 10 e)))

-- of a piece that is the gate's
pub piece_stands : {ps : List Row} {o : Order} {i : ℕ} {p : Piece} → p ≡ piece_at 32 ps o i → Stands 32 ps o i p
piece_stands {ps} {o} {i} e = subst (Stands 32 ps o i) (sym e) (stands ps o i)
