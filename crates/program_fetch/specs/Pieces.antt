-- The pieces that the code walks a program by: their gates, and the piece in which a gate stands. Assumes nothing.
use Rattle.std.specs.Prelude.{ℕ, zero, suc, ◌-◌, ◌*◌, ◌/◌, ◌%◌, ◌^◌, true, false, cond, List, []}
use Rattle.std.specs.Prelude.{◌∷◌, length, take, pos, ◌-ℤ◌, ◌==◌, nat_lt, slice_index_or}
use Rattle.words.specs.Words.{neg}
use Rattle.words.specs.Signed.{wrap}
use Rattle.gates.specs.Gates.{Gate, Add, Scale, Plus, Const}
use Rattle.tables.specs.Table.{Row, row_at, slopes}
use Rattle.curves.specs.Curve.{last_count}
use Rattle.programs.specs.declared.Order.{Order}
use Rattle.programs.specs.Programs.{slack_program, one_bit_program, exact_program, relu_program}
use Rattle.programs.specs.Programs.{y_slot, acc_slot, res_slot, saturation}
use Rattle.programs.specs.Orders.{kinds, program}
use Rattle.programs.specs.Sizes.{one_bit_size, exact_size, relu_size, row_gates, saturation_size}
use Rattle.program_fetch.specs.declared.Part.{Part}
use Rattle.program_fetch.specs.declared.Part.TheVariants.{One, Slack, OneBit, Exact, Relu, First, RowStart}
use Rattle.program_fetch.specs.declared.Part.TheVariants.{RowEnd, Saturation, Nothing}
use Rattle.program_fetch.specs.declared.Piece.{Piece}

-- the change of slope at a row, as a word: the slope of the segment after it less that of the segment before it
unfoldable pub change : (w : ℕ) → List Row → (row : ℕ) → ℕ
change w ps j = wrap w (slice_index_or (slopes ps) j (pos 0) -ℤ slice_index_or (pos 0 ∷ slopes ps) j (pos 0))

-- a curve's first gate, and the gates of a row before and after its ReLU
unfoldable pub first_gates : (w : ℕ) → List Row → List Gate
first_gates w ps = Const acc_slot (4096 * (row_at ps 0).c % 2 ^ w) ∷ []

unfoldable pub row_start : (w : ℕ) → List Row → (row x : ℕ) → List Gate
row_start w ps j x = Plus y_slot x (neg w (row_at ps j).r) ∷ []

unfoldable pub row_end : (w : ℕ) → List Row → (row : ℕ) → List Gate
row_end w ps j = Scale res_slot res_slot (change w ps j) ∷ Add acc_slot acc_slot res_slot ∷ []

-- the gates of a part: those of kinds 0 to 9, and a curve's own
unfoldable pub part_gates : (w : ℕ) → List Row → Part → List Gate
part_gates w ps (One o) = slice_index_or (take 6 (kinds w ps o.target o.source o.fourth)) o.kind []
part_gates w ps (Slack k x d) = slack_program k x d
part_gates w ps (OneBit k x d) = one_bit_program w k x d
part_gates w ps (Exact k x d) = exact_program w k x d
part_gates w ps (Relu x d) = relu_program w x d
part_gates w ps First = first_gates w ps
part_gates w ps (RowStart x j) = row_start w ps j x
part_gates w ps (RowEnd j) = row_end w ps j
part_gates w ps (Saturation x d) = saturation w (last_count ps) x d
part_gates w ps Nothing = []

unfoldable pub piece_gates : (w : ℕ) → List Row → Piece → List Gate
piece_gates w ps p = part_gates w ps p.part

-- ---- pieces by their fields

abbrev pub order_with : (kind target source fourth : ℕ) → Order
order_with k d a c = record { kind = k; target = d; source = a; fourth = c }

-- all of an order, for each of kinds 0 to 9
abbrev pub wholes : Order → List Part
wholes o =
    One o ∷ One o ∷ One o ∷ One o ∷ One o ∷ One o
    ∷ Slack o.fourth o.source o.target ∷ OneBit o.fourth o.source o.target ∷ Exact o.fourth o.source o.target
    ∷ Relu o.source o.target ∷ []

unfoldable pub whole : Order → Part
whole o = slice_index_or (wholes o) o.kind Nothing

-- one that others follow
abbrev pub part : Part → (from end : ℕ) → Piece
part p from end = record { part = p; from = from; end = end; last = false }

abbrev pub last_part : Part → (from end : ℕ) → Piece
last_part p from end = record { part = p; from = from; end = end; last = true }

-- ---- the piece in which the gate at index i stands

-- i an index in row j of a curve of source x: the row's start, its ReLU, which goes from y to res, or its end
unfoldable pub row_piece : (w source row i : ℕ) → Piece
row_piece w x j zero = part (RowStart x j) 0 1
row_piece w x j (suc i) =
    cond (nat_lt i (relu_size w).gates) (part (Relu y_slot res_slot) i (relu_size w).gates)
    (part (RowEnd j) (i - (relu_size w).gates) 2)

-- i an index in R-1's last steps, which go from x to d
abbrev pub last_piece : (w source target i : ℕ) → Piece
last_piece w x d i = last_part (Saturation x d) i (saturation_size w).gates

-- i an index behind a curve's rows: "kind 8 with k = 12, or kind 5 and kind 7 with k = 12", then R-1's last steps
unfoldable pub end_piece : (w mode source target i : ℕ) → Piece
end_piece w zero x d i =
    cond (nat_lt i (exact_size w).gates) (part (Exact 12 acc_slot acc_slot) i (exact_size w).gates)
    (last_piece w x d (i - (exact_size w).gates))
end_piece w (suc m) x d zero = part (One (order_with 5 acc_slot acc_slot 0)) 0 1
end_piece w (suc m) x d (suc i) =
    cond (nat_lt i (one_bit_size w).gates) (part (OneBit 12 acc_slot acc_slot) i (one_bit_size w).gates)
    (last_piece w x d (i - (one_bit_size w).gates))

-- i an index in a curve's program, on a table of n rows: the first gate, then the rows, then the rest
unfoldable pub curve_piece : (w rows : ℕ) → Order → (i : ℕ) → Piece
curve_piece w n o zero = part First 0 1
curve_piece w n o (suc i) =
    cond (nat_lt (i / row_gates w) n) (row_piece w o.source (i / row_gates w) (i % row_gates w))
    (end_piece w o.fourth o.source o.target (i - row_gates w * n))

-- i an index in an order's program: kinds 0 to 9 are one piece, a curve has its own, and a kind above 10 has no gates
unfoldable pub piece_at : (w : ℕ) → List Row → Order → (i : ℕ) → Piece
piece_at w ps o i =
    cond (nat_lt o.kind 10) (last_part (whole o) i (length (program w ps o)))
    (cond (o.kind == 10) (curve_piece w (length ps) o i) (last_part Nothing i 0))
