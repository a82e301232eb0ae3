-- The piece of a gate, case by case as the code tells them apart, with the sizes at 32 in numbers. Assumes nothing.
use Rattle.std.proofs.Common.{◌≡◌, ℕ, zero, suc, ◌-◌, ◌*◌, ◌/◌, ◌%◌, ◌<◌, ◌≤◌, List, length, get_or, refl, sym, ap, arith, le-ltb, lt-ltb, eq-eqb, ne_eqb}
use Rattle.tables.specs.Table.{Row}
use Rattle.programs.specs.declared.Order.{Order}
use Rattle.programs.specs.declared.kind.Kind.{Kind}
use Rattle.programs.specs.declared.kind.Kind.TheVariants.{Slack, OneBit, Exact, Relu, Curve}
use Rattle.programs.specs.Kinds.{kind_number}
use Rattle.programs.specs.Programs.{y_slot, acc_slot, res_slot}
use Rattle.programs.specs.Orders.{program}
use Rattle.programs.specs.Sizes.{row_gates}
use Rattle.programs.proofs.Sizes.{one_bit_number, exact_32, relu_32, row_32, saturation_32}
use Rattle.program_fetch.specs.declared.Part.TheVariants.{One, First, RowStart, RowEnd, Saturation, Nothing}
use Rattle.program_fetch.specs.declared.Part.TheVariants as Parts
use Rattle.program_fetch.specs.declared.Part.{Part}
use Rattle.program_fetch.proofs.Stands.{single, kind_gates, counted_at, counted_one}
use Rattle.program_fetch.specs.Pieces.{order_with, wholes, whole, part, last_part, row_piece, last_piece, end_piece, curve_piece, piece_at}

less_one : (i : ℕ) → suc i - 1 ≡ i
less_one i = omega arith

-- ---- of a row

module _ (x j : ℕ) where
  pub row_starts : (i : ℕ) → i < 1 → part (RowStart x j) i 1 ≡ row_piece 32 x j i
  unfolding row_piece
  row_starts zero h = refl
  row_starts (suc i) h = absurd (omega arith)

  pub row_relu : (i : ℕ) → 1 ≤ i → i - 1 < 39 → part (Parts.Relu y_slot res_slot) (i - 1) 39 ≡ row_piece 32 x j i
  unfolding row_piece
  row_relu zero h l = absurd (omega arith)
  row_relu (suc i) h l = rw (less_one i, relu_32, lt-ltb i 39 (omega arith))

  pub row_ends : (i : ℕ) → 1 ≤ i → 39 ≤ i - 1 → part (RowEnd j) (i - 1 - 39) 2 ≡ row_piece 32 x j i
  unfolding row_piece
  row_ends zero h l = absurd (omega arith)
  row_ends (suc i) h l = rw (less_one i, relu_32, le-ltb i 39 (omega arith))

-- ---- of what a curve has behind its rows

module _ (x d : ℕ) where
  pub end_last : (i : ℕ) → last_part (Saturation x d) i 41 ≡ last_piece 32 x d i
  end_last i = rw saturation_32

  pub end_exact : (mode i : ℕ) → mode ≡ 0 → i < 50 → part (Parts.Exact 12 acc_slot acc_slot) i 50 ≡ end_piece 32 mode x d i
  unfolding end_piece
  end_exact zero i h l = rw (exact_32, lt-ltb i 50 l)
  end_exact (suc m) i h l = absurd (omega arith)

  pub after_exact : (mode i : ℕ) → mode ≡ 0 → 50 ≤ i → last_piece 32 x d (i - 50) ≡ end_piece 32 mode x d i
  unfolding end_piece
  after_exact zero i h l = rw (exact_32, le-ltb i 50 l)
  after_exact (suc m) i h l = absurd (omega arith)

  pub end_refresh : (mode i : ℕ) → (mode ≡ 0 → ⊥) → i ≡ 0 → part (One (order_with 5 acc_slot acc_slot 0)) 0 1 ≡ end_piece 32 mode x d i
  unfolding end_piece
  end_refresh zero i n h = absurd (n refl)
  end_refresh (suc m) zero n h = refl
  end_refresh (suc m) (suc i) n h = absurd (omega arith)

  pub end_one_bit : (mode i : ℕ) → (mode ≡ 0 → ⊥) → (i ≡ 0 → ⊥) → i - 1 < 13
      → part (Parts.OneBit 12 acc_slot acc_slot) (i - 1) 13 ≡ end_piece 32 mode x d i
  unfolding end_piece
  end_one_bit zero i n h l = absurd (n refl)
  end_one_bit (suc m) zero n h l = absurd (h refl)
  end_one_bit (suc m) (suc i) n h l = rw (less_one i, one_bit_number 32, lt-ltb i 13 (omega arith))

  pub after_one_bit : (mode i : ℕ) → (mode ≡ 0 → ⊥) → (i ≡ 0 → ⊥) → 13 ≤ i - 1 → last_piece 32 x d (i - 1 - 13) ≡ end_piece 32 mode x d i
  unfolding end_piece
  after_one_bit zero i n h l = absurd (n refl)
  after_one_bit (suc m) zero n h l = absurd (h refl)
  after_one_bit (suc m) (suc i) n h l = rw (less_one i, one_bit_number 32, le-ltb i 13 (omega arith))

-- ---- of a curve

module _ (n : ℕ) (o : Order) where
  pub curve_first : (i : ℕ) → i ≡ 0 → part First 0 1 ≡ curve_piece 32 n o i
  unfolding curve_piece
  curve_first zero h = refl
  curve_first (suc i) h = absurd (omega arith)

  pub curve_row : (i : ℕ) → (i ≡ 0 → ⊥) → (i - 1) / 42 < n
      → row_piece 32 o.source ((i - 1) / 42) ((i - 1) % 42) ≡ curve_piece 32 n o i
  unfolding curve_piece
  curve_row zero h l = absurd (h refl)
  curve_row (suc i) h l = rw (less_one i, row_32, row_gates, lt-ltb (i / 42) n (omega arith))

  pub curve_ends : (i : ℕ) → (i ≡ 0 → ⊥) → n ≤ (i - 1) / 42
      → end_piece 32 o.fourth o.source o.target (i - 1 - 42 * n) ≡ curve_piece 32 n o i
  unfolding curve_piece
  curve_ends zero h l = absurd (h refl)
  curve_ends (suc i) h l = rw (less_one i, row_32, row_gates, le-ltb (i / 42) n (omega arith))

-- ---- of any order, by its kind

-- the kinds of one gate
pub below_slack : (k : Kind) → (k ≡ Slack → ⊥) → (k ≡ OneBit → ⊥) → (k ≡ Exact → ⊥) → (k ≡ Relu → ⊥) → (k ≡ Curve → ⊥)
    → kind_number k < 6
below_slack Slack s b e r c = absurd (s refl)
below_slack OneBit s b e r c = absurd (b refl)
below_slack Exact s b e r c = absurd (e refl)
below_slack Relu s b e r c = absurd (r refl)
below_slack Curve s b e r c = absurd (c refl)
below_slack _ s b e r c = omega arith

module _ (ps : List Row) (o : Order) (i : ℕ) where
  in_part : (q : Part) (n : ℕ) → o.kind < 10 → q ≡ whole o → n ≡ length (program 32 ps o) → last_part q i n ≡ piece_at 32 ps o i
  unfolding piece_at
  in_part q n h eq en = rw (eq, en, lt-ltb o.kind 10 h)

  pub in_single : o.kind < 6 → last_part (One o) i 1 ≡ piece_at 32 ps o i
  in_single h = in_part (One o) 1 (omega arith) (single 32 ps o h) (counted_one ps o (omega arith) h)

  pub in_whole : (k : ℕ) → o.kind ≡ k → k < 10 → last_part (get_or (wholes o) k Nothing) i (get_or kind_gates k 0) ≡ piece_at 32 ps o i
  unfolding whole
  in_whole k e h =
      in_part (get_or (wholes o) k Nothing) (get_or kind_gates k 0) (omega arith)
      (ap (λ (j : ℕ). get_or (wholes o) j Nothing) (sym e)) (counted_at ps o (omega arith) k e)

  pub in_curve : o.kind ≡ 10 → (n : ℕ) → length ps ≡ n → curve_piece 32 n o i ≡ piece_at 32 ps o i
  unfolding piece_at
  in_curve h n e = rw (← e, le-ltb o.kind 10 (omega arith), eq-eqb o.kind 10 h)

  pub in_none : 10 < o.kind → last_part Nothing i 0 ≡ piece_at 32 ps o i
  unfolding piece_at
  in_none h = rw (le-ltb o.kind 10 (omega arith), ne_eqb o.kind 10 (λ e. omega arith))
