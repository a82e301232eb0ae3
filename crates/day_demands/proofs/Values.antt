-- The value that a curve gives alone and whether a reading is above the last row, of words; a value is -1 to 20000, so the factor times every
-- sum of a day's counted values lies within a word. Assumes nothing.
use mathlib.Core.Path.{◌≡◌, refl, ap, ◌∙◌}
use mathlib.Core.Bool.{Bool, true, false, cond}
use mathlib.Core.List.{List}
use mathlib.Core.Logic.{⊎_elim}
use Prim.Native.Nat.{ℕ, zero, suc, ◌+◌, ◌-◌, ◌*◌, ◌/◌, ◌^◌, ◌≤◌, ◌<◌}
use native.Mathlib.Nat.{zero-mul, mul-le-mul, mul_left_comm, le_refl}
use native.Mathlib.Omega.{arith}
use lib.Dec.{T, le→leb, lt→ltb, leb→le, ltb→lt, lit≤}
use lib.IntN.{ℤ, pos, negsuc, neg_ℤ, ◌+ℤ◌, ◌*ℤ◌, +ℤ_idr}
use lib.Signed.{mag, lt_z, ◌≤ℤ◌, ◌<ℤ◌, le_z_yes, lt_z_yes, lt_z_no}
use Rattle.words.specs.Signed.{floor, signed, in_range}
use Rattle.words.proofs.Words.{sub_lt}
use Rattle.words.proofs.Signed.{signed_low}
use Rattle.words.proofs.Integers.{le_or_lt, neg_pos, sub_ge, sub_below}
use Rattle.tables.specs.Table.{Row, rows, keeps_rules}
use Rattle.tables.proofs.Rows.{rules}
use Rattle.curves.specs.Curve.{scaled, last_count, above_last, saturated}
use Rattle.curves.proofs.Curve.{scaled_above, scaled_below}
use Rattle.curves.proofs.Above.{above_one, not_above}
use Rattle.programs.specs.Opens.{curve_value}
use Rattle.programs.proofs.Calibration.{above_curve, exact_curve}
use Rattle.calendars.specs.Ranges.{digit, number}
use Rattle.calendars.proofs.Counting.{number_more, number_le, number_add, factor_bound}
use Rattle.calendars.proofs.OpeningHours.{opening_hours}
use Rattle.days.specs.Day.{counting}
use Rattle.day_demands.specs.Settings.{DaySetting, quarter_reading}
use Rattle.day_demands.specs.Opened.{curve_alone, is_above, sum_of, above_of, quarters_of, factor_of, Sheet}

-- a curve's value is a word
pub value_lt : (w : ℕ) (ps : List Row) (mode x R : ℕ) → curve_value w ps mode x R < 2 ^ w
unfolding curve_value saturated
value_lt w ps mode x R = sub_lt w _ _

module _ (ws : List ℕ) (keeps : T (keeps_rules ws)) where
  abbrev last_r : ℕ
  last_r = last_count (rows ws)

  -- ---- of a word that reads in range

  module _ (x : ℕ) (hx : x < 2 ^ 32) (t : T (in_range 32 (signed 32 x))) where
    pub alone_reads : (R : ℕ) → signed 32 (curve_value 32 (rows ws) 0 x R) ≡ curve_alone ws (signed 32 x)
    unfolding curve_alone
    alone_reads R = go (lt_z (pos last_r) (signed 32 x)) refl
      where
        go : (b : Bool) → lt_z (pos last_r) (signed 32 x) ≡ b
            → signed 32 (curve_value 32 (rows ws) 0 x R) ≡ cond b (neg_ℤ (pos 1)) (floor (scaled (rows ws) (signed 32 x)) 4096)
        go true e = above_curve 32 (lit≤ tt) ws keeps x hx 0 R (lt_z_yes (rw e tt))
        go false e = exact_curve 32 (lit≤ tt) ws keeps x hx t (lt_z_no (rw e tt)) R

    pub above_reads : above_last 32 last_r x ≡ is_above ws (signed 32 x)
    unfolding is_above
    above_reads = go (lt_z (pos last_r) (signed 32 x)) refl
      where
        go : (b : Bool) → lt_z (pos last_r) (signed 32 x) ≡ b → above_last 32 last_r x ≡ cond b 1 0
        go true e = above_one 32 last_r x (lit≤ tt) hx (lt_z_yes (rw e tt))
        go false e = not_above 32 (lit≤ tt) ws keeps x hx t (lt_z_no (rw e tt))

  -- ---- of every reading

  pub alone_low : (z : ℤ) → neg_ℤ (pos 1) ≤ℤ curve_alone ws z
  unfolding curve_alone floor
  alone_low z = go (lt_z (pos last_r) z)
    where
      at_least : (Y : ℤ) → negsuc 4095 <ℤ Y → neg_ℤ (pos 1) ≤ℤ floor Y 4096
      at_least (pos n) h = le_z_yes tt
      at_least (negsuc n) h =
          let l : n < 4095 = ltb→lt n 4095 h.lt in
          le_z_yes (le→leb (n / 4096) 0 (omega arith))

      go : (b : Bool) → neg_ℤ (pos 1) ≤ℤ cond b (neg_ℤ (pos 1)) (floor (scaled (rows ws) z) 4096)
      go true = le_z_yes tt
      go false = at_least (scaled (rows ws) z) (scaled_above ws keeps z)

  pub alone_high : (z : ℤ) → curve_alone ws z ≤ℤ pos 20000
  unfolding curve_alone floor
  alone_high z = go (lt_z (pos last_r) z)
    where
      at_most : (Y : ℤ) → Y ≤ℤ pos (4096 * 20000) → floor Y 4096 ≤ℤ pos 20000
      at_most (pos n) h =
          let l : n ≤ 4096 * 20000 = leb→le n (4096 * 20000) h.le in
          le_z_yes (le→leb (n / 4096) 20000 (omega arith))
      at_most (negsuc n) h = le_z_yes tt

      go : (b : Bool) → cond b (neg_ℤ (pos 1)) (floor (scaled (rows ws) z) 4096) ≤ℤ pos 20000
      go true = le_z_yes tt
      go false = at_most (scaled (rows ws) z) (scaled_below ws keeps z)

-- ---- sums

mag_between : (z : ℤ) → neg_ℤ (pos 1) ≤ℤ z → z ≤ℤ pos 20000 → mag z ≤ 20000
mag_between (pos n) l h = leb→le n 20000 h.le
mag_between (negsuc n) l h = omega (arith, leb→le n 0 l.le)

mag_add : (x y : ℤ) → mag (x +ℤ y) ≤ mag x + suc (mag y)
mag_add (pos a) (pos b) = omega arith
mag_add (pos a) (negsuc b) =
    ⊎_elim (λ (l : suc b ≤ a). rw (sub_ge a (suc b) l) (omega arith)) (λ (l : a < suc b). rw (sub_below a (suc b) l) (omega arith))
    (le_or_lt (suc b) a)
mag_add (negsuc a) (pos b) =
    ⊎_elim (λ (l : suc a ≤ b). rw (sub_ge b (suc a) l) (omega arith)) (λ (l : b < suc a). rw (sub_below b (suc a) l) (omega arith))
    (le_or_lt (suc a) b)
mag_add (negsuc a) (negsuc b) = omega arith

one_more : (x y : ℤ) (N : ℕ) (b : Bool) → mag x ≤ 20001 * N → mag y ≤ 20000 → mag (x +ℤ cond b y (pos 0)) ≤ 20001 * (N + digit b)
one_more x y N true h k = omega (arith, mag_add x y)
one_more x y N false h k = rw (+ℤ_idr x) (omega arith)

mag_times : (k : ℕ) (z : ℤ) (n : ℕ) → k * suc (mag z) ≤ n → mag (pos k *ℤ z) ≤ n
mag_times k (pos m) n h = omega arith
mag_times zero (negsuc m) n h = rw (zero-mul (suc m)) (omega arith)
mag_times (suc k) (negsuc m) n h = rw (neg_pos (suc k * suc m) (omega arith)) (omega arith)

-- k times a, where a is at most m times N and k times N at most n
times_most : (k a N m n : ℕ) → a ≤ m * N → k * N ≤ n → k * a ≤ m * n
times_most k a N m n h l =
    let p : k * a ≤ k * (m * N) = mul-le-mul (le_refl k) h in
    let q : m * (k * N) ≤ m * n = mul-le-mul (le_refl m) l in
    omega (arith, p, q, mul_left_comm k m N)

within : (z : ℤ) → mag z < 2 ^ 31 → (neg_ℤ (pos (2 ^ 31)) ≤ℤ z) × (z <ℤ pos (2 ^ 31))
within (pos n) h = (le_z_yes tt, lt_z_yes (lt→ltb n (2 ^ 31) h))
within (negsuc n) h = (le_z_yes (le→leb n (2 ^ 31 - 1) (omega arith)), lt_z_yes tt)

module _ (S : DaySetting) (sheet : Sheet S) where
  pub sheet_keeps : T (keeps_rules S.table)
  sheet_keeps = (rules S.table).1 sheet.table

  abbrev f : ℕ → Bool
  f = counting S.hours

  -- from 1 to 96 quarters count
  open_quarters : (1 ≤ quarters_of S) × (quarters_of S ≤ 96)
  open_quarters =
      let c = S.hours.calendar in
      let d = S.hours.weekday in
      opening_hours.from_1_to_96 c d (opening_hours.one_number c d _ _ (opening_hours.numbered c d) sheet.open_day)

  sum_mag : (n : ℕ) → mag (sum_of S n) ≤ 20001 * number f 0 n
  unfolding sum_of number
  sum_mag zero = omega arith
  sum_mag (suc n) =
      let z : ℤ = quarter_reading 32 S n in
      rw (number_more f n)
      (one_more (sum_of S n) (curve_alone S.table z) (number f 0 n) (f n) (sum_mag n)
      (mag_between (curve_alone S.table z) (alone_low S.table sheet_keeps z) (alone_high S.table sheet_keeps z)))

  pub sum_small : (n : ℕ) → n ≤ 96 → mag (sum_of S n) < 2 ^ 31
  sum_small n h = omega (arith, sum_mag n, number_le f 0 n)

  pub product_small : (n : ℕ) → n ≤ 96 → mag (pos (factor_of S) *ℤ sum_of S n) < 2 ^ 31
  product_small n h =
      let N = quarters_of S in
      let e : n + (96 - n) ≡ 96 = omega arith in
      let more : N ≡ number f 0 n + number f (0 + n) (96 - n) = rw e at (number_add f 0 n (96 - n)) in
      let a : suc (mag (sum_of S n)) ≤ 20002 * N = omega (arith, sum_mag n, more, open_quarters.0) in
      let b : factor_of S * suc (mag (sum_of S n)) ≤ 20002 * 65536 =
      times_most (factor_of S) _ N 20002 65536 a (factor_bound N open_quarters.0 open_quarters.1) in
      omega (arith, mag_times (factor_of S) (sum_of S n) (20002 * 65536) b)

  pub product_within : (n : ℕ) → n ≤ 96
      → (neg_ℤ (pos (2 ^ 31)) ≤ℤ (pos (factor_of S) *ℤ sum_of S n)) × ((pos (factor_of S) *ℤ sum_of S n) <ℤ pos (2 ^ 31))
  product_within n h = within (pos (factor_of S) *ℤ sum_of S n) (product_small n h)

-- at most as many above the last row as quarters
digit_most : (table : List ℕ) (z : ℤ) → is_above table z ≤ 1
unfolding is_above
digit_most table z = go (lt_z (pos (last_count (rows table))) z)
  where
    go : (b : Bool) → cond b 1 0 ≤ 1
    go true = lit≤ tt
    go false = lit≤ tt

if_most : (b : Bool) (n : ℕ) → cond b n 0 ≤ n
if_most true n = omega arith
if_most false n = omega arith

pub above_most : (S : DaySetting) (n : ℕ) → above_of S n ≤ n
unfolding above_of
above_most S zero = omega arith
above_most S (suc n) =
    let z : ℤ = quarter_reading 32 S n in
    omega (arith, above_most S n, if_most (counting S.hours n) (is_above S.table z), digit_most S.table z)

-- a count is no large number
pub count_reads : (S : DaySetting) {x : ℕ} (n : ℕ) → n ≤ 96 → x ≡ above_of S n → signed 32 x ≡ pos (above_of S n)
count_reads S n h e = ap (signed 32) e ∙ signed_low 32 (above_of S n) (omega (arith, above_most S n))
