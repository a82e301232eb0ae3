-- Document 01's bold cases, and R-1's: cited from demands 2 and 3, and computed. Assumes nothing.
use mathlib.Core.Path.{◌≡◌, refl, sym, ap, ◌∙◌}
use mathlib.Core.Bool.{Bool, true, false, ◌&&◌}
use mathlib.Core.List.{List, [], ◌∷◌, map}
use Prim.Native.Nat.{ℕ, zero, suc, ◌^◌, ◌≤◌}
use native.Mathlib.Omega.{arith}
use lib.Dec.{T, lit<}
use lib.IntN.{ℤ, pos, negsuc, neg_ℤ}
use lib.Signed.{le_z, lt_z, le_z_yes, lt_z_yes}
use lib.ListN.{get_or}
use Rattle.words.specs.Words.{add, sub, mul, bit, shr}
use Rattle.words.specs.Signed.{floor, signed, wrap, shr_signed}
use Rattle.words.proofs.Words.{sub_lt}
use Rattle.words.proofs.Signed.{wrap_signed}
use Rattle.truncations.specs.Truncation.{bit_number, one_bit}
use Rattle.tables.specs.Table.{rows, slope, house}
use Rattle.curves.specs.Curve.{relu, segments, scaled, last_count, slope_after, coefficient, relu_word, word_sum, word_curve, above_last}
use Rattle.curves.specs.Curve.{saturated}
use Rattle.programs.specs.Opens.{truncated, curve_value, values, order_value}
use Rattle.runs.specs.Runs.{Setting, staged, World}
use Rattle.runs.specs.Orders.{order_of, refresh_mask, source_value, source_mask, second_value, reading, opens, Finishes}
use Rattle.demands.specs.Demand3.{Y_of, Exact, Covered}
use Rattle.demands.specs.ByHand.{curve_cases, above_cases, CurveOpens, Truncates, Each, house_Y, gives, ByHand}
use Rattle.demands.proofs.Demand3.{demand3}
use Rattle.demands.proofs.Demand2.{demand2}

-- the house table's last row
abbrev house_last : ℕ
house_last = last_count (rows house)

both : (a b : Bool) → T (a && b) → T a × T b
both true true t = (tt, tt)
both true false t = absurd t
both false b t = absurd t

-- ---- in a run

module _ (S : Setting) (q : ℕ) (v : World) (F : Finishes 32 (staged 32 S) q v) where
  -- a curve opens the floor of its Y up to the last row, and -1 above it
  curve_case : (x : ℤ) → T (le_z (neg_ℤ (pos (2 ^ 30))) x && le_z x (pos house_last)) → Exact S q → S.table ≡ house → reading 32 S q ≡ x
      → opens 32 S v q ≡ (0, floor (house_Y x) 4096)
  unfolding Y_of
  curve_case x h e t r =
      demand3.exact S q v F e (covers h) ∙ (λ i. (0, floor (scaled (rows (t i)) (r i)) 4096))
    where
      covers : T (le_z (neg_ℤ (pos (2 ^ 30))) x && le_z x (pos house_last)) → Covered S q
      covers h =
          let p = both (le_z (neg_ℤ (pos (2 ^ 30))) x) (le_z x (pos house_last)) h in
          record { from_low = rw r (le_z_yes p.0); to_last = rw (r, t) (le_z_yes p.1) }

  above_case : (x : ℤ) → T (lt_z (pos house_last) x) → (order_of S q).kind ≡ 10 → S.table ≡ house → reading 32 S q ≡ x
      → opens 32 S v q ≡ (0, negsuc 0)
  above_case x h k t r = demand3.above S q v F k (rw (r, t) (lt_z_yes h))

  -- the word of the source's reading
  source_is : (x : ℤ) → reading 32 S q ≡ x → source_value 32 S q ≡ wrap 32 x
  unfolding reading
  source_is x r = sym (wrap_signed 32 _ (sub_lt 32 _ _)) ∙ ap (wrap 32) r

  -- a truncation opens its kind's value of that word and the mask
  truncation_case : (kind k : ℕ) (x : ℤ) (L : ℕ) → Truncates kind k S q → reading 32 S q ≡ x → source_mask 32 S q ≡ L
      → opens 32 S v q
      ≡ (0, signed 32 (get_or (values 32 (rows S.table) k (wrap 32 x) (second_value 32 S q) L (refresh_mask 32 S q)) kind 0))
  unfolding order_value
  truncation_case kind k x L t r l =
      demand2.order_opens 32 (lit< tt) S q v F
      ∙ (λ i. (
        0,
        signed 32
            (get_or (values 32 (rows S.table) (t.shift i) (source_is x r i) (second_value 32 S q) (l i) (refresh_mask 32 S q))
            (t.is_kind i) 0),
      ))

-- ---- case by case

abbrev inside : ℤ × ℤ → Bool
inside c = le_z (neg_ℤ (pos (2 ^ 30))) c.0 && le_z c.0 (pos house_last)

abbrev floored : ℤ × ℤ → ℤ
floored c = floor (house_Y c.0) 4096

curves_open : (cs : List (ℤ × ℤ)) → map inside cs ≡ map (λ c. true) cs → map floored cs ≡ map (λ c. c.1) cs → Each CurveOpens cs
curves_open [] e f = tt
curves_open (c ∷ cs) e f =
    let in_here : inside c ≡ true = cc in
    let here : floored c ≡ c.1 = cc in
    let in_rest : map inside cs ≡ map (λ c. true) cs = cc in
    let rest : map floored cs ≡ map (λ c. c.1) cs = cc in (
      λ S q v F k t r. curve_case S q v F c.0 (rw in_here tt) k t r
          ∙ ap {B = ℕ × ℤ} (λ (y : ℤ). (0, y)) here,
      curves_open cs in_rest rest,
    )

aboves_defined : (mode : ℕ) → mode ≤ 1 → map (λ c. gives 10 mode c.0 0) above_cases ≡ map (λ c. c.1) above_cases
unfolding order_value values curve_value truncated saturated above_last last_count one_bit bit_number shr_signed signed floor wrap add sub mul
    shr bit rows house slope relu word_curve word_sum relu_word coefficient slope_after
aboves_defined zero h = refl
aboves_defined (suc zero) h = refl
aboves_defined (suc (suc m)) h = absurd (omega arith)

pub by_hand : ByHand
unfolding order_value values curve_value truncated saturated above_last last_count one_bit bit_number shr_signed signed floor wrap add sub mul shr bit rows house slope
    relu segments scaled word_curve word_sum relu_word coefficient slope_after
by_hand =
    record {
      curves = curves_open curve_cases refl refl;
      aboves = (
        λ S q v F k t r. above_case S q v F (pos 3573) tt k t r,
        (λ S q v F k t r. above_case S q v F (pos 5000) tt k t r, (λ S q v F k t r. above_case S q v F (pos 1073741823) tt k t r, tt)),
      );
      one_bits = (
        λ S q v F t r l. truncation_case S q v F 7 2 (pos 5) 2 t r l,
        (λ S q v F t r l. truncation_case S q v F 7 2 (pos 5) 3 t r l, tt),
      );
      exacts = (
        λ S q v F t r. truncation_case S q v F 8 1 (negsuc 4) _ t r refl,
        (λ S q v F t r. truncation_case S q v F 8 31 (negsuc 0) _ t r refl, tt),
      );
      curves_defined = refl;
      aboves_defined = aboves_defined;
      one_bits_defined = refl;
      exacts_defined = refl;
      floors = refl;
      sums = refl;
      remainder = refl;
    }
