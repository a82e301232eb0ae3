-- What is proved of a calendar's opening hours. Assumes nothing.
use mathlib.Core.Path.{◌≡◌, refl, sym, ap, ◌∙◌}
use mathlib.Core.Bool.{Bool, true, false}
use mathlib.Core.List.{List}
use mathlib.Core.Logic.{◌↔◌, ◌≢◌}
use Prim.Native.Nat.{ℕ, zero, suc, ◌+◌, ◌*◌, ◌≤◌, ◌<◌}
use native.Mathlib.Omega.{arith}
use borrow.Author.Tests.{le-leb}
use Rattle.calendars.specs.Answers.{Counted}
use Rattle.calendars.specs.Ranges.{digit}
use Rattle.calendars.specs.Calendar.{sound, counts, counted_quarters, calendar_number, factor}
use Rattle.calendars.specs.Quarters.{held, tabled}
use Rattle.calendars.specs.Answers.{refused, accepted, counted}
use Rattle.calendars.specs.Hours.{Sound, Counts, HoursNumbered, unsound, closed, opened}
use Rattle.calendars.specs.OpeningHours.{OpeningHours}
use Rattle.calendars.proofs.Tests.{Found, number_found, found_number}
use Rattle.calendars.proofs.Counting.{number_le, number_all, held_where, factor_bound, factor_above, whole_factor, answered, turned}
use Rattle.calendars.proofs.Calendars.{rules, quarter}
use Rattle.calendars.proofs.Answering.{number_16, number_17, number_0}

false_true : false ≡ true → ⊥
false_true e = let z : ◌≡◌ {A = ℕ} 0 1 = ap digit e in omega arith

zero_or_not : (n : ℕ) (P : Type 0) → (n ≡ 0 → P) → ((n ≡ 0 → ⊥) → P) → P
zero_or_not zero P f g = f refl
zero_or_not (suc n) P f g = g (λ z. absurd (omega arith))

untested : (b : Bool) → (b ≡ true → ⊥) → b ≡ false
untested true h = absurd (h refl)
untested false h = refl

module _ (c : List ℕ) (d : ℕ) where
  abbrev total : ℕ
  total = counted_quarters c d

  abbrev num : ℕ
  num = calendar_number c d

  -- ---- the check's number

  counting : (q : ℕ) → q < 96 → Counts c d q → total ≡ 0 → ⊥
  counting q l o z =
      let a : 0 + q ≡ q = omega arith in
      let p : 0 < total = found_number (counts c d) 0 96 q l (rw a ((quarter c d q).1 o)) in
      omega arith

  counting_quarter : (total ≡ 0 → ⊥) → (q : ℕ) × (q < 96) × Counts c d q
  counting_quarter z =
      let w : Found (counts c d) 0 96 = number_found (counts c d) 0 96 z in
      let a : 0 + w.0 ≡ w.0 = omega arith in
      (w.0, w.1, (quarter c d w.0).0 (rw a at w.2))

  numbered : HoursNumbered c d num
  numbered = go (sound c d) refl
    where
      open_day : sound c d ≡ true → (total ≡ 0 → ⊥) → HoursNumbered c d num
      open_day e z = let w = counting_quarter z in rw (number_0 c d e z) (opened ((rules c d).0 e) w.0 w.1 w.2)

      closed_day : sound c d ≡ true → total ≡ 0 → HoursNumbered c d num
      closed_day e z = rw (number_17 c d e z) (closed ((rules c d).0 e) (λ q l o. counting q l o z))

      go : (b : Bool) → sound c d ≡ b → HoursNumbered c d num
      go true e = zero_or_not total (HoursNumbered c d num) (closed_day e) (open_day e)
      go false e = rw (number_16 c d e) (unsound (λ s. false_true (sym e ∙ (rules c d).1 s)))

  has_number : (n : ℕ) → HoursNumbered c d n → num ≡ n
  has_number _ (unsound h) = number_16 c d (go (sound c d) refl)
    where
      go : (b : Bool) → sound c d ≡ b → sound c d ≡ false
      go true e = absurd (h ((rules c d).0 e))
      go false e = e
  has_number _ (closed s h) =
      let z : total ≡ 0 = zero_or_not total (total ≡ 0) (λ z. z) (λ z. let w = counting_quarter z in absurd (h w.0 w.1 w.2)) in
      number_17 c d ((rules c d).1 s) z
  has_number _ (opened s q l o) = number_0 c d ((rules c d).1 s) (counting q l o)

  -- ---- the answer

  answers : (counted c d).number ≡ num
  answers = zero_or_not num ((counted c d).number ≡ num) (λ z. rw (answered c d z) (sym z)) (λ z. rw (turned c d z))

  accepts : (counted c d).number ≡ 0 → counted c d ≡ accepted c d
  accepts e = answered c d (sym answers ∙ e)

  refusal : (counted c d).number ≢ 0 → counted c d ≡ refused (counted c d).number
  refusal h = turned c d (λ z. h (answers ∙ z)) ∙ ap refused (sym answers)

  bits : (counted c d).number ≡ 0 → (q : ℕ) → q < 96 → (held (counted c d).quarters q ≡ true) ↔ Counts c d q
  bits e q l =
      let p : held (counted c d).quarters q ≡ counts c d q
      = ap (λ (r : Counted). held r.quarters q) (accepts e) ∙ held_where (counts c d) q l in
      (λ t. (quarter c d q).0 (sym p ∙ t), λ o. p ∙ (quarter c d q).1 o)

  how_many : (counted c d).number ≡ 0 → (counted c d).n ≡ total
  how_many e = ap (λ (r : Counted). r.n) (accepts e)

  -- ---- a day that is accepted

  opened_day : HoursNumbered c d 0 → total ≡ 0 → ⊥
  opened_day (opened s q l o) = counting q l o

  from_1_to_96 : num ≡ 0 → (1 ≤ total) × (total ≤ 96)
  from_1_to_96 e = (positive total (opened_day (rw e at numbered)), number_le (counts c d) 0 96)
    where
      positive : (n : ℕ) → (n ≡ 0 → ⊥) → 1 ≤ n
      positive zero h = absurd (h refl)
      positive (suc n) h = omega arith

  all_counted : Sound c d → ((q : ℕ) → q < 96 → Counts c d q) → (num ≡ 0) × (total ≡ 96) × (factor 96 ≡ 682)
  all_counted s o =
      let all : total ≡ 96 = number_all (counts c d) 0 96 (λ k l. (quarter c d (0 + k)).1 (o (0 + k) (omega arith))) in
      (number_0 c d ((rules c d).1 s) (λ z. let h : ◌≡◌ {A = ℕ} 96 0 = sym all ∙ z in omega arith), all, whole_factor)

factor_is : (n : ℕ) → 1 ≤ n → n ≤ 96 → (tabled n ≡ factor n) × (factor n * n ≤ 65536) × (65536 < (factor n + 1) * n)
unfolding tabled
factor_is n h l = (rw (le-leb n 96 l), factor_bound n h l, factor_above n h l)

pub opening_hours : OpeningHours
opening_hours = record {
  rules = rules;
  quarter = quarter;
  open_counts = λ c d q o. (quarter c d q).1 o;
  otherwise = λ c d q n. untested (counts c d q) (λ e. n ((quarter c d q).0 e));
  cleaning_only = λ c d q k n. untested (counts c d q) (λ e. n ((quarter c d q).0 e));
  numbered = numbered;
  one_number = λ c d m n p r. sym (has_number c d m p) ∙ has_number c d n r;
  answers = answers;
  refusal = refusal;
  bits = bits;
  how_many = how_many;
  from_1_to_96 = from_1_to_96;
  factor_is = factor_is;
  all_counted = all_counted;
}
