-- The check's number, and the answer of `counted`, case by case. Assumes nothing.
use mathlib.Core.Path.{◌≡◌, sym, ap, ◌∙◌}
use mathlib.Core.Bool.{Bool, true, false}
use mathlib.Core.List.{List}
use Prim.Native.Nat.{ℕ, ◌+◌}
use native.Mathlib.Omega.{arith}
use borrow.Author.Tests.{ne_eqb}
use Rattle.calendars.specs.declared.Quarters.{Quarters}
use Rattle.calendars.specs.Ranges.{number}
use Rattle.calendars.specs.Calendar.{sound, counts, counted_quarters, calendar_number}
use Rattle.calendars.specs.Quarters.{held, quarters_where}
use Rattle.calendars.specs.Answers.{refused, counted}
use Rattle.calendars.specs.Hours.{Sound}
use Rattle.calendars.proofs.Calendars.{rules}
use Rattle.calendars.proofs.Counting.{number_alike, held_where, answered}

module _ (c : List ℕ) (d : ℕ) where
  -- ---- the check's number

  pub number_16 : sound c d ≡ false → calendar_number c d ≡ 16
  unfolding calendar_number
  number_16 e = rw e

  pub number_17 : sound c d ≡ true → counted_quarters c d ≡ 0 → calendar_number c d ≡ 17
  unfolding calendar_number
  number_17 e z = rw (e, z)

  pub number_0 : sound c d ≡ true → (counted_quarters c d ≡ 0 → ⊥) → calendar_number c d ≡ 0
  unfolding calendar_number
  number_0 e z = rw (e, ne_eqb (counted_quarters c d) 0 z)

  -- ---- the function's returns

  module _ {b : Bool} (is_b : b ≡ sound c d) where
    pub broken : b ≡ false → refused 16 ≡ counted c d
    unfolding counted
    broken e = rw (number_16 (sym is_b ∙ e))

    module _ (ok : b ≡ true) where
      pub kept : Sound c d
      kept = (rules c d).0 (sym is_b ∙ ok)

      module _ {q : Quarters} (is_q : q ≡ quarters_where (counts c d)) {n : ℕ} (is_n : n ≡ number (held q) 0 96) where
        counted_are : counted_quarters c d ≡ n
        counted_are =
            sym (is_n ∙ ap (λ (x : Quarters). number (held x) 0 96) is_q
            ∙ number_alike (held (quarters_where (counts c d))) (counts c d) 0 96 (λ k l.
            let a : 0 + k ≡ k = omega arith in rw a (held_where (counts c d) k l)))

        pub none : n ≡ 0 → refused 17 ≡ counted c d
        unfolding counted
        none h = rw (number_17 (sym is_b ∙ ok) (counted_are ∙ h))

        pub some_count : (n ≡ 0 → ⊥) → record { number = 0; quarters = q; n = n } ≡ counted c d
        some_count h = rw (answered c d (number_0 (sym is_b ∙ ok) (λ z. h (sym counted_are ∙ z))), counted_are, ← is_q)
