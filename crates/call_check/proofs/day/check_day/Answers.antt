use mathlib.Core.Path.{refl, sym, ap, ◌∙◌}
use native.Mathlib.Omega.{arith}
use Rattle.jobs.specs.Job.{Fault}
use Rattle.jobs.specs.Refusals.{number_found}
use Rattle.jobs.proofs.Refusals.{numbered, exits_with}
use Rattle.call_check.specs.Needs.{needs_of}
use Rattle.call_check.proofs.Days.{no_day, bad_hours, few_quarters, no_rules, few_rows, few_counts, lists_day, day_found}
use Rattle.call_check.proofs.day.check_day.Goals as goal

pub returns-then-shares-ne-DAY_WORDS-clause-fault : goal.returns-then-shares-ne-DAY_WORDS-clause-fault
returns-then-shares-ne-DAY_WORDS-clause-fault c = no_day _ _ _ _ c.if-shares-ne-DAY_WORDS.true

pub returns-in_err-found-clause-fault : goal.returns-in_err-found-clause-fault
returns-in_err-found-clause-fault c =
    ap {B = Fault} (λ r. (number_found r, 0)) (exits_with c.from_residual.result c.from_residual.ensures.1)
    ∙ bad_hours _ _ _ c.if-shares-ne-DAY_WORDS.false _ c.in_err-found.ensures _ (numbered _)

pub returns-then-not-keeps_rules-clause-fault : goal.returns-then-not-keeps_rules-clause-fault
returns-then-not-keeps_rules-clause-fault c =
    no_rules _ _ _ c.if-shares-ne-DAY_WORDS.false _ c.in_ok-found.ensures refl _ (sym c.keeps_rules.ensures ∙ c.if-not-keeps_rules.true)

pub overflow_cast-table : goal.overflow_cast-table
overflow_cast-table c =
    omega (arith, few_rows _ _ _ c.if-shares-ne-DAY_WORDS.false _ c.in_ok-found.ensures refl (sym c.keeps_rules.ensures ∙ c.if-not-keeps_rules.false))

pub curve_counts-curve-requires : goal.curve_counts-curve-requires
curve_counts-curve-requires c =
    few_rows _ _ _ c.if-shares-ne-DAY_WORDS.false _ c.in_ok-found.ensures refl (sym c.keeps_rules.ensures ∙ c.if-not-keeps_rules.false)

pub day_counts-whole-requires : goal.day_counts-whole-requires
day_counts-whole-requires c =
    let f = few_counts _ _ _ c.if-shares-ne-DAY_WORDS.false _ c.in_ok-found.ensures refl (sym c.keeps_rules.ensures ∙ c.if-not-keeps_rules.false) _ c.curve_counts-curve.ensures in
    (f.0, f.1, f.2, f.3, few_quarters c.args.table.now _ _ c.if-shares-ne-DAY_WORDS.false _ c.in_ok-found.ensures refl)

pub returns-in_err-check_lists-clause-fault : goal.returns-in_err-check_lists-clause-fault
returns-in_err-check_lists-clause-fault c =
    ap {B = Fault} (λ r. (number_found r, 0)) (exits_with c.from_residual-in_err-check_lists.result c.from_residual-in_err-check_lists.ensures.1)
    ∙ lists_day _ _ _ c.if-shares-ne-DAY_WORDS.false _ c.in_ok-found.ensures refl (sym c.keeps_rules.ensures ∙ c.if-not-keeps_rules.false) _ c.curve_counts-curve.ensures _ _ _ _ _ _
    (c.needs_of.ensures ∙ ap (needs_of _) c.day_counts-whole.ensures) c.in_err-check_lists.ensures

pub returns : goal.returns
returns c =
    let kept = sym c.keeps_rules.ensures ∙ c.if-not-keeps_rules.false in record {
      fault = lists_day _ _ _ c.if-shares-ne-DAY_WORDS.false _ c.in_ok-found.ensures refl kept _ c.curve_counts-curve.ensures _ _ _ _ _ _
          (c.needs_of.ensures ∙ ap (needs_of _) c.day_counts-whole.ensures) c.in_ok-check_lists.ensures;
      day = day_found _ _ _ c.if-shares-ne-DAY_WORDS.false _ c.in_ok-found.ensures refl kept _ c.curve_counts-curve.ensures _ refl refl refl
          c.day_counts-whole.ensures;
    }
