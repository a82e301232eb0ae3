-- A calendar's answer, with its refusal as the call's condition. Assumes nothing.
use mathlib.Core.Path.{◌≡◌, ap, ◌∙◌}
use Rattle.std.specs.Prelude.{Result, Ok, Err, MatchResult, IsErrAnd}
use Rattle.std.proofs.lemmas.Result.{err_from_is_err_and}
use Rattle.jobs.specs.declared.Condition.{Condition}
use Rattle.jobs.specs.Refusals.{number_of}
use Rattle.calendars.specs.declared.checks.CountedQuarters.{CountedQuarters}
use Rattle.calendars.specs.declared.checks.HoursError.{HoursError}
use Rattle.calendars.specs.Answers as Answers
use Rattle.call_check.specs.Days.{hours_found}

pub same_hours : (r : Result CountedQuarters HoursError) (s : Result CountedQuarters Condition)
    → MatchResult r (λ x. s ≡ Ok x) (λ e. IsErrAnd s (λ c. number_of c ≡ Answers.number_of e)) → hours_found s ≡ Answers.answer_of r
same_hours (Ok x) s m = ap hours_found m
same_hours (Err e) s m = let t = err_from_is_err_and s m in ap hours_found t.1 ∙ ap Answers.refused t.2
