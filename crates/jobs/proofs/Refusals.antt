-- Every condition has a number above 0, and what the exit of a `?` returns. Assumes nothing.
use mathlib.Core.Path.{◌≡◌, ap, ◌∙◌}
use Prim.Native.Nat.{◌<◌}
use native.Mathlib.Omega.{arith}
use Rattle.std.specs.Prelude.{Result, Err, IsErrAnd}
use Rattle.std.proofs.lemmas.Result.{err_from_is_err_and}
use Rattle.jobs.specs.declared.Condition.{Condition}
use Rattle.jobs.specs.declared.Condition.TheVariants.{OtherHost, IllSized, UnknownKind, UnknownRegister, IllOperand}
use Rattle.jobs.specs.declared.Condition.TheVariants.{ShortMasks, ShortDeals, NoPlace, AtEnd}
use Rattle.jobs.specs.declared.Condition.TheVariants.{IllDayList, UnsoundCalendar, NoQuarter, OtherPlaces}
use Rattle.jobs.specs.Refusals.{number_of}

above_0 : (c : Condition) → 0 < number_of c
above_0 OtherHost = omega arith
above_0 IllSized = omega arith
above_0 UnknownKind = omega arith
above_0 UnknownRegister = omega arith
above_0 IllOperand = omega arith
above_0 ShortMasks = omega arith
above_0 ShortDeals = omega arith
above_0 NoPlace = omega arith
above_0 AtEnd = omega arith
above_0 IllDayList = omega arith
above_0 UnsoundCalendar = omega arith
above_0 NoQuarter = omega arith
above_0 OtherPlaces = omega arith

pub numbered : (c : Condition) → number_of c ≡ 0 → ⊥
numbered c e = let h = above_0 c in omega (arith, h)

pub exits_with : {A E : Type 0} (r : Result A E) {e : E} → IsErrAnd r (λ d. d ≡ e) → r ≡ Err e
exits_with r h = let t = err_from_is_err_and r h in t.1 ∙ ap Err t.2
