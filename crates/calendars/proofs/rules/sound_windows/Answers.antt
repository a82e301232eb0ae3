use native.Mathlib.Nat.{sub-zero}
use Rattle.std.proofs.Common.{◌≡◌, true, false, refl, rules}
use Rattle.std.proofs.lemmas.Iterator.{cases_from_all, YieldsList-from_range}
use Rattle.calendars.specs.Calendar.{sound_window}
use Rattle.calendars.proofs.Tests.{every_answer}
use Rattle.calendars.proofs.rules.sound_windows.Goals as goal

pub returns : goal.returns
unfolding sound_window
returns c =
    let f = sound_window c.args.day.now c.args.at in
    let n = c.args.n in
    every_answer f n (cases_from_all _ _ _ (λ x. f x ≡ true) (λ x. f x ≡ false) c.all.ensures.ran (YieldsList-from_range 0 n n refl (sub-zero n))
    (λ x q k. search rules) (λ x q k. search rules))
