use mathlib.Core.Path.{refl}
use native.Mathlib.Omega.{arith}
use Rattle.programs.specs.Sizes.{times_cost}
use Rattle.days.proofs.Counts.{few_words}
use Rattle.worker.proofs.day_place.used_by.Goals as goal

pub overflow_mul-result : goal.overflow_mul-result
overflow_mul-result c = omega (arith, few_words c.args.curve.deals c.args.n c.requires.0.0 c.requires.1)

pub overflow_mul-result-2 : goal.overflow_mul-result-2
overflow_mul-result-2 c = omega (arith, few_words c.args.curve.words c.args.n c.requires.0.1 c.requires.1)

pub overflow_mul-result-3 : goal.overflow_mul-result-3
overflow_mul-result-3 c = omega (arith, few_words c.args.curve.a c.args.n c.requires.0.2 c.requires.1)

pub overflow_mul-result-4 : goal.overflow_mul-result-4
overflow_mul-result-4 c =
    omega (arith, few_words c.args.curve.b c.args.n c.requires.0.3 c.requires.1)

pub returns : goal.returns
unfolding times_cost
returns c = refl
