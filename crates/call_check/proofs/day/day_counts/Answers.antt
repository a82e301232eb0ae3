use mathlib.Core.Path.{refl}
use native.Mathlib.Omega.{arith}
use Rattle.gates.specs.Costs.{plus}
use Rattle.programs.specs.Sizes.{times_cost}
use Rattle.jobs.specs.CostTable.{kind_costs, kind_cost}
use Rattle.days.specs.Day.{day_of}
use Rattle.days.proofs.Counts.{few_words}
use Rattle.call_check.proofs.day.day_counts.Goals as goal

pub overflow_mul-result : goal.overflow_mul-result
overflow_mul-result c = let s = c in omega (arith, few_words s.args.curve.deals s.args.n s.requires.0 s.requires.4)

pub overflow_add-result : goal.overflow_add-result
overflow_add-result c = let s = c in omega (arith, few_words s.args.curve.deals s.args.n s.requires.0 s.requires.4)

pub overflow_mul-result-2 : goal.overflow_mul-result-2
overflow_mul-result-2 c = let s = c in omega (arith, few_words s.args.curve.words s.args.n s.requires.1 s.requires.4)

pub overflow_add-result-2 : goal.overflow_add-result-2
overflow_add-result-2 c = let s = c in omega (arith, few_words s.args.curve.words s.args.n s.requires.1 s.requires.4)

pub overflow_mul-result-4 : goal.overflow_mul-result-4
overflow_mul-result-4 c = let s = c in omega (arith, few_words s.args.curve.a s.args.n s.requires.2 s.requires.4)

pub overflow_add-result-3 : goal.overflow_add-result-3
overflow_add-result-3 c = let s = c in omega (arith, few_words s.args.curve.a s.args.n s.requires.2 s.requires.4)

pub overflow_mul-result-5 : goal.overflow_mul-result-5
overflow_mul-result-5 c = let s = c in omega (arith, few_words s.args.curve.b s.args.n s.requires.3 s.requires.4)

pub overflow_add-result-4 : goal.overflow_add-result-4
overflow_add-result-4 c = let s = c in omega (arith, few_words s.args.curve.b s.args.n s.requires.3 s.requires.4)

pub returns : goal.returns
unfolding day_of plus times_cost kind_cost kind_costs
returns c = refl
