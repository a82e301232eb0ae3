use native.Mathlib.Omega.{arith}
use Rattle.gates.specs.Codes.{step_of}
use Rattle.gates.proofs.Uses.{few_used}
use Rattle.walks.proofs.Dealers.{counts_behind}
use Rattle.dealer.proofs.preparing.behind.Goals as goal

pub overflow_add-result : goal.overflow_add-result
overflow_add-result c =
    omega (arith, few_used (step_of 32 c.args.g) _ c.used_by-more.ensures, c.requires)

pub overflow_add-result-2 : goal.overflow_add-result-2
overflow_add-result-2 c =
    omega (arith, few_used (step_of 32 c.args.g) _ c.used_by-more.ensures, c.requires)

pub overflow_add-result-3 : goal.overflow_add-result-3
overflow_add-result-3 c =
    omega (arith, few_used (step_of 32 c.args.g) _ c.used_by-more.ensures, c.requires)

pub returns : goal.returns
returns c =
    λ A B l1 l2 buf. counts_behind A B (step_of 32 c.args.g) _ _ c.used_by-more.ensures
