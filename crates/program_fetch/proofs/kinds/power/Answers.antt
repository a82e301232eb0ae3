use Rattle.std.proofs.Common.{ℕ, ◌*◌, ◌%◌, ◌^◌, ap, ◌∙◌, arith}
use Rattle.program_fetch.proofs.Powers.{shifted}
use Rattle.program_fetch.proofs.kinds.power.Goals as goal

pub returns : goal.returns
returns c = ap (λ (n : ℕ). 1 * 2 ^ n % 2 ^ 32) c.saturating_sub.ensures ∙ shifted 32 _ (omega arith)
