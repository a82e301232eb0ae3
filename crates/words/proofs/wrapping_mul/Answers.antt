use Rattle.std.proofs.Common.{ℕ, ◌*◌, ◌%◌, ◌^◌, ap₂}
use Rattle.words.specs.Words.{mul}
use Rattle.words.proofs.wrapping_mul.Goals as goal

pub returns : goal.returns
unfolding mul
returns c = ap₂ (λ (x y : ℕ). x * y % 2 ^ 32) c.from.ensures c.from-2.ensures
