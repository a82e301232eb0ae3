use mathlib.Core.Path.{refl}
use Rattle.job_check.specs.Tally.{tallied}
use Rattle.job_check.proofs.cost.counts_of.Goals as goal

pub returns : goal.returns
unfolding tallied
returns c = refl
