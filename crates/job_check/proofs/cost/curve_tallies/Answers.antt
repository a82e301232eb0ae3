use Rattle.job_check.proofs.Tallies.{exact_tally, one_bit_tally}
use Rattle.job_check.proofs.cost.curve_tallies.Goals as goal

pub returns : goal.returns
returns c = (exact_tally _ c.requires, one_bit_tally _ c.requires)
