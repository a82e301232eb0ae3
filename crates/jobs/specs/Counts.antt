-- The code's counts as the definitions'. Assumes nothing.
use Rattle.gates.specs.Costs.{Cost, cost_of}
use Rattle.jobs.specs.declared.Counts.{Counts}

abbrev pub counted : Counts → Cost
counted x = cost_of x.deals x.words x.a x.b
