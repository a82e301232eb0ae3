use Rattle.jobs.proofs.Conditions.{no_words, too_many, by_fours}
use Rattle.job_check.proofs.ill_sized.Goals as goal

pub returns-then-n-eq0 : goal.returns-then-n-eq0
returns-then-n-eq0 c = no_words _ c.if-n-eq0.true

pub returns-then-n-gt256 : goal.returns-then-n-gt256
returns-then-n-gt256 c = too_many _ c.if-n-eq0.false c.if-n-gt256.true

pub returns : goal.returns
returns c = by_fours _ c.if-n-eq0.false c.if-n-gt256.false
