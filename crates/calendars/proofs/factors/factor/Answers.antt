use Rattle.calendars.proofs.FactorTable.{factor_none, factor_many, factors, factor_at}
use Rattle.calendars.proofs.factors.factor.Goals as goal

pub returns-then-n-eq0 : goal.returns-then-n-eq0
returns-then-n-eq0 c = factor_none c.if-n-eq0.true

pub returns-then-n-gt96 : goal.returns-then-n-gt96
returns-then-n-gt96 c = factor_many _ c.if-n-gt96.true

pub returns : goal.returns
unfolding factors
returns c = factor_at _ c.if-n-eq0.false c.if-n-gt96.false
