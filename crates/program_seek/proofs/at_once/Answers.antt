use Rattle.program_seek.proofs.ByKind.{once, not_once}
use Rattle.program_seek.proofs.at_once.Goals as goal

pub returns-then-n-eq0 : goal.returns-then-n-eq0
returns-then-n-eq0 c = let p = once 32 _ _ _ _ c.if-n-eq0.true in record { product = p.0; refresh = p.1 }

pub returns-else-n-eq0 : goal.returns-else-n-eq0
returns-else-n-eq0 c = let p = not_once 32 _ _ _ _ c.if-n-eq0.false in record { product = p.0; refresh = p.1 }
