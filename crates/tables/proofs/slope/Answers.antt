use native.Mathlib.Omega.{arith}
use Rattle.tables.proofs.Slopes.{slope_level, quotient_small, fallen_fits, risen_is, fallen_is}
use Rattle.tables.proofs.slope.Goals as goal

-- ---- what is returned
pub returns-then-next_r-r : goal.returns-then-next_r-r
returns-then-next_r-r c = slope_level c.args.r c.args.c c.args.next_r c.args.next_c (omega arith)

pub returns-then-next_c-c : goal.returns-then-next_c-c
returns-then-next_c-c c =
    let s = c in
    fallen_is s.args.r s.args.c s.args.next_r s.args.next_c (quotient_small _ _ (omega arith)) (omega arith) (omega arith)

pub returns-else-next_c-c : goal.returns-else-next_c-c
returns-else-next_c-c c =
    let s = c in
    risen_is s.args.r s.args.c s.args.next_r s.args.next_c (quotient_small _ _ (omega arith)) (omega arith) (omega arith)

pub overflow_cast-result : goal.overflow_cast-result
overflow_cast-result c = record { sfits = quotient_small _ _ (omega arith) }

pub overflow_sub-result : goal.overflow_sub-result
overflow_sub-result c =
    let s = c in
    fallen_fits s.args.r s.args.c s.args.next_r s.args.next_c (quotient_small _ _ (omega arith))

pub overflow_cast-result-else-next_c-c : goal.overflow_cast-result-else-next_c-c
overflow_cast-result-else-next_c-c c = record { sfits = quotient_small _ _ (omega arith) }
