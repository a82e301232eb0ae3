use Rattle.programs.specs.Orders.{kinds}
use Rattle.program_seek.proofs.ByKind.{above, of_kind, once_of, no_exchange}
use Rattle.program_seek.proofs.Placing.{told}
use Rattle.program_seek.proofs.seek.Goals as goal

pub returns-in_default : goal.returns-in_default
returns-in_default c = told _ _ _ _ (above 32 _ c.args.o _ c.in_default.ensures.1)

pub returns-in-Product : goal.returns-in-Product
returns-in-Product c =
    told _ _ _ _ (once_of 32 _ c.args.o _ _ c.in-Ok.ensures _ (c.at_once.ensures.product, c.at_once.ensures.refresh) c.in-Product.is)

pub returns-in-OneBit : goal.returns-in-OneBit
unfolding kinds
returns-in-OneBit c = told _ _ _ _ (of_kind 32 _ c.args.o _ _ c.in-Ok.ensures _ c.in-OneBit.is _ (c.one_bit_place.ensures _ _ _))

pub returns-in-Exact : goal.returns-in-Exact
unfolding kinds
returns-in-Exact c = told _ _ _ _ (of_kind 32 _ c.args.o _ _ c.in-Ok.ensures _ c.in-Exact.is _ (c.exact_place.ensures _ _ _))

pub returns-in-Relu : goal.returns-in-Relu
unfolding kinds
returns-in-Relu c = told _ _ _ _ (of_kind 32 _ c.args.o _ _ c.in-Ok.ensures _ c.in-Relu.is _ (c.relu_place.ensures _ _))

pub returns-in-Curve : goal.returns-in-Curve
unfolding kinds
returns-in-Curve c = told _ _ _ _ (of_kind 32 _ c.args.o _ _ c.in-Ok.ensures _ c.in-Curve.is _ (c.curve_place.ensures _ _))

pub returns-in-Add : goal.returns-in-Add
returns-in-Add c = told _ _ _ _ (no_exchange 32 _ c.args.o _ _ c.in-Ok.ensures c.in-Add.is)
