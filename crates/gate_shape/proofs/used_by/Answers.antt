use Rattle.gates.specs.Codes.{step_of}
use Rattle.gates.specs.declared.Shape.TheVariants.{Local, Dealing, Product, Undealt}
use Rattle.gate_shape.proofs.Uses.{used_there}
use Rattle.gate_shape.proofs.used_by.Goals as goal

pub returns-in-Local : goal.returns-in-Local
returns-in-Local c = used_there (step_of 32 c.args.g) _ Local c.shape_of.ensures
    c.in-Local.is

pub returns-in-Dealing : goal.returns-in-Dealing
returns-in-Dealing c = used_there (step_of 32 c.args.g) _ (Dealing _) c.shape_of.ensures
    c.in-Dealing.is

pub returns-in-Product : goal.returns-in-Product
returns-in-Product c = used_there (step_of 32 c.args.g) _ (Product _) c.shape_of.ensures
    c.in-Product.is

pub returns-in-Undealt : goal.returns-in-Undealt
returns-in-Undealt c = used_there (step_of 32 c.args.g) _ (Undealt _) c.shape_of.ensures
    c.in-Undealt.is
