use Rattle.std.proofs.Common.{List, sym, ap, ◌∙◌}
use Rattle.gates.specs.Gates.{Gate}
use Rattle.gates.specs.Codes.{fetched}
use Rattle.program_fetch.proofs.Stands.{one_gated, none_gated}
use Rattle.program_fetch.proofs.pieces.single_gate.Goals as goal

pub returns-then-o : goal.returns-then-o
returns-then-o c ps =
    c.one_gate.ensures ∙ ap (λ (gs : List Gate). fetched gs c.args.i) (sym (one_gated 32 ps c.args.o c.if-o.true))

pub returns : goal.returns
returns c ps = c.past.ensures ∙ none_gated 32 ps c.args.o c.if-o.false c.args.i
