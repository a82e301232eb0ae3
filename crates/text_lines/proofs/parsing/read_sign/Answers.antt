use Rattle.text_lines.proofs.Reading.{by_minus}
use Rattle.text_lines.proofs.parsing.read_sign.Goals as goal

pub returns-in-Some : goal.returns-in-Some
returns-in-Some c =
    let e = c.in-Some.ensures.cases in
    rw (by_minus _ c.args.rest.now, e.0, ← e.1) c.read_digits.ensures

pub returns-in-None : goal.returns-in-None
returns-in-None c = rw (by_minus _ c.args.rest.now, c.in-None.ensures.cases) c.read_digits-in-None.ensures
