use Rattle.text_lines.proofs.Reading.{by_prefix, long, short}
use Rattle.text_lines.proofs.parsing.parse.Goals as goal

pub returns-then-line-gt64 : goal.returns-then-line-gt64
returns-then-line-gt64 c = long c.args.line.now c.if-line-gt64.true

pub returns-in-Some : goal.returns-in-Some
returns-in-Some c =
    let s = c.args.line.now in
    let e = c.in-Some.ensures.cases in
    rw (short s c.if-line-gt64.false, by_prefix s, e.0, ← e.1) c.read_sign.ensures

pub returns-in_err-strip_prefix-in-None : goal.returns-in_err-strip_prefix-in-None
returns-in_err-strip_prefix-in-None c =
    let s = c.args.line.now in
    let e = c.in_err-strip_prefix-in-None.ensures.cases in
    rw (c.from_residual.ensures, short s c.if-line-gt64.false, by_prefix s, c.in-None.ensures.cases, e)

pub returns-in_ok-strip_prefix-in-None : goal.returns-in_ok-strip_prefix-in-None
returns-in_ok-strip_prefix-in-None c =
    let s = c.args.line.now in
    let e = c.in_ok-strip_prefix-in-None.ensures.cases in
    rw (short s c.if-line-gt64.false, by_prefix s, c.in-None.ensures.cases, e.0, ← e.1) c.read_sign-in-None.ensures
