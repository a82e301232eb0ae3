use Rattle.rehearsal_answer.proofs.Answers.{reading_asked, nothing_asked}
use Rattle.rehearsal_answer.proofs.rehearsed.Goals as goal

pub returns-in-Some : goal.returns-in-Some
returns-in-Some c =
    reading_asked c.args.line.now c.parse.result c.parse.ensures c.in-Some.request c.in-Some.is _ c.rehearse.ensures

pub returns-in-None : goal.returns-in-None
returns-in-None c =
    nothing_asked c.args.line.now c.parse.result c.parse.ensures c.in-None.is _ c.refusal_text.ensures
