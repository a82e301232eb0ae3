use Rattle.jobs.specs.Answers.{need}
use Rattle.job_leftover.proofs.need.Goals as goal

pub returns-in-ListA : goal.returns-in-ListA
unfolding need
returns-in-ListA c = rw c.in-ListA.is

pub returns-in-ListB : goal.returns-in-ListB
unfolding need
returns-in-ListB c = rw c.in-ListB.is
