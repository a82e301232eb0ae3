use Rattle.jobs.proofs.Orders.{words_of, past_end}
use Rattle.job_order.proofs.order_at.Goals as goal

pub returns-then-job-i : goal.returns-then-job-i
returns-then-job-i c = let s = c.args in past_end s.job.now s.i c.if-job-i.true

pub returns : goal.returns
returns c =
    let s = c.args in
    words_of s.job.now s.i c.word_at-kind.ensures c.word_at-target.ensures
    c.word_at-source.ensures c.word_at-fourth.ensures
