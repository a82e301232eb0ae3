use Rattle.std.proofs.Common.{arith}
use Rattle.words.specs.Words.{add}
use Rattle.words.proofs.Words.{sub_of}
use Rattle.job_add.proofs.Written.{sum, difference}
use Rattle.job_add.proofs.write_target.Goals as goal

pub returns-then-o : goal.returns-then-o
unfolding add
returns-then-o c =
    let v = c in
    let t = v in
    let y = t in
    let s = y.args in
    sum 32 s.o s.lane.now _ _ _ _ y.at-x.ensures y.at-y.ensures c.put.ensures t.if-o.true v.wrapping_add_u32.ensures.value

pub returns : goal.returns
unfolding add
returns c =
    let v = c in
    let t = v in
    let y = t in
    let s = y.args in
    difference 32 s.o s.lane.now _ _ _ _ y.at-x.ensures y.at-y.ensures c.put-2.ensures t.if-o.false
    (sub_of 32 v.wrapping_sub_u32.result y.at-y.result (omega arith) (omega arith) v.wrapping_sub_u32.ensures.value)
