use Rattle.std.proofs.Common.{sym, ◌∙◌, arith}
use Rattle.std.proofs.lemmas.List.{length-take}
use Rattle.std.proofs.lemmas.Result.{err_from_is_err_and}
use Rattle.table_load.proofs.Reading.{two_to_sixteen_is, broken_13, answer_14, answer_15, answer_0}
use Rattle.table_load.proofs.load.Goals as goal

pub returns-in_err-read_records : goal.returns-in_err-read_records
returns-in_err-read_records c =
    let p = err_from_is_err_and c.from_residual.result c.from_residual.ensures.1 in
    let e = c.in_err-read_records.ensures in
    rw (p.1, p.2, e.1) (broken_13 _ e.0)

pub returns-then-not-two_to_sixteen : goal.returns-then-not-two_to_sixteen
returns-then-not-two_to_sixteen c = answer_14 _ c.in_ok-read_records.ensures.0 c.two_to_sixteen.ensures c.if-not-two_to_sixteen.true

pub slice_bounds-table-end : goal.slice_bounds-table-end
slice_bounds-table-end c = omega (arith, two_to_sixteen_is _ (sym c.two_to_sixteen.ensures ∙ c.if-not-two_to_sixteen.false))

pub slice_bounds-keeps_rules-end : goal.slice_bounds-keeps_rules-end
slice_bounds-keeps_rules-end c =
    let few = two_to_sixteen_is _ (sym c.two_to_sixteen.ensures ∙ c.if-not-two_to_sixteen.false) in
    simp length-take (omega (arith, few))

pub returns-then-not-keeps_rules : goal.returns-then-not-keeps_rules
returns-then-not-keeps_rules c =
    let r = c.in_ok-read_records.ensures in
    answer_15 _ r.0 c.two_to_sixteen.ensures c.if-not-two_to_sixteen.false r.1 c.keeps_rules.ensures c.if-not-keeps_rules.true

pub returns : goal.returns
returns c =
    let r = c.in_ok-read_records.ensures in
    answer_0 _ r.0 c.two_to_sixteen.ensures c.if-not-two_to_sixteen.false r.1 c.keeps_rules.ensures c.if-not-keeps_rules.false
