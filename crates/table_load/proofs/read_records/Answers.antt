use Rattle.std.proofs.Common.{◌≡◌, ◌%◌, ◌<◌, ◌≤◌, length, sym, ◌∙◌, rules, arith}
use Rattle.std.proofs.lemmas.Result.{err_from_is_err_and}
use Rattle.tables.proofs.Rules.{none_over, some_over}
use Rattle.table_load.specs.Loading.{records}
use Rattle.table_load.proofs.Reading.{cut_short, mark_read, count_read, value_read, mark_wrong, go_on, two_more, all_right, all_rows}
use Rattle.table_load.proofs.read_records.Goals as goal

pub returns-then-not-is_empty : goal.returns-then-not-is_empty
returns-then-not-is_empty c =
    (cut_short _ (some_over c.is_empty.ensures c.if-not-is_empty.true c.as_chunks.ensures.back_len), search rules)

pub loop-k-init : goal.loop-k-init
loop-k-init c = record { marks_left = search rules; rows_left = search rules }

pub returns-in_err-r : goal.returns-in_err-r
returns-in_err-r c =
    let p = err_from_is_err_and c.from_residual.result c.from_residual.ensures.1 in
    let t = c.args.text.now in
    let all : length t % 6 ≡ 0 = none_over c.is_empty.ensures c.if-not-is_empty.false c.as_chunks.ensures.back_len in
    let left : c.loop-k.k < records t = omega (arith, c.as_chunks.ensures.front_len) in
    let read = c.in_err-r.ensures in
    rw (p.1, p.2) (
      mark_wrong t all c.loop-k.k c.loop-k.invariant.marks_left left
          (sym (mark_read t c.loop-k.k left c.as_chunks.ensures.front) ∙ read.0),
      read.1,
    )

pub loop-k-preserved : goal.loop-k-preserved
loop-k-preserved c =
    let t = c.args.text.now in
    let k = c.loop-k.k in
    let all : length t % 6 ≡ 0 = none_over c.is_empty.ensures c.if-not-is_empty.false c.as_chunks.ensures.back_len in
    let left : k < records t = omega (arith, c.as_chunks.ensures.front_len) in
    let cut = c.as_chunks.ensures.front in
    let read = c.in_ok-r.ensures in
    record {
      marks_left = go_on t all k c.loop-k.invariant.marks_left left (sym (mark_read t k left cut) ∙ read.0);
      rows_left = rw (c.put_word-in-loop-k.ensures, c.put_word.ensures, read.1, read.2, count_read t k left cut, value_read t k left cut)
          (two_more t (records t) k left c.loop-k.table ∙ c.loop-k.invariant.rows_left);
    }

pub returns : goal.returns
returns c =
    let t = c.args.text.now in
    let all : length t % 6 ≡ 0 = none_over c.is_empty.ensures c.if-not-is_empty.false c.as_chunks.ensures.back_len in
    let done : records t ≤ c.loop-k.k = omega (arith, c.as_chunks.ensures.front_len) in (
      all_right t all c.loop-k.k c.loop-k.invariant.marks_left done,
      all_rows t (records t) c.loop-k.k c.loop-k.table c.args.table.now done c.loop-k.invariant.rows_left,
    )
