use Rattle.std.proofs.Common.{◌≡◌, ◌&&◌, leb, length, ◌%◌, rules}
use Rattle.tables.proofs.Rules.{odd_words, none_over, some_over, miscounted, counted}
use Rattle.tables.proofs.Rows.{misfit, by_rise}
use Rattle.tables.proofs.keeps_rules.Goals as goal

pub returns-then-not-is_empty : goal.returns-then-not-is_empty
returns-then-not-is_empty c =
    odd_words _ (some_over c.is_empty.ensures c.if-not-is_empty.true c.as_chunks.ensures.back_len)

pub returns-then-not-contains : goal.returns-then-not-contains
returns-then-not-contains c =
    let even : length c.args.table.now % 2 ≡ 0 = none_over c.is_empty.ensures c.if-not-is_empty.false c.as_chunks.ensures.back_len in
    let n = length c.as_chunks.result.0.now in
    let between : c.contains.result ≡ (leb 2 n && leb n 16) = search rules in
    miscounted _ even c.as_chunks.ensures.front_len between c.if-not-contains.true

pub returns-then-each_fits : goal.returns-then-each_fits
returns-then-each_fits c =
    let even : length c.args.table.now % 2 ≡ 0 = none_over c.is_empty.ensures c.if-not-is_empty.false c.as_chunks.ensures.back_len in
    let n = length c.as_chunks.result.0.now in
    let between : c.contains.result ≡ (leb 2 n && leb n 16) = search rules in
    let few = counted _ between c.if-not-contains.false in
    by_rise _ c.as_chunks.ensures.front c.as_chunks.ensures.front_len even c.each_fits.ensures c.if-each_fits.true c.counts_rise.ensures few.0 few.1

pub returns-else-each_fits : goal.returns-else-each_fits
returns-else-each_fits c =
    let even : length c.args.table.now % 2 ≡ 0 = none_over c.is_empty.ensures c.if-not-is_empty.false c.as_chunks.ensures.back_len in
    misfit _ c.as_chunks.ensures.front c.as_chunks.ensures.front_len even c.each_fits.ensures c.if-each_fits.false
