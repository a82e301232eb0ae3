use Rattle.std.proofs.Common.{◌∙◌}
use Rattle.program_fetch.proofs.Cases.{end_exact, after_exact, end_refresh, end_one_bit, after_one_bit}
use Rattle.program_fetch.proofs.pieces.end_piece.Goals as goal

pub returns-then-i-lt-EXACT_GATES : goal.returns-then-i-lt-EXACT_GATES
returns-then-i-lt-EXACT_GATES c =
    let a = c.args in
    c.part.ensures ∙ end_exact a.source a.target a.mode a.i c.if-mode-eq0.true c.if-i-lt-EXACT_GATES.true

pub returns-then-mode-eq0 : goal.returns-then-mode-eq0
returns-then-mode-eq0 c =
    let a = c.args in
    c.last_piece.ensures ∙ after_exact a.source a.target a.mode a.i c.if-mode-eq0.true c.if-i-lt-EXACT_GATES.false

pub returns-then-i-eq0 : goal.returns-then-i-eq0
returns-then-i-eq0 c =
    let a = c.args in
    c.part-then-i-eq0.ensures ∙ end_refresh a.source a.target a.mode a.i c.if-mode-eq0.false c.if-i-eq0.true

pub returns-then-rest-lt-ONE_BIT_GATES : goal.returns-then-rest-lt-ONE_BIT_GATES
returns-then-rest-lt-ONE_BIT_GATES c =
    let a = c.args in
    c.part-then-rest-lt-ONE_BIT_GATES.ensures
    ∙ end_one_bit a.source a.target a.mode a.i c.if-mode-eq0.false c.if-i-eq0.false c.if-rest-lt-ONE_BIT_GATES.true

pub returns : goal.returns
returns c =
    let a = c.args in
    c.last_piece-2.ensures
    ∙ after_one_bit a.source a.target a.mode a.i c.if-mode-eq0.false c.if-i-eq0.false c.if-rest-lt-ONE_BIT_GATES.false
