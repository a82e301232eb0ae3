use mathlib.Core.Path.{sym, ap, ◌∙◌}
use native.Mathlib.Omega.{arith}
use Prim.Native.Nat.{◌<◌, ◌^◌}
use Rattle.text_lines.specs.Lines.{asking}
use Rattle.text_lines.specs.Answers.{mode_number}
use Rattle.text_lines.proofs.Reading.{miscounted, not_digit, digit, ended, all, grown, bounded}
use Rattle.text_lines.proofs.Signs.{minus, plus}
use Rattle.text_lines.proofs.parsing.read_digits.Goals as goal

pub returns-then-is_empty : goal.returns-then-is_empty
returns-then-is_empty c = miscounted _ _ c.args.digits.now c.is_empty.result c.is_empty.ensures c.then-is_empty.either

pub returns-then-not-is_ascii_digit : goal.returns-then-not-is_ascii_digit
returns-then-not-is_ascii_digit c =
    let l = c.loop-digit in
    all (mode_number c.args.mode) c.args.minus l.size c.args.digits.now l.digit-index
    (sym c.is_empty.ensures ∙ c.if-is_empty.false) c.if-digits-gt10.false l.invariant.same
    (not_digit _ _ l.size c.args.digits.now l.digit-index c.loop-digit-test.true
    (sym c.is_ascii_digit.ensures.value ∙ c.if-not-is_ascii_digit.true))

pub loop-digit-preserved : goal.loop-digit-preserved
loop-digit-preserved c =
    let l = c.loop-digit in
    let t = c.loop-digit-test.true in
    let u = sym c.is_ascii_digit.ensures.value ∙ c.if-not-is_ascii_digit.false in
    record {
      few = grown l.size c.from.result l.digit-index l.invariant.few
          (omega (arith, c.from.ensures, c.if-not-is_ascii_digit.ensures.cases));
      same = rw c.from.ensures (sym (digit _ _ l.size c.args.digits.now l.digit-index t u) ∙ l.invariant.same);
    }

pub returns-then-minus : goal.returns-then-minus
returns-then-minus c =
    let l = c.loop-digit in
    let few : l.size < 10 ^ 10 = bounded l.size l.digit-index _ l.auto.digit-index-end c.if-digits-gt10.false l.invariant.few in
    ap (asking (mode_number c.args.mode)) (minus l.size few c.args.minus c.if-minus.true)
    ∙ all (mode_number c.args.mode) c.args.minus l.size c.args.digits.now l.digit-index
    (sym c.is_empty.ensures ∙ c.if-is_empty.false) c.if-digits-gt10.false l.invariant.same
    (ended (mode_number c.args.mode) c.args.minus l.size c.args.digits.now l.digit-index c.loop-digit-test.false)

pub returns-else-minus : goal.returns-else-minus
returns-else-minus c =
    let l = c.loop-digit in
    let few : l.size < 10 ^ 10 = bounded l.size l.digit-index _ l.auto.digit-index-end c.if-digits-gt10.false l.invariant.few in
    ap (asking (mode_number c.args.mode)) (plus l.size few c.args.minus c.if-minus.false)
    ∙ all (mode_number c.args.mode) c.args.minus l.size c.args.digits.now l.digit-index
    (sym c.is_empty.ensures ∙ c.if-is_empty.false) c.if-digits-gt10.false l.invariant.same
    (ended (mode_number c.args.mode) c.args.minus l.size c.args.digits.now l.digit-index c.loop-digit-test.false)
