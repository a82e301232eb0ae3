use Rattle.shares.specs.Answers.{words}
use Rattle.shares.proofs.RoundTrip.{not_l1, not_l2, not_m, opened}
use Rattle.shares.proofs.reconstruct.Goals as goal

pub returns-then-s : goal.returns-then-s
returns-then-s c = not_l1 32 (words c.args.s) c.if-s.true

pub returns-then-s-2 : goal.returns-then-s-2
returns-then-s-2 c = not_l2 32 (words c.args.s) c.if-s.false c.if-s-2.true

pub returns-then-s-3 : goal.returns-then-s-3
returns-then-s-3 c =
    not_m 32 (words c.args.s) c.if-s.false c.if-s-2.false c.if-s-3.true

pub returns : goal.returns
returns c =
    opened 32 (words c.args.s) c.if-s.false
    c.if-s-2.false c.if-s-3.false
    _ _ _ c.wrapping_sub_u32-x.type_inv (record { sfits = c.signed_reading.type_inv })
    c.wrapping_add_u32-mask.ensures.value c.wrapping_sub_u32-x.ensures.value c.signed_reading.ensures
