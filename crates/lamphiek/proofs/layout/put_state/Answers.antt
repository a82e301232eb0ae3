use Rattle.std.proofs.Common.{◌≡◌, refl, sym, arith, length}
use Rattle.std.proofs.lemmas.Slice.{put_mid-paste}
use Rattle.lamphiek.proofs.Packing.{state_put}
use Rattle.lamphiek.proofs.layout.put_state.Goals as goal

pub returns : goal.returns
returns c =
    let w = c.args.words.now in
    let s = c.args.s in
    let m : length s.m ≡ 24 = omega (arith, c.well_formed) in
    let mask : length s.mask ≡ 24 = omega (arith, c.well_formed) in
    state_put w s.m s.mask _ _ s.order s.turn s.stored.a s.stored.b s.stored.deals (omega (arith, c.well_formed)) m mask
    (put_mid-paste 0 24 w _ s.m 24 c.copy_from_slice.ensures.after refl (sym m))
    (put_mid-paste 24 24 _ _ s.mask 24 c.copy_from_slice-2.ensures.after refl (sym mask))
