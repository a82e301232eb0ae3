use Rattle.std.proofs.Common.{◌≡◌, refl, sym, arith, length}
use Rattle.std.proofs.lemmas.Slice.{put_mid-paste}
use Rattle.lamphiek.proofs.Packing.{masks_put}
use Rattle.lamphiek.proofs.layout.put_masks.Goals as goal

pub returns : goal.returns
returns c =
    let w = c.args.words.now in
    let k = c.args.masks in
    let first : length k.l1 ≡ 16 = omega (arith, c.well_formed) in
    let second : length k.l2 ≡ 16 = omega (arith, c.well_formed) in
    masks_put w k.l1 k.l2 _ _ (omega (arith, c.well_formed)) first second
    (put_mid-paste 0 16 w _ k.l1 16 c.copy_from_slice.ensures.after refl (sym first))
    (put_mid-paste 16 16 _ _ k.l2 16 c.copy_from_slice-2.ensures.after refl (sym second))
