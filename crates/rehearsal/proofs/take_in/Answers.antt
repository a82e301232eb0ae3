use mathlib.Core.Path.{◌≡◌, refl}
use mathlib.Core.List.{List}
use Prim.Native.Nat.{ℕ, ◌<◌}
use lib.ListN.{drop}
use Rattle.std.specs.Prelude.{true}
use Rattle.text_lines.specs.Buffers.{Buffer}
use Rattle.text_lines.specs.Input.{cut_is, cut_from}
use Rattle.text_lines.specs.Answers.{held, piece}
use Rattle.text_lines.specs.declared.cutting.Stop.TheVariants.{Newline}
use Rattle.text_lines.specs.declared.cutting.Piece.{Piece}
use Rattle.text_lines.proofs.Chunks.{left, less_left}
use Rattle.rehearsal.proofs.take_in.Goals as goal

smaller : (s : List ℕ) (p q : Piece) (n : ℕ) (line : Buffer) → p.stop ≡ Newline n → piece q ≡ cut_from n (drop n s) line
    → left s (piece q) < left s (piece p)
smaller s p q n line e k = rw e (less_left s (cut_is true n (held p.line)) (piece q) line refl k)

pub loop-piece-smaller : goal.loop-piece-smaller
loop-piece-smaller g c =
    smaller c.args.chunk.now c.loop-piece.piece c.cut-piece-in-Newline.result c.in-Newline.next (held c.new.result) c.in-Newline.is
    c.cut-piece-in-Newline.ensures
