-- The code's types as the document's: what a line asks for, what a short text holds, what a cut gives. Assumes nothing.
use Rattle.std.specs.Prelude.{ℕ, true, false, Option, None, Some}
use Rattle.text_lines.specs.declared.parsing.Mode.{Mode}
use Rattle.text_lines.specs.declared.parsing.Mode.TheVariants.{Exact, OneBit}
use Rattle.text_lines.specs.declared.parsing.Request.{Request}
use Rattle.text_lines.specs.declared.short.Short.{Short}
use Rattle.text_lines.specs.declared.cutting.Stop.{Stop}
use Rattle.text_lines.specs.declared.cutting.Stop.TheVariants.{Newline, ChunkEnd}
use Rattle.text_lines.specs.declared.cutting.Piece.{Piece}
use Rattle.text_lines.specs.Lines.{Parsed, refusing, asking}
use Rattle.text_lines.specs.Buffers.{Buffer, buffer}
use Rattle.text_lines.specs.Input.{Cut, cut_is}

-- "mode 0 exact, 1 one-bit"
abbrev pub mode_number : Mode → ℕ
mode_number Exact = 0
mode_number OneBit = 1

-- what the code found in a line: "Other lines, or over 64 bytes, print "refused 0""
abbrev pub asked : Option Request → Parsed
asked (Some r) = asking (mode_number r.mode) r.reading
asked None = refusing 0

-- all that a short text holds
abbrev pub held : {N : ℕ} → Short N → Buffer
held t = buffer t.bytes t.len

-- a line that was cut: ended by a newline, with the place behind it; or left open, with the place where the chunk ended
abbrev pub cut_at : Stop → Buffer → Cut
cut_at (Newline next) line = cut_is true next line
cut_at (ChunkEnd end) line = cut_is false end line

abbrev pub piece : Piece → Cut
piece p = cut_at p.stop (held p.line)
