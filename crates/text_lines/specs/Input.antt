-- Document 01, "House table by hand": the input's lines, and how a chunk of it is cut into them. Assumes nothing.
use Rattle.std.specs.Prelude.{Bool, true, false, cond, List, [], ◌∷◌, ◌++◌, map}
use Rattle.std.specs.Prelude.{ℕ, zero, suc, ◌+◌, eqb, length, take, drop}
use Rattle.text_lines.specs.Buffers.{Buffer, filled, with_byte}

-- ---- the lines of the input

-- the lines that end in some bytes, and the line that these leave open
pub record Split : Type 0 where
  pub ended : List (List ℕ)
  pub open_line : List ℕ

abbrev pub split_is : List (List ℕ) → List ℕ → Split
split_is e o = record { ended = e; open_line = o }

-- a line before others
abbrev pub line_then : List ℕ → Split → Split
line_then line l = split_is (line ∷ l.ended) l.open_line

-- "one to a line": a newline (10) ends a line. The lines in some bytes, the first of them begun by what was read before
unfoldable pub lines_in : (before : List ℕ) → List ℕ → Split
lines_in before [] = split_is [] before
lines_in before (b ∷ s) = cond (eqb b 10) (line_then before (lines_in [] s)) (lines_in (before ++ (b ∷ [])) s)

-- "over 64 bytes": the 65th byte says so, and no more are kept of a line
abbrev pub kept : List ℕ → Buffer
kept line = filled 65 (take 65 line)

abbrev pub all_kept : Split → List Buffer × Buffer
all_kept s = (map kept s.ended, kept s.open_line)

-- ---- one cut

-- whether the line ended, where in the chunk the next one begins, and the line as far as it is read
pub record Cut : Type 0 where
  pub ended : Bool
  pub next : ℕ
  pub line : Buffer

abbrev pub cut_is : Bool → (next : ℕ) → (line : Buffer) → Cut
cut_is e n l = record { ended = e; next = n; line = l }

-- the bytes of a chunk from a place on, behind a line as far as it is read
unfoldable pub cut_from : (at : ℕ) → List ℕ → Buffer → Cut
cut_from at [] line = cut_is false at line
cut_from at (b ∷ s) line = cond (eqb b 10) (cut_is true (at + 1) line) (cut_from (at + 1) s (with_byte 65 line b))

-- ---- one cut after the other, as the program makes them

-- a line before those that are cut behind it; or, where none ends, the line that is left open
abbrev pub cut_then : Cut → List Buffer × Buffer → List Buffer × Buffer
cut_then c r = cond c.ended (c.line ∷ r.0, r.1) ([], c.line)

-- a chunk cut so many times from a place on; each line but the first begins where the one before it ended
unfoldable pub cuts : (times : ℕ) (chunk : List ℕ) (at : ℕ) → Buffer → List Buffer × Buffer
cuts zero chunk at line = ([], line)
cuts (suc n) chunk at line =
    let c : Cut = cut_from at (drop at chunk) line in
    cut_then c (cuts n chunk c.next (filled 65 []))

-- a whole chunk, cut once more than it can end lines
abbrev pub cut_chunk : (chunk : List ℕ) → Buffer → List Buffer × Buffer
cut_chunk chunk line = cuts (suc (length chunk)) chunk 0 line
