-- Laws of cutting the input into lines. Assumes nothing.
use mathlib.Core.Path.{◌≡◌, refl, sym, ap, ◌∙◌}
use mathlib.Core.Logic.{◌⊎◌, inl, inr, ⊎_elim}
use mathlib.Core.Bool.{Bool, true, false, cond}
use mathlib.Core.List.{List, [], ◌∷◌, ◌++◌, map-append}
use Prim.Native.Nat.{ℕ, zero, suc, ◌+◌, ◌-◌, ◌≤◌, ◌<◌, max}
use native.Mathlib.Decide.{dec_lt}
use native.Mathlib.Numerals.{add-one}
use native.Mathlib.Omega.{arith}
use borrow.Author.Tests.{le-ltb, eq-eqb, ne_eqb}
use lib.Dec.{eqb, lit≤, lit<}
use lib.ListN.{length, get_or, take, drop, drop_of_length-le, length-append, length-drop}
use lib.Seq.{take_all, take-append-le, length-take-le, drop-cons, drop-drop}
use Rattle.std.proofs.lemmas.Bool.{true≢false}
use Rattle.text_lines.specs.Lines.{parsed}
use Rattle.text_lines.specs.Buffers.{Buffer, filled, with_byte}
use Rattle.text_lines.specs.Input.{Cut, cut_is, cut_from, cut_then, cuts, cut_chunk, Split, split_is, line_then, lines_in, kept}
use Rattle.text_lines.specs.Input.{all_kept}
use Rattle.text_lines.proofs.Reading.{long}
use Rattle.text_lines.proofs.Buffers.{byte_fills}

pub less_or_not : (n m : ℕ) → (n < m) ⊎ (m ≤ n)
less_or_not n m = elim (dec_lt n m) [ yes h ↦ inl h | no f ↦ inr (omega arith) ]

-- ---- what is not kept of a line changes nothing

-- "over 64 bytes": the first 65 bytes of a line are read as the whole of it
pub kept_reads : (line : List ℕ) → parsed (take 65 line) ≡ parsed line
kept_reads line =
    ⊎_elim
    (λ (h : length line < 65). ap parsed (take_all 65 line (omega arith)))
    (λ (h : 65 ≤ length line). sym (long (take 65 line) (rw (length-take-le 65 line h) (lit< tt))) ∙ long line h)
    (less_or_not (length line) 65)

-- a byte more of a line
keeps : (x : List ℕ) (b : ℕ) → with_byte 65 (kept x) b ≡ kept (x ++ (b ∷ []))
unfolding with_byte filled
keeps x b =
    ⊎_elim
    (λ (h : length x < 65).
    let l : length (x ++ (b ∷ [])) ≤ 65 = rw length-append (omega arith) in
    ap (λ (y : List ℕ). with_byte 65 (filled 65 y) b) (take_all 65 x (omega arith))
    ∙ byte_fills 65 x b h
    ∙ ap (filled 65) (sym (take_all 65 (x ++ (b ∷ [])) l)))
    (λ (h : 65 ≤ length x).
    rw (le-ltb (length (take 65 x)) 65 (rw (length-take-le 65 x h) (lit≤ tt)))
    (ap (filled 65) (sym (take-append-le 65 x (b ∷ []) h))))
    (less_or_not (length x) 65)

-- ---- wherever the chunks are cut

-- the lines of two chunks, one behind the other
abbrev joined : Split → Split → Split
joined p q = split_is (p.ended ++ q.ended) q.open_line

-- the lines of the input are those of its first part, and then those of the rest behind the line that the first leaves open
pub chunks : (before xs ys : List ℕ) → lines_in before (xs ++ ys)
    ≡ joined (lines_in before xs) (lines_in (lines_in before xs).open_line ys)
unfolding lines_in
chunks before [] ys = refl
chunks before (b ∷ xs) ys =
    go (eqb b 10) (lines_in [] xs) (lines_in more xs) (lines_in [] (xs ++ ys)) (lines_in more (xs ++ ys)) (chunks [] xs ys)
    (chunks more xs ys)
  where
    more : List ℕ
    more = before ++ (b ∷ [])

    go : (e : Bool) (p q p' q' : Split) → p' ≡ joined p (lines_in p.open_line ys) → q' ≡ joined q (lines_in q.open_line ys)
        → cond e (line_then before p') q'
        ≡ joined (cond e (line_then before p) q) (lines_in (cond e (line_then before p) q).open_line ys)
    go true p q p' q' h k = ap (line_then before) h
    go false p q p' q' h k = k

-- "a last line may lack its newline": where it has one, it is the line that is left open without it
pub last_newline : (before xs : List ℕ) → lines_in before (xs ++ (10 ∷ []))
    ≡ split_is ((lines_in before xs).ended ++ ((lines_in before xs).open_line ∷ [])) []
unfolding lines_in
last_newline before xs = chunks before xs (10 ∷ [])

-- ---- one cut

-- a cut takes the first line that ends from its place on, and says where the others begin; or the line that is left open
record First (c : Cut) (chunk : List ℕ) (at : ℕ) (before : List ℕ) : Type 0 where
  line : List ℕ
  is_kept : c.line ≡ kept line
  is_first : lines_in before (drop at chunk)
      ≡ cond c.ended (line_then line (lines_in [] (drop c.next chunk))) (split_is [] line)

first_of : (chunk s : List ℕ) (at : ℕ) (before : List ℕ) → drop at chunk ≡ s → First (cut_from at s (kept before)) chunk at before
unfolding cut_from lines_in
first_of chunk [] at before e = record { line = before; is_kept = refl; is_first = rw e }
first_of chunk (b ∷ s) at before e = go (eqb b 10) (ap (lines_in before) e) (first_of chunk s (at + 1) (before ++ (b ∷ [])) rest)
  where
    rest : drop (at + 1) chunk ≡ s
    rest = sym (drop-drop 1 at chunk) ∙ ap (drop 1) e

    go : (d : Bool) → lines_in before (drop at chunk) ≡ cond d (line_then before (lines_in [] s)) (lines_in (before ++ (b ∷ [])) s)
        → First (cut_from (at + 1) s (kept (before ++ (b ∷ [])))) chunk (at + 1) (before ++ (b ∷ []))
        → First (cond d (cut_is true (at + 1) (kept before)) (cut_from (at + 1) s (with_byte 65 (kept before) b))) chunk at before
    go true p q = record { line = before; is_kept = refl; is_first = p ∙ ap (λ (r : List ℕ). line_then before (lines_in [] r)) (sym rest) }
    go false p q =
        rw (keeps before b)
        (record { line = q.line; is_kept = q.is_kept; is_first = p ∙ ap (lines_in (before ++ (b ∷ []))) (sym rest) ∙ q.is_first })

-- ---- the code's loop

module _ (chunk : List ℕ) (i : ℕ) (line : Buffer) where
  pub newline : i < length chunk → get_or chunk i 0 ≡ 10 → cut_from i (drop i chunk) line ≡ cut_is true (i + 1) line
  unfolding cut_from
  newline h e = rw (drop-cons chunk i 0 h, eq-eqb (get_or chunk i 0) 10 e)

  pub goes_on : i < length chunk → (get_or chunk i 0 ≡ 10 → ⊥)
      → cut_from i (drop i chunk) line ≡ cut_from (i + 1) (drop (i + 1) chunk) (with_byte 65 line (get_or chunk i 0))
  unfolding cut_from
  goes_on h f = rw (drop-cons chunk i 0 h, ne_eqb (get_or chunk i 0) 10 f, add-one i)

  pub chunk_ends : length chunk ≤ i → cut_from i (drop i chunk) line ≡ cut_is false i line
  unfolding cut_from
  chunk_ends h = rw (drop_of_length-le chunk h)

-- ---- where a line that is left open stops

open_end : (s : List ℕ) (at : ℕ) (line : Buffer) → (cut_from at s line).ended ≡ false → (cut_from at s line).next ≡ at + length s
unfolding cut_from
open_end [] at line t = omega arith
open_end (b ∷ s) at line t =
    go (eqb b 10) (cut_from (at + 1) s (with_byte 65 line b)) (open_end s (at + 1) (with_byte 65 line b)) t
  where
    go : (d : Bool) (c : Cut) → (c.ended ≡ false → c.next ≡ at + 1 + length s)
        → (cond d (cut_is true (at + 1) line) c).ended ≡ false → (cond d (cut_is true (at + 1) line) c).next ≡ at + suc (length s)
    go true c f u = absurd (true≢false u)
    go false c f u = omega (arith, f u)

-- at the chunk's end, or at its own place where that lies behind the end
pub open_stops : (chunk : List ℕ) (at : ℕ) (line : Buffer) → (cut_from at (drop at chunk) line).ended ≡ false
    → (cut_from at (drop at chunk) line).next ≡ max at (length chunk)
open_stops chunk at line t =
    omega (arith, length-drop at chunk, open_end (drop at chunk) at line t)

-- ---- cutting one line after the other ends

further : (s : List ℕ) (at : ℕ) (line : Buffer) → (cut_from at s line).ended ≡ true → at < (cut_from at s line).next
unfolding cut_from
further [] at line t = let f : ◌≡◌ {A = ℕ} 0 1 = cc in absurd (omega arith)
further (b ∷ s) at line t =
    go (eqb b 10) (cut_from (at + 1) s (with_byte 65 line b)) (further s (at + 1) (with_byte 65 line b)) t
  where
    go : (d : Bool) (c : Cut) → (c.ended ≡ true → at + 1 < c.next)
        → (cond d (cut_is true (at + 1) line) c).ended ≡ true → at < (cond d (cut_is true (at + 1) line) c).next
    go true c f u = omega arith
    go false c f u = omega (arith, f u)

-- what is left to cut of a chunk
abbrev pub left : (chunk : List ℕ) → Cut → ℕ
left chunk c = cond c.ended (suc (length chunk - c.next)) 0

inside : (chunk : List ℕ) (at : ℕ) (line : Buffer) → (cut_from at (drop at chunk) line).ended ≡ true → at < length chunk
inside chunk at line t =
    ⊎_elim
    (λ (h : at < length chunk). h)
    (λ (h : length chunk ≤ at).
    let f : ◌≡◌ {A = ℕ} 0 1 = cc (ap (λ (c : Cut). c.ended) (chunk_ends chunk at line h)) in
    absurd (omega arith))
    (less_or_not at (length chunk))

pub less_left : (chunk : List ℕ) (p q : Cut) (line : Buffer) → p.ended ≡ true
    → q ≡ cut_from p.next (drop p.next chunk) line → left chunk q < left chunk p
less_left chunk p q line t e = rw (e, t) (go (cut_from p.next (drop p.next chunk) line).ended refl)
  where
    go : (d : Bool) → (cut_from p.next (drop p.next chunk) line).ended ≡ d
        → cond d (suc (length chunk - (cut_from p.next (drop p.next chunk) line).next)) 0 < suc (length chunk - p.next)
    go true u = omega (arith, inside chunk p.next line u, further (drop p.next chunk) p.next line u)
    go false u = omega arith

-- ---- all cuts

module _ (chunk : List ℕ) (at : ℕ) (before : List ℕ) where
  then_all : (c : Cut) (d : Bool) (r : List Buffer × Buffer) → c.ended ≡ d → First c chunk at before
      → (d ≡ true → r ≡ all_kept (lines_in [] (drop c.next chunk)))
      → cut_then c r ≡ all_kept (lines_in before (drop at chunk))
  then_all c true r t f h = rw (f.is_first, t, f.is_kept, h refl)
  then_all c false r t f h = rw (f.is_first, t, f.is_kept)

-- the lines that are cut off a chunk, from a place on, are its lines from there on
pub all_cut : (times : ℕ) (chunk : List ℕ) (at : ℕ) (before : List ℕ) → length chunk - at < times
    → cuts times chunk at (kept before) ≡ all_kept (lines_in before (drop at chunk))
unfolding cuts
all_cut zero chunk at before h = absurd (omega arith)
all_cut (suc n) chunk at before h =
    let c : Cut = cut_from at (drop at chunk) (kept before) in
    then_all chunk at before c c.ended (cuts n chunk c.next (kept [])) refl (first_of chunk (drop at chunk) at before refl)
    (λ (t : c.ended ≡ true). all_cut n chunk c.next []
    (omega (arith, inside chunk at (kept before) t, further (drop at chunk) at (kept before) t)))

-- wherever the input is cut into chunks, the lines that are cut off one chunk and then the other are the input's lines
pub chunks_cut : (before xs ys : List ℕ) (p q : List Buffer × Buffer) → p ≡ cut_chunk xs (kept before) → q ≡ cut_chunk ys p.1
    → (p.0 ++ q.0, q.1) ≡ all_kept (lines_in before (xs ++ ys))
chunks_cut before xs ys p q e f =
    let a : Split = lines_in before xs in
    let b : Split = lines_in a.open_line ys in
    let h : p ≡ all_kept a = e ∙ all_cut (suc (length xs)) xs 0 before (omega arith) in
    let k : q ≡ all_kept b =
    f ∙ ap (λ (r : List Buffer × Buffer). cut_chunk ys r.1) h ∙ all_cut (suc (length ys)) ys 0 a.open_line (omega arith) in
    rw (h, k, chunks before xs ys, map-append)
