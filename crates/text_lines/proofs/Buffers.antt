-- Bytes put one behind the other into an array, and lines in one. Assumes nothing.
use mathlib.Core.Path.{◌≡◌, refl, sym, ap, ap₂, ◌∙◌}
use mathlib.Core.List.{List, [], ◌∷◌, ◌++◌, append-nil}
use Prim.Native.Nat.{ℕ, suc, ◌+◌, ◌-◌, ◌≤◌, ◌<◌}
use native.Mathlib.Numerals.{add-one}
use native.Mathlib.Omega.{arith}
use borrow.Author.Tests.{lt-ltb}
use lib.ListN.{length, get_or, take, set, replicate, length-append, length-replicate}
use lib.Seq.{take-append_seam, take-suc, append_snoc, set-append_seam}
use Rattle.text_lines.specs.Buffers.{Buffer, buffer, filled, with_byte, with_bytes}

module _ (size : ℕ) where
  after : (t : Buffer) (x y : List ℕ) → with_bytes size (with_bytes size t x) y ≡ with_bytes size t (x ++ y)
  unfolding with_bytes
  after t [] y = refl
  after t (b ∷ x) y = after (with_byte size t b) x y

  -- y behind x
  pub behind : {a c : Buffer} (t : Buffer) (x y : List ℕ) → a ≡ with_bytes size t x → c ≡ with_bytes size a y
      → c ≡ with_bytes size t (x ++ y)
  behind t x y p q = q ∙ ap (λ (a : Buffer). with_bytes size a y) p ∙ after t x y

  -- the bytes that count are the line
  pub counted : (t : Buffer) (line : List ℕ) → t ≡ filled size line → take t.len t.bytes ≡ line
  unfolding filled
  counted t line e = rw e (take-append_seam line (replicate (size - length line) 0))

  -- an array of that size has room for the line that it holds
  pub has_room : (t : Buffer) (line : List ℕ) → length t.bytes ≡ size → t ≡ filled size line → length line ≤ size
  unfolding filled
  has_room t line l e =
      let z : List ℕ = replicate (size - length line) 0 in
      let k : length (line ++ z) ≡ size = sym (ap (λ (t : Buffer). length t.bytes) e) ∙ l in
      omega (arith, length-append line z, length-replicate {A = ℕ} (size - length line) 0)

  -- the next byte of a list
  pub next_behind : {a c : Buffer} (t : Buffer) (s : List ℕ) (i : ℕ) → i < length s → a ≡ with_bytes size t (take i s)
      → c ≡ with_bytes size a (get_or s i 0 ∷ []) → c ≡ with_bytes size t (take (i + 1) s)
  next_behind t s i h p q = rw (add-one i, take-suc s i 0 h) (behind t (take i s) (get_or s i 0 ∷ []) p q)

  -- the byte behind a line that leaves room
  pub byte_fills : (x : List ℕ) (b : ℕ) → length x < size → with_byte size (filled size x) b ≡ filled size (x ++ (b ∷ []))
  unfolding with_byte filled
  byte_fills x b h =
      let k : size - length x ≡ suc (size - (length x + 1)) = omega arith in
      let l : length (x ++ (b ∷ [])) ≡ length x + 1 = length-append x (b ∷ []) in
      let z : List ℕ = replicate (size - (length x + 1)) 0 in
      let e : set (x ++ replicate (size - length x) 0) (length x) b ≡ x ++ (b ∷ []) ++ z =
      ap (λ (n : ℕ). set (x ++ replicate n 0) (length x) b) k ∙ set-append_seam x 0 z b ∙ sym (append_snoc x b z) in
      rw (lt-ltb (length x) size h)
      (ap₂ buffer (e ∙ ap (λ (n : ℕ). x ++ (b ∷ []) ++ replicate (size - n) 0) (sym l)) (sym l))

  -- bytes that there is room for
  pub bytes_fill : (x s : List ℕ) → length (x ++ s) ≤ size → with_bytes size (filled size x) s ≡ filled size (x ++ s)
  unfolding with_bytes
  bytes_fill x [] h = ap (filled size) (sym (append-nil x))
  bytes_fill x (b ∷ s) h =
      let e : x ++ (b ∷ []) ++ s ≡ x ++ (b ∷ s) = append_snoc x b s in
      let l : length x < size = omega (arith, length-append x (b ∷ s)) in
      ap (λ (t : Buffer). with_bytes size t s) (byte_fills x b l)
      ∙ bytes_fill (x ++ (b ∷ [])) s (rw e h)
      ∙ ap (filled size) e
