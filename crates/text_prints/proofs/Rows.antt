-- The lines that are printed, as their parts are put one behind the other; none is longer than a text. Assumes nothing.
use mathlib.Core.Path.{◌≡◌, ◌∙◌}
use mathlib.Core.List.{List, [], ◌∷◌, ◌++◌}
use Prim.Native.Nat.{ℕ, ◌≤◌}
use native.Mathlib.Omega.{arith}
use lib.IntN.{ℤ}
use lib.ListN.{length, length-append}
use mir.Syntax.{w32, w64}
use mir.Val.{Fits, SFits}
use Rattle.text_lines.specs.Buffers.{Buffer, filled, with_bytes}
use Rattle.text_lines.proofs.Buffers.{behind, bytes_fill}
use Rattle.text_prints.specs.Printed.{letter, shown, signed_shown, answered, refused_word, refused}
use Rattle.text_prints.proofs.Decimals.{shown_length}
use Rattle.text_prints.proofs.Signs.{signed_length}

word_length : (n : ℕ) → Fits w32 n → length (shown n) ≤ 10
word_length n h = shown_length 9 n (omega arith)

module _ (mode : ℕ) (reading value : ℤ) (deals words : ℕ) where
  -- nothing of an answer is cut off
  pub answered_length : SFits w64 reading → SFits w64 value → Fits w32 deals → Fits w32 words
      → length (answered mode reading value deals words) ≤ 80
  unfolding answered
  answered_length r v d w =
      simp length-append
      (omega (arith, signed_length reading r, signed_length value v, word_length deals d, word_length words w))

  pub answer : {a b c d e f : Buffer} → SFits w64 reading → SFits w64 value → Fits w32 deals → Fits w32 words
      → a ≡ with_bytes 80 (filled 80 []) (letter mode ∷ [])
      → b ≡ with_bytes 80 a (32 ∷ signed_shown reading)
      → c ≡ with_bytes 80 b (32 ∷ signed_shown value)
      → d ≡ with_bytes 80 c (32 ∷ shown deals)
      → e ≡ with_bytes 80 d (32 ∷ shown words)
      → f ≡ with_bytes 80 e (10 ∷ [])
      → f ≡ filled 80 (answered mode reading value deals words)
  unfolding answered
  answer r v s w p q₁ q₂ q₃ q₄ q₅ =
      let t : Buffer = filled 80 [] in
      let x₁ : List ℕ = letter mode ∷ [] ++ (32 ∷ signed_shown reading) in
      let x₂ : List ℕ = x₁ ++ (32 ∷ signed_shown value) in
      let x₃ : List ℕ = x₂ ++ (32 ∷ shown deals) in
      let x₄ : List ℕ = x₃ ++ (32 ∷ shown words) in
      behind 80 t x₄ (10 ∷ [])
      (behind 80 t x₃ (32 ∷ shown words)
      (behind 80 t x₂ (32 ∷ shown deals)
      (behind 80 t x₁ (32 ∷ signed_shown value)
      (behind 80 t (letter mode ∷ []) (32 ∷ signed_shown reading) p q₁) q₂) q₃) q₄) q₅
      ∙ bytes_fill 80 [] (answered mode reading value deals words) (answered_length r v s w)

-- nothing of a refusal is cut off
pub refused_length : (number : ℕ) → Fits w32 number → length (refused number) ≤ 80
unfolding refused
refused_length number h = simp length-append (omega (arith, word_length number h))

pub refusal : (number : ℕ) {a b c : Buffer} → Fits w32 number
    → a ≡ with_bytes 80 (filled 80 []) refused_word
    → b ≡ with_bytes 80 a (shown number)
    → c ≡ with_bytes 80 b (10 ∷ [])
    → c ≡ filled 80 (refused number)
unfolding refused
refusal number h p q₁ q₂ =
    let t : Buffer = filled 80 [] in
    behind 80 t (refused_word ++ shown number) (10 ∷ []) (behind 80 t refused_word (shown number) p q₁) q₂
    ∙ bytes_fill 80 [] (refused number) (refused_length number h)
