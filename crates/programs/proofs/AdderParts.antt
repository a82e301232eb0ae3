-- The programs with an adder: its gates, those before it and those behind it. Assumes nothing.
use mathlib.Core.Path.{◌≡◌, ◌∙◌}
use mathlib.Core.List.{List, [], ◌∷◌, ◌++◌, append_assoc}
use Prim.Native.Nat.{ℕ, ◌-◌, ◌%◌, ◌^◌}
use Rattle.words.specs.Words.{neg}
use Rattle.gates.specs.Gates.{Field, OfNegated, Gate, Add, Sub, Xor, Scale, Plus, Bit, Public, Deal}
use Rattle.programs.specs.Programs.{n_slot, g_slot, t_slot, y_slot, res_slot, adder, to_number, sign_program, exact_program}

module _ (w : ℕ) where
  -- ---- the sign, with what is behind it

  unfoldable pub sign_rest : List Gate
  sign_rest = Bit t_slot g_slot (w - 2) ∷ Xor t_slot t_slot n_slot ∷ to_number w

  pub sign_parts : (x : ℕ) (gs : List Gate) → sign_program w x ++ gs ≡ adder w x ++ (sign_rest ++ gs)
  unfolding sign_program sign_rest
  sign_parts x gs = append_assoc (adder w x) sign_rest gs

  -- ---- the exact truncation

  unfoldable pub exact_head : (k x : ℕ) → List Gate
  exact_head k x =
      Plus y_slot x (2 ^ (w - 1)) ∷ Deal res_slot y_slot (OfNegated (Field k w)) ∷ Public t_slot y_slot (Field k w)
      ∷ Add res_slot res_slot t_slot ∷ []

  abbrev low : ℕ → List Gate
  low k = Bit t_slot g_slot (k - 1) ∷ to_number w

  abbrev high : List Gate
  high = Add res_slot res_slot t_slot ∷ Bit t_slot g_slot (w - 1) ∷ to_number w

  abbrev last : (k d : ℕ) → List Gate
  last k d = Scale t_slot t_slot (2 ^ (w - k) % 2 ^ w) ∷ Sub res_slot res_slot t_slot ∷ Plus d res_slot (neg w (2 ^ (w - 1 - k))) ∷ []

  unfoldable pub exact_rest : (k d : ℕ) → List Gate
  exact_rest k d = low k ++ (high ++ last k d)

  pub exact_parts : (k x d : ℕ) → exact_program w k x d ≡ exact_head k x ++ (adder w y_slot ++ exact_rest k d)
  unfolding exact_program exact_head exact_rest low high last
  exact_parts k x d =
      append_assoc ((exact_head k x ++ adder w y_slot) ++ low k) high (last k d)
      ∙ append_assoc (exact_head k x ++ adder w y_slot) (low k) (high ++ last k d)
