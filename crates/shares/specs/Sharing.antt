-- Document 01, "Shares": splitting a reading for the three hosts and opening their six words; conditions 10 and 11.
-- Assumes nothing.
use Rattle.std.specs.Prelude.{ℕ, Bool, cond, ◌&&◌, ℤ, pos, ◌==◌}
use Rattle.words.specs.Words.{numbers}
use Rattle.words.specs.Signed.{signed, wrap, in_range}
use Rattle.shares.specs.Gates.{Share, value, masked}

-- "Host 0 holds L1, L2; host 1 holds m, L1; host 2 holds m, L2."
pub record Six : Type 0 where
  pub l1_of_0 : ℕ
  pub l2_of_0 : ℕ
  pub m_of_1 : ℕ
  pub l1_of_1 : ℕ
  pub m_of_2 : ℕ
  pub l2_of_2 : ℕ

-- what the hosts hold of a share
abbrev pub hand_out : Share ℕ → Six
hand_out s = record { l1_of_0 = s.l1; l2_of_0 = s.l2; m_of_1 = s.m; l1_of_1 = s.l1; m_of_2 = s.m; l2_of_2 = s.l2 }

-- "every other number in a refused answer is 0"
abbrev pub nothing : Six
nothing = record { l1_of_0 = 0; l2_of_0 = 0; m_of_1 = 0; l1_of_1 = 0; m_of_2 = 0; l2_of_2 = 0 }

-- Splitting: the number, or 0, and the six words. "11. A reading to be split is outside -2^30 to 2^30 - 1."
unfoldable pub split : (w : ℕ) (reading : ℤ) (l1 l2 : ℕ) → ℕ × Six
split w x l1 l2 = cond (in_range w x) (0, hand_out (masked (numbers w) (wrap w x) l1 l2)) (11, nothing)

-- the three hosts hold one share
abbrev pub agree : Six → Bool
agree s = s.l1_of_0 == s.l1_of_1 && s.l2_of_0 == s.l2_of_2 && s.m_of_1 == s.m_of_2

-- Opening: the number, or 0, and the value as a signed number. "10. The opened shares disagree in L1, in L2 or in m."
unfoldable pub reconstruction : (w : ℕ) → Six → ℕ × ℤ
reconstruction w s =
    cond (agree s) (0, signed w (value (numbers w) (record { m = s.m_of_1; l1 = s.l1_of_0; l2 = s.l2_of_0 })))
    (10, pos 0)
