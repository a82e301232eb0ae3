-- The paper's number and values for each answer of the calls. Assumes nothing.
use Rattle.std.specs.Prelude.{ℕ, ℤ, pos, Result, Ok, Err}
use Rattle.shares.specs.declared.Shares.{Shares}
use Rattle.shares.specs.declared.OutOfRange.{OutOfRange}
use Rattle.shares.specs.declared.Disagree.{Disagree}
use Rattle.shares.specs.Sharing.{Six, nothing}

abbrev pub words : Shares → Six
words s =
    record {
      l1_of_0 = s.p0.l1;
      l2_of_0 = s.p0.l2;
      m_of_1 = s.p1.m;
      l1_of_1 = s.p1.l;
      m_of_2 = s.p2.m;
      l2_of_2 = s.p2.l;
    }

abbrev pub sharing : Result Shares OutOfRange → ℕ × Six
sharing (Ok s) = (0, words s)
sharing (Err e) = (11, nothing)

abbrev pub opening : Result ℤ Disagree → ℕ × ℤ
opening (Ok x) = (0, x)
opening (Err e) = (10, pos 0)
