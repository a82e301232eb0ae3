-- Host 0 by the code's counts and lanes. Assumes nothing.
use Rattle.std.specs.Prelude.{List, ℕ}
use Rattle.gates.specs.declared.Lanes.{Lanes}
use Rattle.gates.specs.declared.Used.{Used}
use Rattle.walks.specs.Dealers.{Dealer, dealer}

-- so much used, with these lanes and this buffer
abbrev pub dealer_on : Used → Lanes → (buffer : List ℕ) → Dealer
dealer_on u l buf = dealer u l.first l.second buf
