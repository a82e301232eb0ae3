-- Where a walk does an order at once. Assumes nothing.
use Rattle.std.specs.Prelude.{ℕ, Bool, ◌&&◌, ◌==◌, nat_lt}
use Rattle.programs.specs.declared.Order.{Order}

-- at the first gate of an addition or subtraction of registers
unfoldable pub adds_here : Order → (gate : ℕ) → Bool
adds_here o i =
    (i == 0) && nat_lt o.kind 2 && nat_lt o.target 16 && nat_lt o.source 16 && nat_lt o.fourth 16
