use Rattle.std.proofs.Common.{◌≡◌}
use Rattle.tables.specs.Table.{rows}
use Rattle.program_fetch.specs.Pieces.{piece_gates}
use Rattle.walks.specs.Halts.{Going}
use Rattle.gates.specs.Hosts.{pair_of}
use Rattle.worker_gate.specs.Workers.{worker}
use Rattle.worker.proofs.walk.walk_piece.Given as goal

abbrev pub invariant-loop-i : goal.invariant-loop-i
invariant-loop-i l = Going 32 (worker l.host) (piece_gates 32 (rows l.table) l.p)
    l.p.from l.initial.at.a l.initial.at.deals (pair_of l.initial.lanes)
    l.i l.at.a l.at.deals (pair_of l.lanes)
    × (l.at.b ≡ l.initial.at.b)
