use mathlib.Core.List.{map}
use lib.ListN.{drop}
use Rattle.tables.specs.Table.{rows}
use Rattle.gates.specs.Meaning.{meaning}
use Rattle.program_fetch.specs.Pieces.{piece_gates}
use Rattle.walks.specs.Dealers.{dealer}
use Rattle.walks.proofs.Preparing.{Midway}
use Rattle.dealer.proofs.preparing.deal_piece.Given as goal

abbrev pub invariant-loop-i : goal.invariant-loop-i
invariant-loop-i l = let gs = piece_gates 32 (rows l.table) l.p in
    Midway l.lists.a.now l.lists.b.now (map (meaning 32) (drop l.p.from gs)) (map (meaning 32) (drop l.i gs)) (dealer l.initial.at l.initial.lanes.first l.initial.lanes.second l.initial.deals) (dealer l.at l.lanes.first l.lanes.second l.deals)
