use mathlib.Core.Path.{refl, ap, ◌∙◌}
use Prim.Native.Nat.{◌+◌}
use native.Mathlib.Omega.{arith}
use Rattle.tables.specs.Table.{rows}
use Rattle.gates.specs.declared.Used.{Used}
use Rattle.gates.specs.Codes.{step_of}
use Rattle.gates.proofs.Codes.{read_at}
use Rattle.gates.proofs.Uses.{few_used}
use Rattle.program_fetch.proofs.Stands.{piece_stands}
use Rattle.calls.specs.Calls.{stored_places}
use Rattle.worker.proofs.Pieces.{gate_there}
use Rattle.worker.proofs.place.stand_at.Goals as goal

pub places_with-requires : goal.places_with-requires
places_with-requires c =
    let p = c.requires in
    let g = few_used (step_of 32 c.gate_at-g.result) _ c.used_by.ensures in
    (omega (arith, g), omega (arith, g), omega (arith, p.0), omega (arith, p.2), omega (arith, p.1))

pub returns : goal.returns
returns c =
    let a = c.args in
    record {
      gate = refl;
      a_used = refl;
      b_used = refl;
      deals_used = refl;
      fetches = λ h e. read_at 32 _ h
          (c.gate_at-g.ensures ∙ gate_there 32 (rows a.table.now) a.o a.place.gate _ (piece_stands c.piece_at-p.ensures) h e);
      places = c.places_with.ensures
          ∙ ap (λ (y : Used). stored_places (a.used.a + a.place.a + y.a) (a.used.b + a.turn + 1) (a.used.deals + a.place.deals + y.deals))
          c.used_by.ensures;
    }
