-- The code's worker as the definitions' (`worker_with`), and the cursor that counts what it has used. Assumes nothing.
use Rattle.std.specs.Prelude.{ℕ}
use Rattle.gates.specs.declared.Used.{Used}
use Rattle.gates.specs.Steps.{Cursor}
use Rattle.calls.specs.Lent as Calls
use Rattle.walks.specs.Workers.{cursor}
use Rattle.worker_gate.specs.declared.Worker.{Worker}

-- "Host 1 or 2, with what it is lent"
abbrev pub worker : Worker → Calls.Worker
worker w = Calls.worker_with w.host w.masks.now w.deals.now

-- at a place, with so much used before it
abbrev pub used_to : (order turn : ℕ) → Used → Cursor
used_to o x u = cursor o x u.a u.b u.deals
