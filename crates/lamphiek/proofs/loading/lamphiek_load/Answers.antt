use Rattle.std.proofs.Common.{refl, ap, ◌∙◌, arith}
use Rattle.table_load.specs.Loading.{Loaded}
use Rattle.table_load.proofs.Loads.{loads}
use Rattle.table_load.proofs.Refusals.{has_number}
use Rattle.lamphiek.specs.Loading.{table_left}
use Rattle.lamphiek.proofs.Told.{not_written, is_written}
use Rattle.lamphiek.proofs.loading.lamphiek_load.Goals as goal

pub returns-in-Ok-clause-table : goal.returns-in-Ok-clause-table
returns-in-Ok-clause-table c =
    let old = c.args.table.now in is_written 0 _ old refl ∙ ap (λ (a : Loaded). table_left a old) c.in-Ok.ensures

pub returns-in-Err-clause-table : goal.returns-in-Err-clause-table
returns-in-Err-clause-table c =
    let old = c.args.table.now in not_written _ _ old (has_number _) ∙ ap (λ (a : Loaded). table_left a old) c.in-Err.ensures

pub overflow_cast-number : goal.overflow_cast-number
overflow_cast-number c = omega (arith, loads.few_words c.args.text.now, ap (λ (a : Loaded). a.len) c.in-Ok.ensures)
