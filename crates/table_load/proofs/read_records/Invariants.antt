use Rattle.std.proofs.Common.{◌≡◌, ◌*◌, ◌-◌}
use Rattle.std.proofs.lemmas.List.Edits.{sets}
use Rattle.table_load.specs.Loading.{records, marks, words}
use Rattle.table_load.proofs.read_records.Given as goal

-- the records from k on are still to be looked at, and their rows to be written
abbrev pub invariant-loop-k : goal.invariant-loop-k
invariant-loop-k l = record {
  marks_left : marks (records l.text) 0 l.text ≡ marks (records l.text - l.k) l.k l.text;
  rows_left : sets l.table (2 * l.k) (words (records l.text - l.k) l.k l.text) ≡ sets l.initial.table 0 (words (records l.text) 0 l.text);
}
