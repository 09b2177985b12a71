use Rattle.std.proofs.Common.{◌≡◌, true, ◌++◌, map, length}
use Rattle.std.specs.List.{list_all}
use Rattle.sym_records.specs.Canon.{canon_text}
use Rattle.sym_records.specs.Validity.{fields_fit}
use Rattle.func_records.specs.internal.Spelling.{line_by, row_of, IsNumbered}
use Rattle.func_records.proofs.parts.add_runs.Given as goal

abbrev pub invariant-runs : goal.invariant-runs
invariant-runs l = record {
  known : IsNumbered l.rows l.known;
  unit : l.known.unit ≡ l.unit;
  text : l.text.items ++ canon_text (map (line_by l.base (row_of l.rows l.unit)) l.rest) ≡ l.fn.text.items ++ canon_text (map (line_by l.base (row_of l.rows l.unit)) l.runs);
  fit : list_all fields_fit (map (line_by l.base (row_of l.rows l.unit)) l.rest) ≡ true → list_all fields_fit (map (line_by l.base (row_of l.rows l.unit)) l.runs) ≡ true;
}

abbrev pub decreases-runs : goal.decreases-runs
decreases-runs l = length l.rest
