use Rattle.std.proofs.Common.{drop}
use Rattle.func_records.specs.internal.Noting.{Noting}
use Rattle.func_records.proofs.line_paths.note_lines.Given as goal

abbrev pub invariant-stops : goal.invariant-stops
invariant-stops l = Noting l.table l.unit l.fn.start l.fn.end l.line (drop l.place l.stops) l.fn.paths l.paths
