use Rattle.std.proofs.Common.{drop}
use Rattle.line_program.specs.LineMaps.{numbered_line}
use Rattle.func_flatten.specs.internal.Growing.{Walks}
use Rattle.func_flatten.proofs.lines.put_runs.Given as goal

abbrev pub invariant-stops : goal.invariant-stops
invariant-stops l = Walks l.table.paths (numbered_line l.table) l.fn.start l.fn.end l.at l.now (drop l.place l.stops) l.runs.items
