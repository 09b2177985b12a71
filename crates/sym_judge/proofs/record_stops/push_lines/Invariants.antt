use Rattle.std.proofs.Common.{◌≡◌, ◌++◌, drop}
use Rattle.std.specs.List.{flat_map}
use Rattle.sym_judge.specs.internal.Stops.{line_stops, doubted}
use Rattle.sym_judge.proofs.record_stops.push_lines.Given as goal

abbrev pub invariant-lines : goal.invariant-lines
invariant-lines l = l.stops.items ++ doubted l.doubts (flat_map (line_stops l.half) (drop l.at l.lines)) ≡ l.initial.stops.items ++ doubted l.doubts (flat_map (line_stops l.half) l.lines)
