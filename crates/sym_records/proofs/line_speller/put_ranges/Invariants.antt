use Rattle.std.proofs.Common.{take}
use Rattle.std.specs.List.{flat_map}
use Rattle.sym_rules.proofs.BufferLemmas.{Handed}
use Rattle.sym_records.specs.Fields.{spelled_range}
use Rattle.sym_records.proofs.line_speller.put_ranges.Given as goal

abbrev pub invariant-loop-range : goal.invariant-loop-range
invariant-loop-range g l =
    let O = g.O.Sink in
    Handed (O.taken l.fn.sink) (O.faults l.fn.sink) l.fn.waiting (flat_map spelled_range (take l.range-index l.ranges)) (O.taken l.sink) (O.faults l.sink) l.waiting
