use Rattle.std.proofs.Common.{take}
use Rattle.std.specs.List.{flat_map}
use Rattle.sym_rules.proofs.BufferLemmas.{Handed}
use Rattle.sym_records.specs.Canon.{canon}
use Rattle.sym_records.proofs.file_writer.put_records.Given as goal

abbrev pub invariant-loop-line : goal.invariant-loop-line
invariant-loop-line g l =
    let O = g.O.Sink in
    Handed (O.taken l.fn.sink) (O.faults l.fn.sink) l.fn.waiting (flat_map canon (take l.line-index l.lines)) (O.taken l.sink) (O.faults l.sink) l.waiting
