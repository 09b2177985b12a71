use Rattle.std.proofs.Common.{take}
use Rattle.std.specs.List.{flat_map}
use Rattle.sym_rules.proofs.BufferLemmas.{Handed}
use Rattle.sym_records.specs.Listed.{said, spelled_field}
use Rattle.sym_records.proofs.line_speller.put_fields.Given as goal

abbrev pub invariant-loop-field : goal.invariant-loop-field
invariant-loop-field g l =
    let O = g.O.Sink in
    Handed (O.taken l.fn.sink) (O.faults l.fn.sink) l.fn.waiting (flat_map (λ f. spelled_field (said f)) (take l.field-index l.fields)) (O.taken l.sink) (O.faults l.sink) l.waiting
