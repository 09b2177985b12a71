use Rattle.std.proofs.Common.{take}
use Rattle.std.specs.List.{flat_map}
use Rattle.sym_rules.proofs.BufferLemmas.{Handed}
use Rattle.sym_lookup.specs.internal.SharedTexts.{part_text}
use Rattle.sym_lookup.proofs.shared_text.put_parts.Given as goal

abbrev pub invariant-loop-part : goal.invariant-loop-part
invariant-loop-part g l =
    let O = g.O.Sink in
    Handed (O.taken l.fn.sink) (O.faults l.fn.sink) l.fn.waiting (flat_map (part_text l.bytes) (take l.part-index l.parts)) (O.taken l.sink) (O.faults l.sink) l.waiting
