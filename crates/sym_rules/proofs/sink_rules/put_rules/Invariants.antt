use Rattle.std.proofs.Common.{take}
use Rattle.std.specs.List.{flat_map}
use Rattle.sym_rules.proofs.BufferLemmas.{Handed}
use Rattle.sym_rules.specs.Rules.{spelled_rule}
use Rattle.sym_rules.proofs.sink_rules.put_rules.Given as goal

abbrev pub invariant-loop-rule : goal.invariant-loop-rule
invariant-loop-rule g l =
    let O = g.O.Sink in
    Handed (O.taken l.fn.sink) (O.faults l.fn.sink) l.fn.waiting (flat_map spelled_rule (take l.rule-index l.rules)) (O.taken l.sink) (O.faults l.sink) l.waiting
