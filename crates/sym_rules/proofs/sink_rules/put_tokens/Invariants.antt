use Rattle.std.proofs.Common.{take}
use Rattle.std.specs.List.{flat_map}
use Rattle.sym_rules.proofs.BufferLemmas.{Handed}
use Rattle.sym_rules.specs.Rules.{spelled_token}
use Rattle.sym_rules.proofs.sink_rules.put_tokens.Given as goal

abbrev pub invariant-loop-token : goal.invariant-loop-token
invariant-loop-token g l =
    let O = g.O.Sink in
    Handed (O.taken l.fn.sink) (O.faults l.fn.sink) l.fn.waiting (flat_map spelled_token (take l.token-index l.tokens)) (O.taken l.sink) (O.faults l.sink) l.waiting
