use Rattle.std.proofs.Common.{arith}
use Rattle.sym_rules.specs.Rules.{spelled_token}
use Rattle.sym_rules.proofs.BufferLemmas.{hands_none, hands_piece, hands_broken, hands_all}
use Rattle.sym_rules.proofs.sink_rules.put_tokens.Goals as goal

pub loop-token-init : goal.loop-token-init
loop-token-init g c = hands_none _ _ _

pub loop-token-preserved : goal.loop-token-preserved
loop-token-preserved g c =
    hands_piece spelled_token c.args.tokens.now c.loop-token.token-index c.token-item.result _ _ _ _ _ _ _ _ _ _ (omega arith) c.token-item.is c.loop-token.invariant c.in-Ok.ensures

pub returns-in-Err : goal.returns-in-Err
returns-in-Err g c =
    hands_broken spelled_token c.args.tokens.now c.loop-token.token-index c.token-item.result _ _ _ _ _ _ _ _ _ _ _ _ (omega arith) c.token-item.is c.loop-token.invariant c.in-Err.ensures

pub returns : goal.returns
returns g c = hands_all spelled_token c.args.tokens.now c.loop-token.token-index _ _ _ _ _ _ _ (omega arith) c.loop-token.invariant
