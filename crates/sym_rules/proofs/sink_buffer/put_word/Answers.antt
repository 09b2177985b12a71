use Rattle.std.proofs.Common.{[], ◌∷◌}
use Rattle.sym_rules.proofs.BufferLemmas.{hands_both, hands_off}
use Rattle.sym_rules.proofs.sink_buffer.put_word.Goals as goal

pub returns-in-Err : goal.returns-in-Err
returns-in-Err g c = hands_off _ _ _ _ _ _ c.args.waiting.now (32 ∷ []) _ c.args.word.now _ c.in-Err.ensures

pub returns : goal.returns
returns g c = hands_both _ _ _ _ _ _ _ _ c.args.waiting.now (32 ∷ []) _ c.args.word.now _ c.in-Ok.ensures c.put-2.ensures
