use Rattle.sym_records.proofs.SpelledLemmas.{wrote_not_on}
use Rattle.sym_records.specs.Spelled.{text_bytes}
use Rattle.sym_records.proofs.text.SymText.write.Goals as goal

pub returns-in-Err-hand_on-clause-front : goal.returns-in-Err-hand_on-clause-front
returns-in-Err-hand_on-clause-front g c =
    wrote_not_on _ _ _ _ _ _ c.new-waiting.result (text_bytes c.self.inside.text) _ c.args.self.now c.self.invariant c.self.view_is c.new-waiting.ensures c.in-Ok.ensures c.in-Err-hand_on.ensures.front
