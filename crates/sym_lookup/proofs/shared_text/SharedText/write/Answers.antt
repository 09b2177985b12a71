use Rattle.sym_rules.proofs.BufferLemmas.{hands_not_on}
use Rattle.sym_lookup.proofs.shared_text.SharedText.write.Goals as goal

pub returns-in-Err-hand_on-clause-front : goal.returns-in-Err-hand_on-clause-front
returns-in-Err-hand_on-clause-front g c =
    hands_not_on _ _ _ _ _ _ c.new-waiting.result _ _ _ c.new-waiting.ensures (rw (c.as_slice.ensures.value, c.as_slice-2.ensures.value) c.self.view_is) c.in-Ok.ensures c.in-Err-hand_on.ensures.front
