use Rattle.sym_lookup.proofs.SharedLemmas.{added_within}
use Rattle.sym_lookup.proofs.shared_text.SharedText.add.Goals as goal

pub invariant_of-self-then-is_part : goal.invariant_of-self-then-is_part
invariant_of-self-then-is_part c = added_within _ c.self.inside.parts.items _ c.in-Some.part (rw c.as_slice.ensures.value at (c.is_part.ensures.within c.if-is_part.true)) c.in_ok-push-2.ensures.items c.self.invariant
