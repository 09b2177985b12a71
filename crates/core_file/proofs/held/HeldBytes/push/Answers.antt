use Rattle.core_file.proofs.KeepLemmas.{stream_past}
use Rattle.core_file.proofs.held.HeldBytes.push.Goals as goal

pub returns : goal.returns
returns c = rw (← c.self.view_is, ← stream_past c.self.inside.blocks c.self.invariant) c.add.ensures.added
