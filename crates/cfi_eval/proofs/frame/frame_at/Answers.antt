use Rattle.std.proofs.Common.{sym, refl}
use Rattle.cfi_eval.specs.TextValue.{text_frame}
use Rattle.cfi_eval.proofs.InitLemmas.{no_rules}
use Rattle.cfi_eval.proofs.frame.frame_at.Goals as goal

pub returns-in-None : goal.returns-in-None
unfolding text_frame
returns-in-None g c = rw (no_rules c.args.file.now c.args.address (sym c.in-None.ensures)) refl
