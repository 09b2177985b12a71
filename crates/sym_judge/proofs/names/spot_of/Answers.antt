use Rattle.std.proofs.Common.{refl}
use Rattle.sym_judge.proofs.names.spot_of.Goals as goal

pub returns-in-Line : goal.returns-in-Line
returns-in-Line c = λ lines. rw c.in-Line.is refl
