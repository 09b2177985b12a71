use Rattle.full_image.proofs.FrontLemmas.{tables_stopped}
use Rattle.full_image.proofs.packed.read_packed.Goals as goal

pub returns-in-Err : goal.returns-in-Err
returns-in-Err c = record { exact = tables_stopped _ _ c.args.full c.args.bytes.now c.in-Err.stop c.in-Err.ensures.read }
