use Rattle.full_image.proofs.SupFrontLemmas.{tables_stopped}
use Rattle.full_image.proofs.supplement.read_packed_sup.Goals as goal

pub returns-in-Err : goal.returns-in-Err
returns-in-Err c = record { exact = tables_stopped _ _ c.args.bytes.now c.in-Err.stop c.in-Err.ensures.read }
