use Rattle.std.proofs.Common.{[], ◌∷◌}
use Rattle.sym_records.specs.Canon.{body, canon}
use Rattle.sym_records.proofs.HandingLemmas.{one_hands, one_off, record_is}
use Rattle.sym_records.proofs.line_speller.put_record.Goals as goal

pub returns-in-Err : goal.returns-in-Err
returns-in-Err g c = one_off (body c.args.line.now) (10 ∷ []) (canon c.args.line.now) _ _ _ _ _ _ _ _ _ (record_is c.args.line.now) c.in-Err.ensures

pub returns : goal.returns
returns g c = one_hands (body c.args.line.now) (10 ∷ []) (canon c.args.line.now) _ _ _ _ _ _ _ _ _ _ _ (record_is c.args.line.now) c.in-Ok.ensures c.put.ensures
