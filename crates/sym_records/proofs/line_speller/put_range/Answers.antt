use Rattle.std.proofs.Common.{◌∷◌}
use Rattle.sym_records.specs.Fields.{hex, spelled_range}
use Rattle.sym_records.proofs.HandingLemmas.{one_hands, one_off, range_is}
use Rattle.sym_records.proofs.line_speller.put_range.Goals as goal

pub returns-in-Err : goal.returns-in-Err
returns-in-Err g c = one_off (32 ∷ hex c.args.range.address) (32 ∷ hex c.args.range.size) (spelled_range c.args.range) _ _ _ _ _ _ _ _ _ (range_is c.args.range) c.in-Err.ensures

pub returns : goal.returns
returns g c = one_hands (32 ∷ hex c.args.range.address) (32 ∷ hex c.args.range.size) (spelled_range c.args.range) _ _ _ _ _ _ _ _ _ _ _ (range_is c.args.range) c.in-Ok.ensures c.put_hex-2.ensures
