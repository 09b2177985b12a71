use Rattle.std.proofs.Common.{◌∷◌, ◌++◌, refl}
use Rattle.sym_records.specs.Fields.{hex, mark}
use Rattle.sym_records.proofs.HandingLemmas.{one_hands, one_off}
use Rattle.sym_records.proofs.line_speller.put_marked.Goals as goal

pub returns-in-Err : goal.returns-in-Err
returns-in-Err g c = one_off (mark c.args.many) (32 ∷ hex c.args.number) (mark c.args.many ++ 32 ∷ hex c.args.number) _ _ _ _ _ _ _ _ _ (refl) c.in-Err.ensures

pub returns : goal.returns
returns g c = one_hands (mark c.args.many) (32 ∷ hex c.args.number) (mark c.args.many ++ 32 ∷ hex c.args.number) _ _ _ _ _ _ _ _ _ _ _ (refl) c.in-Ok.ensures c.put_hex.ensures
