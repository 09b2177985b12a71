use Rattle.std.proofs.Common.{arith}
use Rattle.func_records.proofs.PathLemmas.{text_next}
use Rattle.func_records.proofs.paths.make_texts.Goals as goal

pub refs-preserved : goal.refs-preserved
refs-preserved c = text_next c.args.units.now c.args.refs.now c.refs.place _ _ _ (omega arith) c.in_ok-add_text.ensures c.refs.invariant
