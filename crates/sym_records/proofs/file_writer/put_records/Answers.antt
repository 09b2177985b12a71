use Rattle.std.proofs.Common.{arith}
use Rattle.sym_records.specs.Canon.{canon}
use Rattle.sym_records.specs.Canon.{canon_text}
use Rattle.sym_rules.proofs.BufferLemmas.{hands_none, hands_piece, hands_broken, hands_all}
use Rattle.sym_records.proofs.file_writer.put_records.Goals as goal

pub loop-line-init : goal.loop-line-init
loop-line-init g c = hands_none _ _ _

pub loop-line-preserved : goal.loop-line-preserved
loop-line-preserved g c =
    hands_piece canon c.args.lines.now c.loop-line.line-index c.line-item.result _ _ _ _ _ _ _ _ _ _ (omega arith) c.line-item.is c.loop-line.invariant c.in-Ok.ensures

pub returns-in-Err : goal.returns-in-Err
unfolding canon_text
returns-in-Err g c =
    hands_broken canon c.args.lines.now c.loop-line.line-index c.line-item.result _ _ _ _ _ _ _ _ _ _ _ _ (omega arith) c.line-item.is c.loop-line.invariant c.in-Err.ensures

pub returns : goal.returns
unfolding canon_text
returns g c = hands_all canon c.args.lines.now c.loop-line.line-index _ _ _ _ _ _ _ (omega arith) c.loop-line.invariant
