use Rattle.std.proofs.Common.{ap}
use Rattle.sym_records.specs.Canon.{canon_text}
use Rattle.sym_rules.proofs.BufferLemmas.{hands_whole, hands_not_on, hands_front}
use Rattle.sym_records.proofs.file_writer.write_file.Goals as goal

pub returns-in-Err-clause-front : goal.returns-in-Err-clause-front
returns-in-Err-clause-front g c = hands_front _ _ _ _ _ _ _ _ _ c.new-waiting.ensures (ap canon_text c.as_slice.ensures.lines) c.in-Err.ensures

pub returns-in-Ok-hand_on-clause-written : goal.returns-in-Ok-hand_on-clause-written
returns-in-Ok-hand_on-clause-written g c =
    hands_whole _ _ _ _ _ _ c.new-waiting.result _ _ _ c.new-waiting.ensures (ap canon_text c.as_slice.ensures.lines) c.in-Ok.ensures c.in-Ok-hand_on.ensures.written

pub returns-in-Err-hand_on-clause-front : goal.returns-in-Err-hand_on-clause-front
returns-in-Err-hand_on-clause-front g c =
    hands_not_on _ _ _ _ _ _ c.new-waiting.result _ _ _ c.new-waiting.ensures (ap canon_text c.as_slice.ensures.lines) c.in-Ok.ensures c.in-Err-hand_on.ensures.front
