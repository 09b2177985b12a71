use Rattle.sym_rules.proofs.BufferLemmas.{hands_failed, hands_through, hands_through_failed}
use Rattle.sym_rules.proofs.sink_buffer.put.Goals as goal

pub returns-in-Err : goal.returns-in-Err
returns-in-Err g c = hands_failed _ _ _ _ _ _ _ _ c.in-Err.ensures.front c.in-Err.ensures.faults c.in-Err.ensures.cause

pub returns-in-Ok-write_all : goal.returns-in-Ok-write_all
returns-in-Ok-write_all g c = hands_through _ _ _ _ _ _ _ _ _ _ c.in-Ok.ensures.written c.in-Ok-write_all.ensures.written c.in-Ok.ensures.empty c.in-Ok.ensures.faults c.in-Ok-write_all.ensures.faults

pub returns-in-Err-write_all : goal.returns-in-Err-write_all
returns-in-Err-write_all g c =
    hands_through_failed _ _ _ _ _ _ _ _ _ _ c.in-Ok.ensures.written c.in-Err-write_all.ensures.front c.in-Ok.ensures.faults c.in-Err-write_all.ensures.faults c.in-Err-write_all.ensures.cause
