use Rattle.std.proofs.Common.{◌≡◌, length}
use Rattle.frame_rows.specs.Instructions.{listed_at}
use Rattle.frame_rows.specs.Rows.{all_stepped, first_fault}
use Rattle.frame_rows.proofs.run.run_to_end.Given as goal

abbrev pub invariant-rest : goal.invariant-rest
invariant-rest l = record {
  fault : first_fault l.context (listed_at l.encoding l.base l.cursor) l.machine ≡ first_fault l.context (listed_at l.encoding l.base l.fn.cursor) l.fn.machine;
  state : all_stepped l.context (listed_at l.encoding l.base l.cursor) l.machine ≡ all_stepped l.context (listed_at l.encoding l.base l.fn.cursor) l.fn.machine;
}

abbrev pub decreases-rest : goal.decreases-rest
decreases-rest l = length l.cursor.bytes
