use Rattle.std.proofs.Common.{◌≡◌, ◌≤◌, ℕ, length}
use Rattle.frame_rows.specs.Instructions.{listed_at}
use Rattle.frame_rows.specs.Columns.{StayOutside}
use Rattle.frame_rows.specs.Rows.{all_stepped, first_fault}
use Rattle.frame_rows.specs.internal.Walk.{rows_from}
use Rattle.frame_rows.proofs.run.run_to_next_row.Given as goal

abbrev pub invariant-turns : goal.invariant-turns
invariant-turns l = record {
  fault : first_fault l.context (listed_at l.encoding l.base l.cursor) l.machine ≡ first_fault l.context (listed_at l.encoding l.base l.fn.cursor) l.fn.machine;
  state : all_stepped l.context (listed_at l.encoding l.base l.cursor) l.machine ≡ all_stepped l.context (listed_at l.encoding l.base l.fn.cursor) l.fn.machine;
  stays : StayOutside l.columns l.fn.machine.row l.machine.row;
  here : l.machine.address ≡ l.fn.machine.address;
  rows : (end : ℕ) → rows_from end l.context (listed_at l.encoding l.base l.cursor) l.machine ≡ rows_from end l.context (listed_at l.encoding l.base l.fn.cursor) l.fn.machine;
  fewer : length l.cursor.bytes ≤ length l.fn.cursor.bytes;
}

abbrev pub decreases-turns : goal.decreases-turns
decreases-turns l = length l.cursor.bytes
