-- The state after the instructions of a CIE (DWARF 5, 6.4.1 and 6.4.2), from which each FDE of the CIE continues.
use Rattle.std.specs.Prelude.{Option, Some, None, Result, Ok, Err}
use Rattle.sym_edges.specs.declared.reason.Reason.{Reason}
use Rattle.frame_entries.specs.FdeFields.{FdeFields}
use Rattle.frame_rows.specs.Left.{Left}
use Rattle.frame_rows.specs.Rows.{first_fault, cie_context, cie_items, cie_begin, cie_end, left_context}

-- `left`, unless there is a reason against it
abbrev pub left_unless : Option Reason → Left → Result Left Reason
left_unless None left = Ok left
left_unless (Some why) left = Err why

-- the state that the initial instructions of an entry leave, or the reason against the first bad one
unfoldable pub cie_left : FdeFields → Result Left Reason
cie_left e =
    left_unless (first_fault (cie_context e) (cie_items e) (cie_begin e))
    (record { context = left_context e; stack = (cie_end e).stack })
