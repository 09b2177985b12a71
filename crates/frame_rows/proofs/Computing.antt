-- The definitions of frame_rows, and those below them, that a proof unfolds to compute a result
-- from given bytes.
use Rattle.std.specs.Prelude.{⊤}
use Rattle.std.specs.Int.{int_wrap}
use Rattle.code_table.proofs.Computing.{code_table_computes}
use Rattle.expr_steps.proofs.Computing.{expr_steps_computes}
use Rattle.frame_entries.proofs.Computing.{frame_entries_computes}
use Rattle.frame_rows.specs.Instructions.{block_at, operand_at, form_at, extended_form, form_of, instruction_at, listed_in, listed_at, listed_by, instructions}
use Rattle.frame_rows.specs.Rows.{all_stepped, first_fault, replay, empty_row, cie_context, cie_items, cie_begin, cie_end, left_context, own_context, own_items, own_begin, row_at, moves, stops, instruction_fault, lacks_cfa, rows_fault, last_at}
use Rattle.frame_rows.specs.CieLeft.{cie_left}
use Rattle.frame_rows.specs.Steps.{put_cfa, put_cfa_expr, can_say, put_register, put_offset, put_rule, stepped, step_fault}
use Rattle.frame_rows.specs.internal.Walk.{rows_from}

unfoldable pub frame_rows_computes : ⊤
unfolding int_wrap code_table_computes expr_steps_computes frame_entries_computes block_at operand_at form_at extended_form form_of instruction_at listed_in listed_at listed_by instructions all_stepped first_fault replay empty_row cie_context cie_items cie_begin cie_end left_context own_context own_items own_begin row_at moves stops instruction_fault lacks_cfa rows_fault last_at put_cfa put_cfa_expr can_say put_register put_offset put_rule stepped step_fault rows_from cie_left
frame_rows_computes = tt
