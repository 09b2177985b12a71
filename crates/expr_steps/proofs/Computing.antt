-- The definitions of this crate that a proof unfolds to compute a worked example.
use Rattle.std.specs.Prelude.{⊤}
use Rattle.std.specs.Int.{int_wrap}
use Rattle.sym_edges.proofs.Hex.{bytes, hex}
use Rattle.leb_cursor.specs.Lists.{list_in, list_at}
use Rattle.code_table.proofs.Computing.{code_table_computes}
use Rattle.expr_steps.specs.Operations.{behind_opcode, operation_at, next_operation, operations_at, operations}
use Rattle.expr_steps.specs.Steps.{mask_size, steps_of, steps_at, steps}
use Rattle.expr_steps.specs.Standing.{depth_after, standing_by, standing_of, standing}
use Rattle.expr_steps.specs.Places.{place_of, bytes_at}

unfoldable pub expr_steps_computes : ⊤
unfolding code_table_computes int_wrap bytes hex list_in list_at behind_opcode operation_at next_operation operations_at operations mask_size steps_of steps_at steps depth_after standing_by standing_of standing place_of bytes_at
expr_steps_computes = tt
