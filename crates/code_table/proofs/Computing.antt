-- The definitions of code_table and of leb_cursor that a proof unfolds to compute a worked example.
use Rattle.std.specs.Prelude.{⊤}
use Rattle.leb_cursor.proofs.Computing.{leb_cursor_computes}
use Rattle.code_table.specs.ExprOps.{expr_opcodes}
use Rattle.code_table.specs.Forms.{forms, form_row, form_layouts}
use Rattle.code_table.specs.FrameOps.{frame_opcodes}
use Rattle.code_table.specs.LineOps.{line_opcodes}
use Rattle.code_table.specs.Layouts.{run_at, kind_at, shape_at}
use Rattle.code_table.specs.Rows.{shape_of}

unfoldable pub code_table_computes : ⊤
unfolding forms form_row form_layouts frame_opcodes line_opcodes expr_opcodes run_at kind_at shape_at shape_of leb_cursor_computes
code_table_computes = tt
