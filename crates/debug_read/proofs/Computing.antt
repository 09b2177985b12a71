-- The definitions of debug_read and of the crates below it that a proof unfolds to compute a worked
-- example.
use Rattle.std.specs.Prelude.{⊤}
use Rattle.line_program.proofs.Computing.{line_program_computes}
use Rattle.range_lists.proofs.Computing.{range_lists_computes}
use Rattle.frame_entries.proofs.Computing.{frame_entries_computes}
use Rattle.die_names.proofs.Computing.{die_names_computes}
use Rattle.debug_read.specs.Each.{each_of}
use Rattle.debug_read.specs.UnitSays.{root_lines, unit_pairs, unit_says}
use Rattle.debug_read.specs.UnitsRead.{has_function}
use Rattle.debug_read.specs.DebugSays.{file_says, both_says, debug_says}

unfoldable pub debug_read_computes : ⊤
unfolding line_program_computes range_lists_computes frame_entries_computes die_names_computes each_of root_lines unit_pairs unit_says has_function file_says both_says debug_says
debug_read_computes = tt
