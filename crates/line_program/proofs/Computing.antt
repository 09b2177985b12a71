-- What a proof unfolds to compute the definitions of line_program, and of the crates below it, where the input is written out.
use Rattle.std.specs.Prelude.{⊤}
use Rattle.std.specs.Int.{int_wrap}
use Rattle.abbrev_units.proofs.Computing.{abbrev_units_computes}
use Rattle.range_set.specs.Enclosing.{encloses}
use Rattle.clean_names.proofs.Computing.{clean_names_computes}
use Rattle.sym_edges.proofs.Shown.{shown}
use Rattle.line_program.specs.FileTables.{old_entry_at, old_tables_at, pair_at, pairs_at, value_at, values_at, content_of, entry_at, counted_at, entries_at, new_tables_at, tables_at}
use Rattle.line_program.specs.Headers.{this_byte_at, some_byte_at, is_version, sizes_at, operations_at, program_at, header_behind, header_at, table_at}
use Rattle.line_program.specs.LineAt.{least_address, row_at, row_in, line_at}
use Rattle.line_program.specs.LineRows.{moved, carried, all_carried, run_from}
use Rattle.line_program.specs.LineTables.{lines_of, lines_at, unit_lines}
use Rattle.line_program.specs.Lists.{several_at}
use Rattle.line_program.specs.Opcodes.{pass_ulebs, file_behind, define_file_at, set_address_at, extended_of, extended_in, extended_at, standard_at, behind_opcode, opcode_at, next_at, opcodes_at}
use Rattle.line_program.specs.Paths.{joined, root_of, directories_of, file_path}

unfoldable pub line_program_computes : ⊤
unfolding int_wrap abbrev_units_computes encloses clean_names_computes shown old_entry_at old_tables_at pair_at pairs_at value_at values_at content_of entry_at counted_at entries_at new_tables_at tables_at this_byte_at some_byte_at is_version sizes_at operations_at program_at header_behind header_at table_at least_address row_at row_in line_at moved carried all_carried run_from lines_of lines_at unit_lines several_at pass_ulebs file_behind define_file_at set_address_at extended_of extended_in extended_at standard_at behind_opcode opcode_at next_at opcodes_at joined root_of directories_of file_path
line_program_computes = tt
