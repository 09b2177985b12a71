-- The definitions of core_file that a proof unfolds to compute a result from given bytes.
use Rattle.std.specs.Prelude.{⊤}
use Rattle.elf_sections.proofs.Computing.{elf_sections_computes}
use Rattle.clean_names.proofs.Computing.{clean_names_computes}
use Rattle.core_file.specs.Code.{is_executable, has_code, has_page, module_has, is_code}
use Rattle.core_file.specs.Core.{has_no_thread, core_fault, memory_of, parts_upto, parts_of, core}
use Rattle.core_file.specs.CoreHeader.{ident_fault, has_segments, header_fault}
use Rattle.core_file.specs.CoreNotes.{is_prstatus, is_files, has_state, file_count, files_size, has_files, is_whole_note, left_over, are_whole_notes, has_bad_note, note_fault, notes_of, all_notes}
use Rattle.core_file.specs.HeldBlocks.{first_blocks, held_blocks, is_past, is_too_long}
use Rattle.core_file.specs.LoadedImages.{page_down, page_up, is_file_header, table_at, headers_by, headers_at, top, image_end, image_base, image_at, place_of, image_notes_of, image_id}
use Rattle.core_file.specs.MappedFiles.{front_text, behind_text, files_from, files_of, files_in}
use Rattle.core_file.specs.Memory.{present, gives, given, byte_at, front_at, word_at}
use Rattle.core_file.specs.Modules.{behind_slash, without_deleted, module_name, end_behind, module_of, first_page_of, is_own_page, begins_module, modules_from, modules_in}
use Rattle.core_file.specs.Segments.{segment_at, segments_from, segments, bytes_of, is_bad, segment_fault}
use Rattle.core_file.specs.Threads.{register_at, registers_of, thread_of, threads_in}

unfoldable pub core_file_computes : ⊤
unfolding elf_sections_computes clean_names_computes is_executable has_code has_page module_has is_code has_no_thread core_fault memory_of parts_upto parts_of core ident_fault has_segments header_fault is_prstatus is_files has_state file_count files_size has_files is_whole_note left_over are_whole_notes has_bad_note note_fault notes_of all_notes first_blocks held_blocks is_past is_too_long page_down page_up is_file_header table_at headers_by headers_at top image_end image_base image_at place_of image_notes_of image_id front_text behind_text files_from files_of files_in present gives given byte_at front_at word_at behind_slash without_deleted module_name end_behind module_of first_page_of is_own_page begins_module modules_from modules_in segment_at segments_from segments bytes_of is_bad segment_fault register_at registers_of thread_of threads_in
core_file_computes = tt
