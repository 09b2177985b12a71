-- What a proof unfolds to compute the definitions of elf_sections where the input is written out.
use Rattle.std.specs.Prelude.{⊤}
use Rattle.leb_cursor.proofs.Computing.{leb_cursor_computes}
use Rattle.text_table.proofs.Computing.{text_table_computes}
use Rattle.elf_sections.specs.Numbers.{u16_at, u32_at, u64_at}
use Rattle.elf_sections.specs.Strings.{string_at}
use Rattle.elf_sections.specs.FileHeader.{header_of, type_of, machine_of, is_not_elf, is_other_kind, has_sections, machine_fault, ident_fault, section_table_fault, header_fault, sup_header_fault}
use Rattle.elf_sections.specs.Sections.{section_at, sections_from, sections, is_empty_kind, content, bytes_of, name_table, names, is_named, is_named_from, is_read_kind, is_read, leaves_file, is_compressed, names_fault, bytes_fault, compressed_fault}
use Rattle.elf_sections.specs.Programs.{program_at, has_programs, program_fault, programs_from, programs, loaded_address, base, is_code, code_range, code, is_in_code}
use Rattle.elf_sections.specs.Notes.{padded, note_len, has_note, note_at, after_note, notes_in, notes, is_build_id, first_id, notes_of, build_id}
use Rattle.elf_sections.specs.Identity.{folded_byte, folded, front16}
use Rattle.elf_sections.specs.Symbols.{symbol_at, entries_of, entries, is_function, symbol_table, linked, is_nameless, function_of, has_nameless, functions, symbols_fault, symbols}
use Rattle.elf_sections.specs.SupLinks.{link_section}
use Rattle.elf_sections.specs.Image.{part_named, identity_fault, loaded_fault, image_fault, parts_of, image}
use Rattle.elf_sections.specs.Pair.{symbols_in, paired}
use Rattle.elf_sections.specs.Supplement.{sup_parts_of, with_sup}

unfoldable pub elf_sections_computes : ⊤
unfolding leb_cursor_computes text_table_computes u16_at u32_at u64_at string_at header_of type_of machine_of is_not_elf is_other_kind has_sections machine_fault ident_fault section_table_fault header_fault sup_header_fault section_at sections_from sections is_empty_kind content bytes_of name_table names is_named is_named_from is_read_kind is_read leaves_file is_compressed names_fault bytes_fault compressed_fault program_at has_programs program_fault programs_from programs loaded_address base is_code code_range code is_in_code padded note_len has_note note_at after_note notes_in notes is_build_id first_id notes_of build_id folded_byte folded front16 symbol_at entries_of entries is_function symbol_table linked is_nameless function_of has_nameless functions symbols_fault symbols part_named identity_fault loaded_fault image_fault parts_of image link_section symbols_in paired sup_parts_of with_sup
elf_sections_computes = tt
