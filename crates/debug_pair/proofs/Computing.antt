-- What a proof unfolds to compute the definitions of this crate where the input is written out.
use Rattle.std.specs.Prelude.{⊤}
use Rattle.std.specs.Char.{encode_utf8}
use Rattle.std.specs.Str.{is_utf8, chars}
use Rattle.hex.specs.Hex.{encode_with}
use Rattle.leb_cursor.proofs.Computing.{leb_cursor_computes}
use Rattle.elf_sections.specs.Identity.{front16}
use Rattle.debug_pair.specs.ModuleId.{turned, module_id}
use Rattle.debug_pair.specs.SymbolPath.{symbol_path}
use Rattle.debug_pair.specs.SupLink.{sup_front_at, sup_name_at, sup_fields, checked, link_in_altlink, sup_link, is_of_link}
use Rattle.debug_pair.specs.SupPath.{last_place, before_last, behind_last, has_parent, path_beside, sup_path}

unfoldable pub debug_pair_computes : ⊤
unfolding encode_utf8 is_utf8 chars encode_with leb_cursor_computes front16 turned module_id symbol_path sup_front_at sup_name_at sup_fields checked link_in_altlink sup_link is_of_link last_place before_last behind_last has_parent path_beside sup_path
debug_pair_computes = tt
