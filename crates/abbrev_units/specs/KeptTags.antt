-- The tags of the entries that are kept.
use Rattle.std.specs.Prelude.{ℕ, ◌==◌, ◌||◌, Bool}

-- the tags that are kept (DWARF 5, table 7.3): DW_TAG_class_type, DW_TAG_structure_type, DW_TAG_union_type, DW_TAG_inlined_subroutine,
-- DW_TAG_subprogram, DW_TAG_namespace
unfoldable pub is_kept_tag : ℕ → Bool
is_kept_tag tag = tag == 0x02 || (tag == 0x13 || (tag == 0x17 || (tag == 0x1d || (tag == 0x2e || tag == 0x39))))
