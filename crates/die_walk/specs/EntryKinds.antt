-- The kinds of entries, by their tags (DWARF 5, table 7.3).
use Rattle.std.specs.Prelude.{◌==◌, ◌&&◌, ◌||◌, not, Bool}
use Rattle.die_walk.specs.EntryTable.{DieFields}

-- a function: an entry with DW_TAG_subprogram that is not a declaration (DWARF 5, 3.3)
unfoldable pub is_function : DieFields → Bool
is_function die = die.tag == 0x2e && not die.declaration

-- an inlined copy of a function: DW_TAG_inlined_subroutine
unfoldable pub is_inlined : DieFields → Bool
is_inlined die = die.tag == 0x1d

-- whether the addresses of the entry count: it is a function or an inlined copy
unfoldable pub counts : DieFields → Bool
counts die = is_function die || is_inlined die

-- a scope, which qualifies the names in it: DW_TAG_class_type, DW_TAG_structure_type, DW_TAG_union_type, DW_TAG_namespace
unfoldable pub is_scope : DieFields → Bool
is_scope die = die.tag == 0x02 || (die.tag == 0x13 || (die.tag == 0x17 || die.tag == 0x39))
