-- What a proof unfolds to compute the definitions of die_walk and of the crates below it where the input is written out.
use Rattle.std.specs.Prelude.{⊤}
use Rattle.abbrev_units.proofs.Computing.{abbrev_units_computes}
use Rattle.abbrev_units.specs.KeptTags.{is_kept_tag}
use Rattle.die_walk.specs.Marks.{value_fault, read_values_at, mark_by, mark_at, next_mark, marks_at}
use Rattle.die_walk.specs.EntryTree.{items_from, kept_count, ancestor, kept_from}
use Rattle.abbrev_units.specs.Attributes.{first_of, text_in_entry}
use Rattle.die_walk.specs.EntryKinds.{is_function, is_inlined, counts, is_scope}
use Rattle.die_walk.specs.EntryTable.{die_of, root_of, table_of, entry_table}

unfoldable pub die_walk_computes : ⊤
unfolding is_function is_inlined counts is_scope value_fault read_values_at mark_by mark_at next_mark marks_at items_from is_kept_tag kept_count ancestor kept_from first_of text_in_entry die_of root_of table_of entry_table abbrev_units_computes
die_walk_computes = tt
