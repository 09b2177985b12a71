-- The definitions of die_names that a proof unfolds to compute a worked example.
use Rattle.std.specs.Prelude.{⊤}
use Rattle.clean_names.proofs.Computing.{clean_names_computes}
use Rattle.die_walk.specs.EntryKinds.{is_function, is_inlined, counts, is_scope}
use Rattle.debug_units.specs.UnitEntries.{entry_at, entry_of}
use Rattle.die_names.specs.Names.{way, around, scope_front, front_of, entry_name}

unfoldable pub die_names_computes : ⊤
unfolding clean_names_computes entry_at entry_of is_function is_inlined counts way around is_scope scope_front front_of entry_name
die_names_computes = tt
