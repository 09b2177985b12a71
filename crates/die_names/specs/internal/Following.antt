-- The way of an entry, followed entry by entry.
use Rattle.std.specs.Prelude.{Bool, true, false, ◌&&◌, if◌then◌else◌, List, [], ◌∷◌}
use Rattle.die_names.specs.declared.name_source.How.{How}
use Rattle.die_names.specs.declared.name_source.How.TheVariants.{Linkage, Joined, Omitted}
use Rattle.die_names.specs.declared.name_source.NameRef.{NameRef}
use Rattle.die_walk.specs.EntryTable.{DieFields}
use Rattle.debug_units.specs.declared.unit_read.EntryRef.{EntryRef}
use Rattle.debug_units.specs.UnitEntries.{Placed}
use Rattle.die_names.specs.NameRefs.{name_at, has_linkage, has_name}

abbrev pub is_omitted : How → Bool
is_omitted Omitted = true
is_omitted Linkage = false
is_omitted Joined = false

-- which entry gives the name after the way was followed up to the entry `p`, if no later entry has
-- a linkage name
abbrev pub noted : NameRef → Placed → NameRef
noted best p = if is_omitted best.how && has_name p then name_at p Joined else best

abbrev pub noted_at : NameRef → EntryRef → DieFields → NameRef
noted_at best s die = noted best (record { unit = s.unit; entry = s.entry; die = die })

abbrev pub followed : NameRef → List Placed → NameRef
followed best [] = best
followed best (p ∷ rest) = if has_linkage p then name_at p Linkage else followed (noted best p) rest
