-- Which entry gives a name, and how.
use Rattle.std.specs.Prelude.{ℕ, Bool, if◌then◌else◌, List, [], ◌∷◌, ◌++◌, codes, Option, None, Some, unwrap_or, option_and_then}
use Rattle.std.specs.List.{find}
use Rattle.std.specs.Option.{option_map, option_map_or, is_some}
use Rattle.die_names.specs.declared.name_source.How.{How}
use Rattle.die_names.specs.declared.name_source.How.TheVariants.{Linkage, Joined, Omitted}
use Rattle.die_names.specs.declared.name_source.NameRef.{NameRef}
use Rattle.debug_units.specs.declared.unit_read.UnitRead.{UnitRead}
use Rattle.debug_units.specs.UnitEntries.{Placed, entry_of}
use Rattle.die_names.specs.Names.{way, front_of}

abbrev pub name_at : Placed → How → NameRef
name_at p how = record { unit = p.unit; entry = p.entry; how = how }

abbrev pub has_linkage : Placed → Bool
has_linkage p = is_some p.die.linkage

abbrev pub has_name : Placed → Bool
has_name p = is_some p.die.name

-- the entry that gives the name: the first entry on the way with a linkage name, or else the first one with a name, or else the entry whose name is
-- asked for
abbrev pub joined_or : NameRef → Option Placed → NameRef
joined_or omitted None = omitted
joined_or omitted (Some p) = name_at p Joined

abbrev pub linkage_or : NameRef → Option Placed → NameRef
linkage_or other None = other
linkage_or other (Some p) = name_at p Linkage

unfoldable pub name_ref : List UnitRead → ℕ → ℕ → NameRef
name_ref units unit entry =
    let entries = way units 16 (entry_of units unit entry) in
    linkage_or (joined_or (record { unit = unit; entry = entry; how = Omitted }) (find has_name entries)) (find has_linkage entries)

-- the bytes of a name before it is cleaned
abbrev pub bytes_by : List UnitRead → How → Placed → Option (List ℕ)
bytes_by units Linkage p = p.die.linkage
bytes_by units Joined p = option_map (λ name. front_of units p ++ name) p.die.name
bytes_by units Omitted p = None

unfoldable pub name_bytes : List UnitRead → NameRef → List ℕ
name_bytes units name = unwrap_or (option_and_then (bytes_by units name.how) (entry_of units name.unit name.entry)) (codes "<name omitted>")

-- the bytes of a name before it is cleaned, if no names of scopes come before them, so that the
-- file has them as they are
abbrev pub unless_front : List ℕ → Option (List ℕ) → Option (List ℕ)
unless_front [] name = name
unless_front (b ∷ front) name = None

abbrev pub slice_by : List UnitRead → How → Placed → Option (List ℕ)
slice_by units Linkage p = p.die.linkage
slice_by units Joined p = unless_front (front_of units p) p.die.name
slice_by units Omitted p = None

unfoldable pub name_slice : List UnitRead → NameRef → Option (List ℕ)
name_slice units name = option_and_then (slice_by units name.how) (entry_of units name.unit name.entry)

-- the prefix that the scopes around the entry of a name give
abbrev pub scopes_of : List UnitRead → NameRef → List ℕ
scopes_of units name = option_map_or (front_of units) (entry_of units name.unit name.entry) []

-- the bytes, after the names of the scopes if `joined`
abbrev pub joined_bytes : List UnitRead → NameRef → Bool → List ℕ → List ℕ
joined_bytes units name joined bytes = if joined then scopes_of units name ++ bytes else bytes
