-- The names of entries (DWARF 5, 2.15 and 3.3.8).
use Rattle.std.specs.Prelude.{ℕ, zero, suc, ◌==◌, false, if◌then◌else◌, List, [], ◌∷◌, ◌++◌, codes, Option, None, Some, unwrap_or, option_and_then}
use Rattle.std.specs.List.{slice_get}
use Rattle.std.specs.Option.{option_map, option_map_or}
use Rattle.clean_names.specs.Cleaning.{cleaned}
use Rattle.abbrev_units.specs.Attributes.{or_else}
use Rattle.die_walk.specs.EntryKinds.{is_scope}
use Rattle.die_walk.specs.EntryTable.{DieFields}
use Rattle.debug_units.specs.declared.unit_read.UnitRead.{UnitRead}
use Rattle.debug_units.specs.UnitEntries.{Placed, entry_at, entry_of}

-- the link of an entry: its DW_AT_abstract_origin, or else its DW_AT_specification
abbrev pub link_of : DieFields → Option ℕ
link_of die = or_else die.origin die.spec

abbrev pub linked_from : List UnitRead → DieFields → Option Placed
linked_from units die = option_and_then (entry_at units) (link_of die)

-- the way of an entry: the entry itself and those that at most `links` links reach
unfoldable pub way : List UnitRead → ℕ → Option Placed → List Placed
way units links None = []
way units zero (Some p) = p ∷ []
way units (suc links) (Some p) = p ∷ way units links (linked_from units p.die)

-- the numbers of the entries around an entry whose parent is `parent`, beginning with the
-- innermost. An entry comes after its parent, so only the first `number` entries are searched
unfoldable pub around : List DieFields → ℕ → Option ℕ → List ℕ
around dies zero parent = []
around dies (suc number) parent =
    if option_map_or (λ p. p == number) parent false
    then option_map_or (λ die. number ∷ around dies number die.parent) (slice_get dies number) []
    else around dies number parent

-- the name of a scope: `<name omitted>` if the name is in a supplementary file that was not read, `(anonymous)` if the scope has no name
abbrev pub scope_name : DieFields → List ℕ
scope_name die = unwrap_or die.name (if die.name_elsewhere then codes "<name omitted>" else codes "(anonymous)")

-- the prefix that a scope gives to a name; an entry that is no scope gives none
unfoldable pub scope_front : DieFields → List ℕ
scope_front die = if is_scope die then scope_name die ++ codes "::" else []

abbrev pub front_at : List DieFields → ℕ → List ℕ
front_at dies number = option_map_or scope_front (slice_get dies number) []

-- the prefixes that the entries with these numbers give; the numbers begin with the innermost entry, the prefixes with the outermost
abbrev pub fronts : List DieFields → List ℕ → List ℕ
fronts dies [] = []
fronts dies (number ∷ outer) = fronts dies outer ++ front_at dies number

-- the entries of a unit
abbrev pub dies_of : Option UnitRead → List DieFields
dies_of None = []
dies_of (Some part) = part.die.dies

abbrev pub front_in : List DieFields → ℕ → Option ℕ → List ℕ
front_in dies entry parent = fronts dies (around dies entry parent)

unfoldable pub front_of : List UnitRead → Placed → List ℕ
front_of units p = front_in (dies_of (slice_get units p.unit)) p.entry p.die.parent

-- the first linkage name on a way
abbrev pub first_linkage : List Placed → Option (List ℕ)
first_linkage [] = None
first_linkage (p ∷ rest) = or_else p.die.linkage (first_linkage rest)

-- the first name on a way, after the names of the scopes around the entry that has it
abbrev pub first_joined : List UnitRead → List Placed → Option (List ℕ)
first_joined units [] = None
first_joined units (p ∷ rest) = or_else (option_map (λ name. front_of units p ++ name) p.die.name) (first_joined units rest)

abbrev pub name_on : List UnitRead → List Placed → List ℕ
name_on units entries = unwrap_or (or_else (first_linkage entries) (first_joined units entries)) (codes "<name omitted>")

-- the name of an entry, cleaned for records
unfoldable pub entry_name : List UnitRead → ℕ → ℕ → List ℕ
entry_name units unit entry = cleaned (name_on units (way units 16 (entry_of units unit entry)))
