-- The addresses of an entry (DWARF 5, 2.17; DWARF 4, 2.17).
use Rattle.std.specs.Prelude.{◌≡◌, ℕ, ◌+◌, ◌*◌, ◌&&◌, ◌||◌, nat_lt, Bool, false, if◌then◌else◌, List, [], ◌∷◌, Option, None, Some, unwrap_or, Result, Ok, Err}
use Rattle.std.specs.Int.{w64, cast_unsigned}
use Rattle.sym_edges.specs.Addresses.{Range}
use Rattle.sym_edges.specs.Results.{◌>>=◌}
use Rattle.sym_edges.specs.declared.fault.Stop.{Stop}
use Rattle.sym_edges.specs.declared.fault.Stop.TheVariants.{Fault, NoMemory}
use Rattle.sym_edges.specs.declared.located.Located.{Located}
use Rattle.sym_edges.specs.declared.part.Sect.TheVariants as section
use Rattle.leb_cursor.specs.Ahead.{Ahead}
use Rattle.range_set.specs.Members.{holds, holds_any}
use Rattle.range_set.specs.Enclosing.{encloses}
use Rattle.abbrev_units.specs.declared.fault.DwarfKind.{DwarfKind}
use Rattle.abbrev_units.specs.declared.fault.DwarfKind.TheVariants as is
use Rattle.abbrev_units.specs.declared.unit.Unit.{Unit}
use Rattle.abbrev_units.specs.declared.value.Value.{Value}
use Rattle.abbrev_units.specs.declared.value.Value.TheVariants as value
use Rattle.abbrev_units.specs.DebugSections.{DebugSections}
use Rattle.abbrev_units.specs.Texts.{place_width}
use Rattle.die_walk.specs.EntryKinds.{counts}
use Rattle.die_walk.specs.EntryTable.{DieFields, RootFields}
use Rattle.range_lists.specs.AddressTable.{AddressTable}
use Rattle.range_lists.specs.Places.{entry_fault, ahead_in, number_there, address_of}
use Rattle.range_lists.specs.ListPairs.{moved, list_pairs}

-- the address table for the entry at the place `at`
abbrev pub addresses_for : DebugSections → RootFields → ℕ → AddressTable
addresses_for sections root at = record { bytes = sections.addr; base = root.addr_base; at = at }

-- the base of a unit, from which the offsets in its lists count: the root's low address, or 0 (DWARF 5, 3.1.1)
abbrev pub base_by : DebugSections → RootFields → Option Value → Result ℕ (Located DwarfKind)
base_by sections root None = Ok 0
base_by sections root (Some low) = address_of (addresses_for sections root root.at) low >>= λ address. Ok (unwrap_or address 0)

unfoldable pub unit_base : DebugSections → RootFields → Result ℕ (Located DwarfKind)
unit_base sections root = base_by sections root root.low

-- the section of a unit's lists: `.debug_ranges` before version 5, `.debug_rnglists` from version 5 on
abbrev pub list_bytes : DebugSections → Unit → List ℕ
list_bytes sections unit = if nat_lt unit.version 5 then sections.ranges else sections.rnglists

-- the place of a list, given its index (DWARF 5, 7.28): an array at rnglists_base has the offset of each list from rnglists_base
abbrev pub list_by_number : DebugSections → Unit → Option ℕ → ℕ → ℕ → Result ℕ (Located DwarfKind)
list_by_number sections unit None at index = Err (entry_fault is.NoBase at)
list_by_number sections unit (Some base) at index =
    number_there section.Rnglists (place_width unit.wide) sections.rnglists at (base + place_width unit.wide * index) >>= λ offset. Ok (base + offset)

-- the place of an entry's list, if the entry has a list; before version 5 a list cannot be given by index
unfoldable pub list_place : DebugSections → Unit → RootFields → ℕ → Option Value → Result (Option ℕ) (Located DwarfKind)
list_place sections unit root at (Some (value.SecOffset place)) = Ok (Some place)
list_place sections unit root at (Some (value.Num place)) = Ok (Some place)
list_place sections unit root at (Some (value.ListIndex index)) =
    if nat_lt unit.version 5 then Ok None else (list_by_number sections unit root.rnglists_base at index >>= λ place. Ok (Some place))
list_place sections unit root at _ = Ok None

-- the bytes from the start of an entry's list on, if the entry has a list
abbrev pub list_from : List ℕ → ℕ → Option ℕ → Result (Option Ahead) (Located DwarfKind)
list_from bytes at None = Ok None
list_from bytes at (Some place) = ahead_in bytes at place >>= λ list. Ok (Some list)

unfoldable pub list_of : DebugSections → Unit → RootFields → ℕ → Option Value → Result (Option Ahead) (Located DwarfKind)
list_of sections unit root at ranges = list_place sections unit root at ranges >>= λ place. list_from (list_bytes sections unit) at place

-- the end of the range that begins at `start` (DWARF 5, 2.17.2): DW_AT_high_pc is an address, or a number that is added to the start
unfoldable pub end_of : AddressTable → ℕ → Value → Result (Option ℕ) (Located DwarfKind)
end_of table start (value.Num len) = Ok (Some (moved start len))
end_of table start (value.Signed len) = Ok (Some (moved start (cast_unsigned w64 len)))
end_of table start high = address_of table high

-- the pair of a start and an end, if both are there
abbrev pub pair_by : ℕ → Option ℕ → List Range
pair_by start None = []
pair_by start (Some end) = record { start = start; end = end } ∷ []

abbrev pub pair_from : AddressTable → Option ℕ → Value → Result (List Range) (Located DwarfKind)
pair_from table None high = Ok []
pair_from table (Some start) high = end_of table start high >>= λ end. Ok (pair_by start end)

-- the pair of low_pc and high_pc, if the entry has both
abbrev pub bounds_by : AddressTable → Option Value → Option Value → Result (List Range) (Located DwarfKind)
bounds_by table (Some low) (Some high) = address_of table low >>= λ start. pair_from table start high
bounds_by table (Some low) None = Ok []
bounds_by table None high = Ok []

-- the pairs of an entry: those of its list or, without a list, low_pc and high_pc
abbrev pub pairs_by : AddressTable → ℕ → ℕ → DieFields → Option Ahead → Result (List Range) (Located DwarfKind)
pairs_by table version base die (Some list) = list_pairs version table base list
pairs_by table version base die None = bounds_by table die.low die.high

-- the pairs that an entry gives, or its first fault; an entry that does not count gives no pairs. `base` is the unit's base
unfoldable pub pairs_of : DebugSections → Unit → RootFields → ℕ → DieFields → Result (List Range) (Located DwarfKind)
pairs_of sections unit root base die =
    if counts die
    then (list_of sections unit root die.at die.ranges >>= λ list. pairs_by (addresses_for sections root die.at) unit.version base die list)
    else Ok []

-- a pair of addresses is code if it is not empty and one range of the code encloses it
abbrev pub is_code : List Range → Range → Bool
is_code code pair = nat_lt pair.start pair.end && encloses code pair.start pair.end

-- whether the address is in a pair that is code
abbrev pub in_pairs : List Range → List Range → ℕ → Bool
in_pairs code [] a = false
in_pairs code (pair ∷ pairs) a = (is_code code pair && holds pair a) || in_pairs code pairs a

-- whether an address is in one of the pairs that are code; if the pairs could not be read, the
-- fault of that
abbrev pub in_ranges : List Range → Result (List Range) (Located DwarfKind) → ℕ → Result Bool (Located DwarfKind)
in_ranges code given a = given >>= λ pairs. Ok (in_pairs code pairs a)

-- a result is the set of all addresses in the given pairs that are code, or the fault with which
-- the pairs could not be read; if memory ran out, nothing is promised
abbrev pub IsRanges : List Range → Result (List Range) (Stop (Located DwarfKind)) → Result (List Range) (Located DwarfKind) → Type 0
IsRanges code (Ok set) given = (a : ℕ) → in_ranges code given a ≡ Ok (holds_any set a)
IsRanges code (Err (Fault fault)) given = given ≡ Err fault
IsRanges code (Err NoMemory) given = Prim.Unit {0}

-- the pairs of the entry at an index of the table; an index after the last entry has no pairs
abbrev pub pairs_at : DebugSections → Unit → RootFields → ℕ → Option DieFields → Result (List Range) (Located DwarfKind)
pairs_at sections unit root base None = Ok []
pairs_at sections unit root base (Some die) = pairs_of sections unit root base die

-- the result is not out of memory
abbrev pub IsGiven : {A F : Type 0} → Result A (Stop F) → Type 0
IsGiven (Ok x) = Prim.Unit {0}
IsGiven (Err (Fault fault)) = Prim.Unit {0}
IsGiven (Err NoMemory) = ⊥

-- there is no entry, or it has no DW_AT_ranges
abbrev pub HasNoList : Option DieFields → Type 0
HasNoList None = Prim.Unit {0}
HasNoList (Some die) = die.ranges ≡ None

-- the place, if it was found without a fault
abbrev pub told_place : Result (Option ℕ) (Located DwarfKind) → Option ℕ
told_place (Ok place) = place
told_place (Err fault) = None

-- the place of an entry's list in its section; none if the entry does not count, has no list, or if
-- finding the place gives a fault
unfoldable pub place_of_list : DebugSections → Unit → RootFields → DieFields → Option ℕ
place_of_list sections unit root die =
    if counts die then told_place (list_place sections unit root die.at die.ranges) else None

-- the place of the list of the entry at an index of the table; an index after the last entry has no place
abbrev pub listed_at : DebugSections → Unit → RootFields → Option DieFields → Option ℕ
listed_at sections unit root None = None
listed_at sections unit root (Some die) = place_of_list sections unit root die
