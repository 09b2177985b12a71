-- Places in a section to which an entry refers, and the numbers at these places.
use Rattle.std.specs.Prelude.{ℕ, ◌+◌, ◌*◌, nat_lt, if◌then◌else◌, List, length, Option, None, Some, Result, Ok, Err}
use Rattle.sym_edges.specs.Results.{◌>>=◌}
use Rattle.sym_edges.specs.declared.located.Located.{Located}
use Rattle.sym_edges.specs.declared.part.Sect.{Sect}
use Rattle.sym_edges.specs.declared.part.Sect.TheVariants as section
use Rattle.leb_cursor.specs.Ahead.{Ahead}
use Rattle.leb_cursor.specs.Readings.{fixed_at}
use Rattle.abbrev_units.specs.declared.fault.DwarfKind.{DwarfKind}
use Rattle.abbrev_units.specs.declared.fault.DwarfKind.TheVariants as is
use Rattle.abbrev_units.specs.declared.value.Value.{Value}
use Rattle.abbrev_units.specs.declared.value.Value.TheVariants as value
use Rattle.abbrev_units.specs.Faults.{read_in}
use Rattle.abbrev_units.specs.Texts.{ahead_from}
use Rattle.range_lists.specs.AddressTable.{AddressTable}

-- a fault of an entry, given the place of the entry in `.debug_info`
abbrev pub entry_fault : DwarfKind → ℕ → Located DwarfKind
entry_fault kind at = record { kind = kind; section = section.Info; at = at }

-- the bytes of a section from `place` on, to which the entry at `at` refers; a place after the end is a fault of the entry
unfoldable pub ahead_in : List ℕ → ℕ → ℕ → Result Ahead (Located DwarfKind)
ahead_in bytes at place = if nat_lt (length bytes) place then Err (entry_fault is.OffsetOutside at) else Ok (ahead_from place bytes)

-- the number of `width` bytes at a place to which the entry at `at` refers
unfoldable pub number_there : Sect → ℕ → List ℕ → ℕ → ℕ → Result ℕ (Located DwarfKind)
number_there section width bytes at place =
    ahead_in bytes at place >>= λ c. read_in section (fixed_at width c) >>= λ number. Ok number.0

-- the address at an index: from addr_base on, each address has eight bytes (DWARF 5, 7.27). If
-- there is no addr_base, that is a fault of the entry
abbrev pub address_by : AddressTable → Option ℕ → ℕ → Result ℕ (Located DwarfKind)
address_by table None index = Err (entry_fault is.NoBase table.at)
address_by table (Some base) index = number_there section.Addr 8 table.bytes table.at (base + 8 * index)

unfoldable pub address_at : AddressTable → ℕ → Result ℕ (Located DwarfKind)
address_at table index = address_by table table.base index

-- the address that a value of class address gives (DWARF 5, 7.5.5); none if the value has another class
unfoldable pub address_of : AddressTable → Value → Result (Option ℕ) (Located DwarfKind)
address_of table (value.Addr address) = Ok (Some address)
address_of table (value.AddrIndex index) = address_at table index >>= λ address. Ok (Some address)
address_of table _ = Ok None
