-- The units of `.debug_info` (DWARF 5, 7.5.1, and DWARF 4, 7.5.1.1): each begins where the previous one ends.
use Rattle.std.specs.Prelude.{ℕ, ◌+◌, ◌==◌, ◌||◌, Bool, if◌then◌else◌, List, length, Option, None, Some, Result, Ok, Err}
use Rattle.sym_edges.specs.Results.{◌>>=◌}
use Rattle.sym_edges.specs.declared.located.Located.{Located}
use Rattle.sym_edges.specs.declared.part.Sect.TheVariants.{Info}
use Rattle.leb_cursor.specs.Ahead.{Ahead}
use Rattle.leb_cursor.specs.Readings.{fixed_at, take_at}
use Rattle.leb_cursor.specs.Lists.{list_at}
use Rattle.abbrev_units.specs.declared.fault.DwarfKind.{DwarfKind}
use Rattle.abbrev_units.specs.declared.fault.DwarfKind.TheVariants as is
use Rattle.abbrev_units.specs.declared.fault.HeaderFault.{HeaderFault}
use Rattle.abbrev_units.specs.declared.fault.HeaderFault.TheVariants.{Start}
use Rattle.abbrev_units.specs.declared.unit.Frame.{Frame}
use Rattle.abbrev_units.specs.declared.unit.Unit.{Unit}
use Rattle.abbrev_units.specs.declared.unit.UnitPart.{UnitPart}
use Rattle.abbrev_units.specs.declared.unit.UnitPart.TheVariants as part
use Rattle.abbrev_units.specs.Contents.{Contents}
use Rattle.abbrev_units.specs.Faults.{as_field, as_header}
use Rattle.abbrev_units.specs.InitialLength.{contents_at}
use Rattle.abbrev_units.specs.Texts.{place_width}

-- a unit whose entries are not read
abbrev pub other_unit : UnitPart → Frame → Unit
other_unit which f = record { start = f.start; body = 0; end = f.end; version = f.version; abbrev_at = 0; part = which; wide = f.wide }

-- a unit whose entries are read: they begin after the header
abbrev pub read_unit : Frame → ℕ → ℕ → Unit
read_unit f place body = record { start = f.start; body = body; end = f.end; version = f.version; abbrev_at = place; part = part.Read; wide = f.wide }

-- the field address_size, which must be 8
unfoldable pub address_size_at : Ahead → Result Ahead HeaderFault
address_size_at c = as_field (fixed_at 1 c) >>= λ size. if size.0 == 8 then Ok size.1 else Err (Start is.AddressSize)

-- the place of the unit's abbreviations: debug_abbrev_offset
abbrev pub abbrev_place_at : Bool → Ahead → Result (ℕ × Ahead) HeaderFault
abbrev_place_at wide c = as_field (fixed_at (place_width wide) c)

-- the fields of version 4 after the version: debug_abbrev_offset, address_size
unfoldable pub version_4_at : Frame → Ahead → Result Unit HeaderFault
version_4_at f c =
    abbrev_place_at f.wide c >>= λ place.
    address_size_at place.1 >>= λ body.
    Ok (read_unit f place.0 body.at)

-- the unit types (DWARF 5, table 7.2): DW_UT_compile, DW_UT_partial and DW_UT_skeleton are read; DW_UT_type, DW_UT_split_compile and DW_UT_split_type
-- are passed
abbrev pub is_read_type : ℕ → Bool
is_read_type type = type == 1 || (type == 3 || type == 4)

abbrev pub is_passed_type : ℕ → Bool
is_passed_type type = type == 2 || (type == 5 || type == 6)

-- a skeleton unit also has the id of its split unit, of eight bytes
abbrev pub id_at : ℕ → Ahead → Result (List ℕ × Ahead) HeaderFault
id_at type c = as_field (take_at (if type == 4 then 8 else 0) c)

-- the fields of version 5 after the unit type: address_size, debug_abbrev_offset, the id of a skeleton unit
unfoldable pub version_5_by : Frame → ℕ → Ahead → Result Unit HeaderFault
version_5_by f type c =
    address_size_at c >>= λ size.
    abbrev_place_at f.wide size >>= λ place.
    id_at type place.1 >>= λ id.
    Ok (read_unit f place.0 id.1.at)

-- the fields of version 5 after the version
unfoldable pub version_5_at : Frame → Ahead → Result Unit HeaderFault
version_5_at f c =
    as_field (fixed_at 1 c) >>= λ type.
    if is_passed_type type.0 then Ok (other_unit part.Passed f) else
    if is_read_type type.0 then version_5_by f type.0 type.1 else
    Err (Start is.UnitType)

-- a unit, after its version: only versions 4 and 5 are read, and units of other versions are skipped
unfoldable pub unit_by : Frame → Ahead → Result Unit HeaderFault
unit_by f c = if f.version == 4 then version_4_at f c else if f.version == 5 then version_5_at f c else Ok (other_unit part.Skipped f)

-- a unit, given its start and the bytes that its length counts
unfoldable pub unit_in : ℕ → Contents → Result Unit HeaderFault
unit_in start contents =
    as_field (fixed_at 2 contents.ahead) >>= λ version.
    unit_by (record { start = start; end = contents.ahead.at + length contents.ahead.bytes; version = version.0; wide = contents.wide }) version.1

-- the next unit, or the fault of its header
unfoldable pub header_at : Ahead → Result (Unit × Ahead) HeaderFault
header_at c = contents_at c >>= λ contents. unit_in c.at contents.0 >>= λ unit. Ok (unit, contents.1)

-- the next unit, or the fault of its header with the section and the place
unfoldable pub unit_at : Ahead → Result (Unit × Ahead) (Located DwarfKind)
unit_at c = as_header Info c.at (header_at c)

-- the next unit; none at the end of the section
unfoldable pub next_unit : Ahead → Result (Option Unit × Ahead) (Located DwarfKind)
next_unit c = if length c.bytes == 0 then Ok (None, c) else (unit_at c >>= λ unit. Ok (Some unit.0, unit.1))

-- the units of a section, or the first fault
unfoldable pub units_in : List ℕ → Result (List Unit) (Located DwarfKind)
units_in info = list_at next_unit (record { bytes = info; at = 0 }) >>= λ units. Ok units.0
