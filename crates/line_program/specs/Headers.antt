-- The header of a line table (DWARF 5, 6.2.4; DWARF 4, 6.2.4), up to its tables of directories and files. The fields are read in their order, and
-- each condition is checked when its field is read.
use Rattle.std.specs.Prelude.{ℕ, ◌-◌, ◌==◌, ◌&&◌, nat_lt, nat_le, Bool, if◌then◌else◌, Result, Ok, Err}
use Rattle.std.specs.Int.{w8, cast_signed}
use Rattle.sym_edges.specs.Results.{◌>>=◌}
use Rattle.leb_cursor.specs.Ahead.{Ahead}
use Rattle.leb_cursor.specs.Readings.{fixed_at, part_at}
use Rattle.abbrev_units.specs.declared.fault.DwarfKind.TheVariants.{LineVersion, LineHeader}
use Rattle.abbrev_units.specs.declared.fault.HeaderFault.{HeaderFault}
use Rattle.abbrev_units.specs.declared.fault.HeaderFault.TheVariants.{Start}
use Rattle.abbrev_units.specs.Contents.{Contents}
use Rattle.abbrev_units.specs.Faults.{as_field, or_start}
use Rattle.abbrev_units.specs.InitialLength.{contents_at}
use Rattle.abbrev_units.specs.Texts.{place_width}
use Rattle.line_program.specs.Lists.{several_at}
use Rattle.line_program.specs.ProgramFields.{ProgramFields}
use Rattle.line_program.specs.HeaderFields.{HeaderFields}

-- a field of one byte
abbrev pub byte_at : Ahead → Result (ℕ × Ahead) HeaderFault
byte_at c = as_field (fixed_at 1 c)

-- a byte that must be this number
unfoldable pub this_byte_at : ℕ → Ahead → Result Ahead HeaderFault
this_byte_at must c = byte_at c >>= λ byte. if byte.0 == must then Ok byte.1 else Err (Start LineHeader)

-- a byte that must not be 0
unfoldable pub some_byte_at : Ahead → Result (ℕ × Ahead) HeaderFault
some_byte_at c = byte_at c >>= λ byte. if byte.0 == 0 then Err (Start LineHeader) else Ok byte

-- the versions that are read: 2 to 5
unfoldable pub is_version : ℕ → Bool
is_version version = nat_le 2 version && nat_le version 5

-- address_size, which must be 8, and segment_selector_size, which must be 0: only version 5 has them
unfoldable pub sizes_at : ℕ → Ahead → Result Ahead HeaderFault
sizes_at version c = if version == 5 then (this_byte_at 8 c >>= λ segment. this_byte_at 0 segment) else Ok c

-- maximum_operations_per_instruction, which only versions from 4 on have: it must be 0 or 1
unfoldable pub operations_at : ℕ → Ahead → Result Ahead HeaderFault
operations_at version c =
    if nat_lt version 4 then Ok c else
    (byte_at c >>= λ operations. if nat_le operations.0 1 then Ok operations.1 else Err (Start LineHeader))

-- the fields from minimum_instruction_length to standard_opcode_lengths. default_is_stmt is
-- skipped, since the line of a row does not depend on it
unfoldable pub program_at : ℕ → Ahead → Result (ProgramFields × Ahead) HeaderFault
program_at version c =
    byte_at c >>= λ minimum_length.
    operations_at version minimum_length.1 >>= λ default_is_stmt.
    byte_at default_is_stmt >>= λ skipped.
    byte_at skipped.1 >>= λ line_base.
    some_byte_at line_base.1 >>= λ line_range.
    some_byte_at line_range.1 >>= λ opcode_base.
    several_at byte_at (opcode_base.0 - 1) opcode_base.1 >>= λ lengths.
    Ok (
      record {
        version = version;
        minimum_length = minimum_length.0;
        line_base = cast_signed w8 line_base.0;
        line_range = line_range.0;
        opcode_base = opcode_base.0;
        lengths = lengths.0;
      },
      lengths.1,
    )

-- the header after the version. header_length gives the start of the program, which goes up to the
-- end of the table
unfoldable pub header_behind : ℕ → Bool → Ahead → Result HeaderFields HeaderFault
header_behind version wide c =
    sizes_at version c >>= λ sizes.
    as_field (fixed_at (place_width wide) sizes) >>= λ length.
    or_start LineHeader (part_at length.0 length.1) >>= λ parts.
    program_at version parts.0 >>= λ program.
    Ok (record { program = program.0; wide = wide; tables = program.1; opcodes = parts.1 })

-- the header, given the bytes that the table's length counts
unfoldable pub header_at : Contents → Result HeaderFields HeaderFault
header_at contents =
    as_field (fixed_at 2 contents.ahead) >>= λ version.
    if is_version version.0 then header_behind version.0 contents.wide version.1 else Err (Start LineVersion)

-- the length of a table, unit_length, which also gives the format (7.4), and then the header
unfoldable pub table_at : Ahead → Result HeaderFields HeaderFault
table_at c = contents_at c >>= λ contents. header_at contents.0
