-- The length at the start of a unit or of a line table, which also gives the format (DWARF 5, 7.2.2 and 7.4).
use Rattle.std.specs.Prelude.{ℕ, ◌==◌, nat_lt, true, false, if◌then◌else◌, Result, Ok, Err}
use Rattle.sym_edges.specs.Results.{◌>>=◌}
use Rattle.leb_cursor.specs.Ahead.{Ahead}
use Rattle.leb_cursor.specs.Readings.{fixed_at, part_at}
use Rattle.abbrev_units.specs.declared.fault.DwarfKind.TheVariants as is
use Rattle.abbrev_units.specs.declared.fault.HeaderFault.{HeaderFault}
use Rattle.abbrev_units.specs.declared.fault.HeaderFault.TheVariants.{Start}
use Rattle.abbrev_units.specs.declared.length.InitialLength.{InitialLength}
use Rattle.abbrev_units.specs.Faults.{or_start}
use Rattle.abbrev_units.specs.Contents.{Contents}

-- the length, given its first four bytes. If they are ffffffff, the format is the 64-bit one, and the length is the next eight bytes; fffffff0 to
-- fffffffe are reserved
unfoldable pub length_by : ℕ → Ahead → Result (InitialLength × Ahead) HeaderFault
length_by first c =
    if nat_lt first 0xfffffff0 then Ok (record { count = first; wide = false }, c) else
    if first == 0xffffffff then (or_start is.Ends (fixed_at 8 c) >>= λ count. Ok (record { count = count.0; wide = true }, count.1)) else
    Err (Start is.Reserved)

unfoldable pub length_at : Ahead → Result (InitialLength × Ahead) HeaderFault
length_at c = or_start is.Ends (fixed_at 4 c) >>= λ first. length_by first.0 first.1

-- the bytes that the length counts: those after it, up to the end of the unit or of the table
unfoldable pub contents_at : Ahead → Result (Contents × Ahead) HeaderFault
contents_at c =
    length_at c >>= λ length.
    or_start is.Ends (part_at length.0.count length.1) >>= λ part.
    Ok (record { wide = length.0.wide; ahead = part.0 }, part.1)
