-- Faults of readings and of headers, with their section and place.
use Rattle.std.specs.Prelude.{◌≡◌, ℕ, Result, Ok, Err}
use Rattle.sym_edges.specs.declared.fault.Stop.{Stop}
use Rattle.sym_edges.specs.declared.fault.Stop.TheVariants.{Fault, NoMemory}
use Rattle.sym_edges.specs.declared.part.Sect.{Sect}
use Rattle.sym_edges.specs.declared.located.Located.{Located}
use Rattle.leb_cursor.specs.Ahead.{Ahead}
use Rattle.leb_cursor.specs.declared.fault.CursorFault.{CursorFault}
use Rattle.leb_cursor.specs.declared.fault.CursorFault.TheVariants as reading
use Rattle.abbrev_units.specs.declared.fault.DwarfKind.{DwarfKind}
use Rattle.abbrev_units.specs.declared.fault.DwarfKind.TheVariants as is
use Rattle.abbrev_units.specs.declared.fault.FormFault.{FormFault}
use Rattle.abbrev_units.specs.declared.fault.FormFault.TheVariants as form
use Rattle.abbrev_units.specs.declared.fault.HeaderFault.{HeaderFault}
use Rattle.abbrev_units.specs.declared.fault.HeaderFault.TheVariants as header

-- the fault of a reading in a section
unfoldable pub in_section : Sect → CursorFault → Located DwarfKind
in_section section (reading.Ends at) = record { kind = is.Ends; section = section; at = at }
in_section section (reading.LebLong at) = record { kind = is.LebLong; section = section; at = at }
in_section section (reading.NoZero at) = record { kind = is.NoZero; section = section; at = at }

-- the fault of a header that starts at the place `start` of a section
unfoldable pub header_fault : Sect → ℕ → HeaderFault → Located DwarfKind
header_fault section start (header.Cursor fault) = in_section section fault
header_fault section start (header.Start kind) = record { kind = kind; section = section; at = start }

-- a reading whose fault becomes the fault of a section (`read_in`), of a field of a header
-- (`as_field`), of a header that starts at a place (`as_header`), or of a value (`as_value`)
abbrev pub read_in : {A : Type 0} → Sect → Result A CursorFault → Result A (Located DwarfKind)
read_in section (Ok x) = Ok x
read_in section (Err fault) = Err (in_section section fault)

abbrev pub as_field : {A : Type 0} → Result A CursorFault → Result A HeaderFault
as_field (Ok x) = Ok x
as_field (Err fault) = Err (header.Cursor fault)

abbrev pub as_header : {A : Type 0} → Sect → ℕ → Result A HeaderFault → Result A (Located DwarfKind)
as_header section start (Ok x) = Ok x
as_header section start (Err fault) = Err (header_fault section start fault)

abbrev pub as_value : {A : Type 0} → Result A CursorFault → Result A FormFault
as_value (Ok x) = Ok x
as_value (Err fault) = Err (form.Cursor fault)

-- a reading whose fault becomes the fault `kind` at the start of a header
abbrev pub or_start : {A : Type 0} → DwarfKind → Result A CursorFault → Result A HeaderFault
or_start kind (Ok x) = Ok x
or_start kind (Err fault) = Err (header.Start kind)

-- what is left ahead after a call that returns no value, or the fault of the call
abbrev pub left_by : {U E : Type 0} → Result U E → Ahead → Result Ahead E
left_by (Ok x) c = Ok c
left_by (Err fault) c = Err fault

-- a result is the value or the fault that a definition gives; if memory ran out, nothing is
-- promised
abbrev pub Gives : {A F : Type 0} → Result A (Stop F) → Result A F → Type 0
Gives (Ok x) given = given ≡ Ok x
Gives (Err (Fault fault)) given = given ≡ Err fault
Gives (Err NoMemory) given = Unit {0}

-- the same as `Gives`, for a reading and what it leaves ahead
abbrev pub GivesAt : {A F : Type 0} → Result A (Stop F) → Ahead → Result (A × Ahead) F → Type 0
GivesAt (Ok x) c given = given ≡ Ok (x, c)
GivesAt (Err (Fault fault)) c given = given ≡ Err fault
GivesAt (Err NoMemory) c given = Unit {0}
