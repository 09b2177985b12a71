-- The faults of a line table, each with its place in `.debug_line`.
use Rattle.std.specs.Prelude.{ℕ, Result, Ok, Err}
use Rattle.sym_edges.specs.declared.part.Sect.TheVariants.{Line}
use Rattle.sym_edges.specs.declared.located.Located.{Located}
use Rattle.leb_cursor.specs.declared.fault.CursorFault.{CursorFault}
use Rattle.abbrev_units.specs.declared.fault.DwarfKind.{DwarfKind}
use Rattle.abbrev_units.specs.declared.fault.DwarfKind.TheVariants.{UnknownForm}
use Rattle.abbrev_units.specs.declared.fault.FormFault.{FormFault}
use Rattle.abbrev_units.specs.declared.fault.FormFault.TheVariants as form
use Rattle.abbrev_units.specs.Faults.{in_section, read_in}

abbrev pub Fault : Type 0
Fault = Located DwarfKind

-- a fault at a place of `.debug_line`
abbrev pub fault_at : DwarfKind → ℕ → Fault
fault_at kind at = record { kind = kind; section = Line; at = at }

-- a reading whose fault becomes one in `.debug_line`, at the same place
abbrev pub in_line : {A : Type 0} → Result A CursorFault → Result A Fault
in_line reading = read_in Line reading

-- the fault of a value that cannot be read
abbrev pub value_fault : FormFault → Fault
value_fault (form.Cursor fault) = in_section Line fault
value_fault (form.Unknown at) = fault_at UnknownForm at

abbrev pub or_value_fault : {A : Type 0} → Result A FormFault → Result A Fault
or_value_fault (Ok x) = Ok x
or_value_fault (Err fault) = Err (value_fault fault)
