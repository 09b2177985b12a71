-- What a unit has after its header (DWARF 5, 7.5.2): entries, and zeros that end a list of children.
use Rattle.std.specs.Prelude.{ℕ, ◌==◌, Bool, if◌then◌else◌, List, length, Option, None, Some, Result, Ok, Err}
use Rattle.sym_edges.specs.Results.{◌>>=◌}
use Rattle.sym_edges.specs.declared.located.Located.{Located}
use Rattle.sym_edges.specs.declared.part.Sect.TheVariants.{Info}
use Rattle.leb_cursor.specs.Ahead.{Ahead}
use Rattle.leb_cursor.specs.Readings.{uleb_at}
use Rattle.leb_cursor.specs.Lists.{list_at}
use Rattle.abbrev_units.specs.SpecFields.{Abbrev, SpecFields}
use Rattle.abbrev_units.specs.declared.fault.DwarfKind.{DwarfKind}
use Rattle.abbrev_units.specs.declared.fault.DwarfKind.TheVariants as is
use Rattle.abbrev_units.specs.declared.fault.FormFault.{FormFault}
use Rattle.abbrev_units.specs.declared.fault.FormFault.TheVariants as form
use Rattle.abbrev_units.specs.Faults.{in_section, read_in}
use Rattle.abbrev_units.specs.Abbreviations.{abbrev_of}
use Rattle.abbrev_units.specs.declared.value.Given.{Given}
use Rattle.abbrev_units.specs.Values.{values_at}

-- the fault of a value of an entry, with its section and place
unfoldable pub value_fault : FormFault → Located DwarfKind
value_fault (form.Cursor fault) = in_section Info fault
value_fault (form.Unknown at) = record { kind = is.UnknownForm; section = Info; at = at }

abbrev pub in_entry : {A : Type 0} → Result A FormFault → Result A (Located DwarfKind)
in_entry (Ok x) = Ok x
in_entry (Err fault) = Err (value_fault fault)

-- the values of an entry
unfoldable pub read_values_at : List SpecFields → Ahead → Result (List Given × Ahead) (Located DwarfKind)
read_values_at specs c = in_entry (values_at specs c)

pub data Mark : Type 0 where
  -- the end of a list of children; at the outermost level it is padding
  Close : Mark
  -- an entry: its place, its tag, whether it has children, and its values
  Entry : (at tag : ℕ) (children : Bool) (values : List Given) → Mark

-- an entry, given the abbreviation of its code; a code without an abbreviation is a fault at the entry
abbrev pub entry_by : Option Abbrev → ℕ → Ahead → Result (Mark × Ahead) (Located DwarfKind)
entry_by None at c = Err (record { kind = is.NoAbbrev; section = Info; at = at })
entry_by (Some found) at c =
    read_values_at found.specs c >>= λ values. Ok (Entry at found.tag found.children values.0, values.1)

-- the mark that begins with a code: code 0 ends a list of children
unfoldable pub mark_by : List Abbrev → ℕ → ℕ → Ahead → Result (Mark × Ahead) (Located DwarfKind)
mark_by abbrevs at code c = if code == 0 then Ok (Close, c) else entry_by (abbrev_of code abbrevs) at c

-- the next mark, which begins with its code
unfoldable pub mark_at : List Abbrev → Ahead → Result (Mark × Ahead) (Located DwarfKind)
mark_at abbrevs c = read_in Info (uleb_at c) >>= λ code. mark_by abbrevs c.at code.0 code.1

-- the next mark; none at the end of the unit
unfoldable pub next_mark : List Abbrev → Ahead → Result (Option Mark × Ahead) (Located DwarfKind)
next_mark abbrevs c = if length c.bytes == 0 then Ok (None, c) else (mark_at abbrevs c >>= λ mark. Ok (Some mark.0, mark.1))

-- all marks up to the end of the unit, or the first fault
unfoldable pub marks_at : List Abbrev → Ahead → Result (List Mark) (Located DwarfKind)
marks_at abbrevs c = list_at (next_mark abbrevs) c >>= λ marks. Ok marks.0
