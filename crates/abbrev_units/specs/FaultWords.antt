-- The words with which faults of debugging information are printed.
use Rattle.std.specs.Prelude.{ℕ, List, codes}
use Rattle.abbrev_units.specs.declared.fault.DwarfKind.{DwarfKind}
use Rattle.abbrev_units.specs.declared.fault.DwarfKind.TheVariants as dwarf

-- the word for each kind of fault
abbrev pub dwarf_word : DwarfKind → List ℕ
dwarf_word dwarf.Ends = codes "ends"
dwarf_word dwarf.LebLong = codes "leb-long"
dwarf_word dwarf.NoZero = codes "no-zero"
dwarf_word dwarf.Reserved = codes "reserved"
dwarf_word dwarf.AddressSize = codes "address-size"
dwarf_word dwarf.UnitType = codes "unit-type"
dwarf_word dwarf.UnknownForm = codes "unknown-form"
dwarf_word dwarf.NoAbbrev = codes "no-abbrev"
dwarf_word dwarf.OffsetOutside = codes "offset-outside"
dwarf_word dwarf.NoBase = codes "no-base"
dwarf_word dwarf.RangeKind = codes "range-kind"
dwarf_word dwarf.LineVersion = codes "line-version"
dwarf_word dwarf.LineHeader = codes "line-header"
dwarf_word dwarf.LineOpcode = codes "line-opcode"
