-- The lines on standard error.
use Rattle.std.specs.Prelude.{ℕ, Bool, true, false, List, [], ◌∷◌, ◌++◌, codes, decimal}
use Rattle.std.specs.List.{flat_map}
use Rattle.sym_edges.specs.declared.part.Sect.{Sect}
use Rattle.sym_edges.specs.PrintedWords.{section_word, reason_word}
use Rattle.elf_sections.specs.declared.fault.ElfFault.{ElfFault}
use Rattle.elf_sections.specs.FaultWords.{fault_word}
use Rattle.core_file.specs.FaultWords.{fault_word as core_fault_word}
use Rattle.core_file.specs.declared.fault.CoreFault.{CoreFault}
use Rattle.debug_pair.specs.FaultWords.{pair_word, short_id_word, sup_word}
use Rattle.debug_pair.specs.declared.fault.PairFault.{PairFault}
use Rattle.debug_pair.specs.declared.fault.SupFault.{SupFault}
use Rattle.abbrev_units.specs.declared.fault.DwarfKind.{DwarfKind}
use Rattle.abbrev_units.specs.FaultWords.{dwarf_word}
use Rattle.abbrev_units.specs.DebugSections.{DebugSections}
use Rattle.abbrev_units.specs.declared.unit.Unit.{Unit}
use Rattle.abbrev_units.specs.declared.unit.UnitPart.{UnitPart}
use Rattle.abbrev_units.specs.declared.unit.UnitPart.TheVariants.{Read, Passed, Skipped}
use Rattle.frame_entries.specs.declared.fault.FrameKind.{FrameKind}
use Rattle.frame_entries.specs.FaultWords.{kind_word}
use Rattle.sym_edges.specs.declared.located.Located.{Located}
use Rattle.debug_read.specs.declared.fault.DebugFault.{DebugFault}
use Rattle.debug_read.specs.declared.fault.DebugFault.TheVariants.{Dwarf, Sup, Frame}
use Rattle.sym_rules.specs.FaultWords.{text_word}
use Rattle.sym_rules.specs.declared.text_fault.TextFault.{TextFault}
use Rattle.state_file.specs.StateWords.{state_word}
use Rattle.state_file.specs.declared.fault.StateFault.{StateFault}
use Rattle.sym_records.specs.Canon.{spaced}
use Rattle.sym_records.specs.Fields.{hex}
use Rattle.rule_postfix.specs.declared.omission.Omission.{Omission}
use Rattle.clean_names.specs.Cleaning.{cleaned}
use Rattle.stack_text.specs.Lines.{line}
use Rattle.dumpsyms_cmd.specs.SplitUnits.{is_split}

-- the line for a fault in the image of an ELF file
abbrev pub elf_line : ElfFault → List ℕ
elf_line fault = line (codes "refused elf " ++ fault_word fault)

-- the line for a fault in a core file
abbrev pub core_line : CoreFault → List ℕ
core_line fault = line (codes "refused core " ++ core_fault_word fault)

-- the line for a fault in the image of a debug file
abbrev pub debug_elf_line : ElfFault → List ℕ
debug_elf_line fault = line (codes "refused debug " ++ fault_word fault)

-- the line for a binary and a debug file that are no pair
abbrev pub pair_line : PairFault → List ℕ
pair_line fault = line (spaced (codes "refused pair") (pair_word fault ∷ []))

-- the line for a build id that is too short to name a debug file
abbrev pub short_id_line : List ℕ
short_id_line = line (spaced (codes "refused pair") (short_id_word ∷ []))

-- the line for a fault in the image of a supplementary file
abbrev pub sup_elf_line : ElfFault → List ℕ
sup_elf_line fault = line (codes "refused sup " ++ fault_word fault)

-- the line for a file that is not read with the supplementary file it links to
abbrev pub sup_line : SupFault → List ℕ
sup_line fault = line (spaced (codes "refused sup") (sup_word fault ∷ []))

-- the line for a file above the limit
abbrev pub too_long_line : List ℕ
too_long_line = line (codes "refused input too-long")

-- the line for a file that could not be read: without its name, and with it
abbrev pub unread_line : List ℕ
unread_line = line (codes "cannot read input")

abbrev pub unread_name_line : List ℕ → List ℕ
unread_name_line name = line (codes "cannot read " ++ cleaned name)

-- the line with the name if `full`
abbrev pub unread_lines : Bool → List ℕ → List ℕ
unread_lines false name = unread_line
unread_lines true name = unread_name_line name

-- the line for a fault with a place: what is refused, the kind, section, and place in hexadecimal
abbrev pub located_line : List ℕ → List ℕ → Sect → ℕ → List ℕ
located_line refused kind section at = line (spaced refused (kind ∷ section_word section ∷ hex at ∷ []))

-- the line for a fault in debugging information
abbrev pub dwarf_line : Located DwarfKind → List ℕ
dwarf_line fault = located_line (codes "refused dwarf") (dwarf_word fault.kind) fault.section fault.at

-- the line for a fault in the supplementary file's debugging information
abbrev pub sup_dwarf_line : Located DwarfKind → List ℕ
sup_dwarf_line fault = located_line (codes "refused sup-dwarf") (dwarf_word fault.kind) fault.section fault.at

-- the line for a fault in a section of frame entries
abbrev pub frame_line : Located FrameKind → List ℕ
frame_line fault = located_line (codes "refused frame") (kind_word fault.kind) fault.section fault.at

-- the line for a fault after the image
abbrev pub debug_line : DebugFault → List ℕ
debug_line (Dwarf fault) = dwarf_line fault
debug_line (Sup fault) = sup_dwarf_line fault
debug_line (Frame fault) = frame_line fault

-- the line for an omitted entry: its section, its place in hexadecimal, and the reason
abbrev pub omitted_line : Omission → List ℕ
omitted_line o = line (spaced (codes "omitted") (section_word o.section ∷ hex o.at ∷ reason_word o.reason ∷ []))

-- the lines for the omitted entries, in order
unfoldable pub omitted_text : List Omission → List ℕ
omitted_text omissions = flat_map omitted_line omissions

-- the line for a skipped unit: its place in hexadecimal, and its version
abbrev pub skipped_line : Unit → List ℕ
skipped_line unit = line (spaced (codes "skipped debug_info") (hex unit.start ∷ codes "version" ∷ decimal unit.version ∷ []))

abbrev pub skipped_by : Unit → UnitPart → List ℕ
skipped_by unit Read = []
skipped_by unit Passed = []
skipped_by unit Skipped = skipped_line unit

abbrev pub skipped_of : Unit → List ℕ
skipped_of unit = skipped_by unit unit.part

-- the lines for the skipped units, in order
unfoldable pub skipped_text : List Unit → List ℕ
skipped_text units = flat_map skipped_of units

-- the line for a skipped unit of the supplementary file: its place in hexadecimal, and its version
abbrev pub sup_skipped_line : Unit → List ℕ
sup_skipped_line unit = line (spaced (codes "skipped sup_info") (hex unit.start ∷ codes "version" ∷ decimal unit.version ∷ []))

-- the line for a unit whose entries are in another file: its place in hexadecimal
abbrev pub split_line : Unit → List ℕ
split_line unit = line (spaced (codes "split debug_info") (hex unit.start ∷ []))

abbrev pub unit_left_by : Bool → Unit → List ℕ
unit_left_by true unit = split_line unit
unit_left_by false unit = skipped_of unit

abbrev pub unit_left : DebugSections → Unit → List ℕ
unit_left sections unit = unit_left_by (is_split sections unit) unit

-- the lines for the units whose entries are not in the file, in order: skipped units, and units with their entries in another file
unfoldable pub units_left_text : DebugSections → List Unit → List ℕ
units_left_text sections units = flat_map (unit_left sections) units

-- the lines for skipped units alone, or for both kinds if `full`
abbrev pub units_text : Bool → DebugSections → List Unit → List ℕ
units_text false sections units = skipped_text units
units_text true sections units = units_left_text sections units

-- the line for a fault in a text: what is refused, the kind, and the number of the bad line
abbrev pub fault_at : List ℕ → List ℕ → ℕ → List ℕ
fault_at refused kind number = line (spaced refused (kind ∷ codes "line" ∷ decimal number ∷ []))

-- the line for a fault in a symbol file
abbrev pub text_line : TextFault → List ℕ
text_line fault = fault_at (codes "refused text") (text_word fault.kind) fault.line

-- the line for a fault in a state file
abbrev pub state_line : StateFault → List ℕ
state_line fault = fault_at (codes "refused state") (state_word fault.kind) fault.line
