-- Worked examples: the first fault of a file, and what its units say, from the bytes of its
-- sections.
use Rattle.std.proofs.Common.{◌≡◌, ℕ, ◌+◌, Bool, true, false, List, [], ◌∷◌, ◌++◌, length, map, Option, None, Some, Result, Ok, Err, rules}
use Rattle.std.specs.Prelude.{⊤}
use Prim.Native.String.{String}
use Rattle.std.specs.Option.{option_map}
use Rattle.sym_edges.proofs.Hex.{hex, little}
use Rattle.sym_edges.specs.Addresses.{Range}
use Rattle.sym_edges.specs.Results.{◌>>=◌}
use Rattle.sym_edges.specs.declared.part.Sect.{Sect}
use Rattle.sym_edges.specs.declared.part.Sect.TheVariants as section
use Rattle.elf_sections.specs.Image.{ImageParts, SectionPart, DebugSections as ImageDebug}
use Rattle.elf_sections.specs.SupLinks.LinkPart.{Missing}
use Rattle.abbrev_units.specs.declared.fault.DwarfKind.{DwarfKind}
use Rattle.abbrev_units.specs.declared.fault.DwarfKind.TheVariants as is
use Rattle.frame_entries.specs.declared.fault.FrameKind.TheVariants as frame
use Rattle.line_program.specs.LineAt.{Lines}
use Rattle.die_walk.specs.EntryTable.{DieFields}
use Rattle.debug_read.specs.declared.fault.DebugFault.{DebugFault}
use Rattle.debug_read.specs.declared.fault.DebugFault.TheVariants.{Dwarf, Sup, Frame}
use Rattle.debug_read.specs.UnitSays.{UnitSays}
use Rattle.debug_read.specs.UnitsRead.{has_function}
use Rattle.debug_read.specs.DebugSays.{DebugSays, debug_says}
use Rattle.debug_read.proofs.Computing.{debug_read_computes}

abbrev at_0 : List ℕ → SectionPart
at_0 bytes = record { bytes = bytes; address = 0 }

-- The abbreviations. At place 0 there is a table with one attribute of eight bytes, at 8 one with
-- one attribute of four bytes. The table at 10 has these codes. 1: a root with DW_AT_low_pc by
-- DW_FORM_addrx, and DW_AT_stmt_list. 2: a subprogram with DW_AT_low_pc by DW_FORM_addrx, and a
-- length. 3: a root with DW_AT_stmt_list. 4: a subprogram with an address and a length. 5: a root
-- without attributes. 6: a declaration of a subprogram.
unfoldable abbrevs : List ℕ
unfolding hex
abbrevs = hex "01 11 00 3b 07 00 00 00 01 11 00 3b 06 00 00 00 01 11 00 11 1b 10 17 00 00 02 2e 00 11 1b 12 0f 00 00 03 11 00 10 17 00 00 04 2e 00 11 01 12 0f 00 00 05 11 00 00 00 06 2e 00 3c 19 00 00 00"

-- An image with these sections, whose code is from 1000 to 2000; the frame sections are at the
-- address 0.
unfoldable image : List ℕ → String → String → String → ImageParts
unfolding hex abbrevs
image info line eh_frame debug_frame = record {
  info = at_0 info;
  abbrevs = at_0 abbrevs;
  line = at_0 (hex line);
  line_str = at_0 [];
  str = at_0 [];
  str_offsets = at_0 [];
  addr = at_0 [];
  ranges = at_0 [];
  rnglists = at_0 [];
  debug_frame = at_0 (hex debug_frame);
  eh_frame = at_0 (hex eh_frame);
  text = at_0 [];
  base = 0;
  code = record { start = 0x1000; end = 0x2000 } ∷ [];
  build_id = None;
  identity = [];
  symbols = [];
  altlink = Missing;
  debug_sup = Missing;
  sup = None;
}

-- The same with a supplementary file, which has this `.debug_info` and the same abbreviations.
unfoldable with_info : List ℕ → ImageDebug
unfolding abbrevs
with_info info = record {
  info = at_0 info;
  abbrevs = at_0 abbrevs;
  line = at_0 [];
  line_str = at_0 [];
  str = at_0 [];
  str_offsets = at_0 [];
  addr = at_0 [];
  ranges = at_0 [];
  rnglists = at_0 [];
  debug_frame = at_0 [];
}

unfoldable both : List ℕ → List ℕ → String → ImageParts
unfolding image with_info
both info sup eh_frame = record (image info "" eh_frame "") { sup = Some (with_info sup) }

-- A unit of version 4 with one entry of four bytes, and with its abbreviations at the given place.
unfoldable old : ℕ → List ℕ
unfolding hex little
old place = hex "0c000000 0400" ++ (little 4 place ++ hex "08 01 00000000")

-- A unit of version 5 with these entries.
unfoldable unit : String → List ℕ
unfolding hex little
unit entries = little 4 (8 + length (hex entries)) ++ (hex "0500 01 08 10000000" ++ hex entries)

-- The fault of a file, if it has one.
abbrev fault : Result DebugSays DebugFault → Option DebugFault
fault (Ok says) = None
fault (Err why) = Some why

unfoldable fault_of : List ℕ → Option DebugFault
unfolding image
fault_of info = fault (debug_says (image info "" "" ""))

abbrev in_info : DwarfKind → ℕ → Option DebugFault
in_info kind at = Some (Dwarf (record { kind = kind; section = section.Info; at = at }))

abbrev in_frames : Sect → Option DebugFault
in_frames which = Some (Frame (record { kind = frame.Length; section = which; at = 0 }))

unfoldable worked : ⊤
unfolding debug_read_computes hex little abbrevs image with_info both old unit fault_of
worked = tt

-- A unit whose addresses have four bytes.
unfoldable narrow : List ℕ
unfolding hex
narrow = hex "07000000 0400 00000000 04"

-- A unit of version 3, which is skipped, and a type unit, which is passed.
unfoldable others : List ℕ
unfolding hex
others = hex "0c000000 0300 00010000 08 ff 00000000 08000000 0500 02 08 00010000"

-- For each unit that is read: the places of its entries, the pairs of each entry, and whether it
-- has a function and a line table.
pub record Seen : Type 0 where
  pub places : List ℕ
  pub pairs : List (List Range)
  pub function : Bool
  pub lines : Option ℕ

unfoldable seen : UnitSays → Seen
seen says = record {
  places = map (λ (d : DieFields). d.at) says.table.dies;
  pairs = says.pairs;
  function = has_function says.table.dies;
  lines = option_map (λ (l : Lines). l.first) says.lines;
}

unfoldable seen_in : List ℕ → String → Result (List Seen) DebugFault
unfolding image seen
seen_in info line = debug_says (image info line "" "") >>= λ says. Ok (map seen says.units)

unfoldable seen_both : List ℕ → List ℕ → Result (List Seen) DebugFault
unfolding both seen
seen_both info sup = debug_says (both info sup "") >>= λ says. Ok (map seen says.units)

record Faults : Type 0 where
  -- A file without units.
  no_units : debug_says (image [] "" "" "") ≡ Ok (record { headers = []; sup_headers = []; units = []; first = []; second = [] })
  -- Of four units of 16 bytes the first and the last have a value of eight bytes where four are
  -- left. The fault of the first counts.
  four_units : fault_of (old 0 ++ (old 8 ++ (old 8 ++ old 0))) ≡ in_info is.Ends 0xc
  the_last_of_four : fault_of (old 8 ++ (old 8 ++ (old 8 ++ old 0))) ≡ in_info is.Ends 0x3c
  no_fault : fault_of (old 8 ++ (old 8 ++ (old 8 ++ old 8))) ≡ None
  -- The parts of a unit, one after the other. Here its abbreviations are outside of the section.
  outside_abbreviations : fault_of (old 0x100) ≡ in_info is.OffsetOutside 0
  -- The third entry has no abbreviation. The base of the unit's lists, the ranges of the second
  -- entry and the line table have faults too.
  entries_first : fault_of (unit "01 00 ffffff00 02 00 10 07") ≡ in_info is.NoAbbrev 0x15
  -- Without the third entry the fault of the base counts: the root has an address by index, and
  -- there is no addr_base.
  unit_base_next : fault_of (unit "01 00 ffffff00 02 00 10") ≡ in_info is.NoBase 0xc
  -- Without an address of the root, the fault of the second entry's ranges counts.
  ranges_next : fault_of (unit "03 ffffff00 02 00 10") ≡ in_info is.NoBase 0x11
  -- The first entry with a fault counts.
  ranges_in_order : fault_of (unit "03 ffffff00 04 0010000000000000 10 02 00 10 02 00 10") ≡ in_info is.NoBase 0x1b
  -- The line table comes last, and its fault is at the root.
  lines_last : fault_of (unit "03 ffffff00 04 0010000000000000 10") ≡ in_info is.OffsetOutside 0xc
  -- The table of a unit without a function is read too: its length leaves the section.
  lines_without_function : fault (debug_says (image (unit "03 00000000") "ff000000" "" "")) ≡ Some (Dwarf (record { kind = is.Ends; section = section.Line; at = 0 }))
  -- Two faults in two units, in both orders: the first unit's fault counts, whichever part of the
  -- unit has it.
  lines_before_abbreviations : fault_of (unit "03 ffffff00" ++ old 0x100) ≡ in_info is.OffsetOutside 0xc
  abbreviations_before_lines : fault_of (old 0x100 ++ unit "03 ffffff00") ≡ in_info is.OffsetOutside 0
  -- All headers come before all units, so a fault of the second header comes first.
  headers_first : fault_of (old 0x100 ++ narrow) ≡ in_info is.AddressSize 0x10
  -- These units are not read, whatever they contain.
  not_read : fault_of (others ++ old 0) ≡ in_info is.Ends 0x28
  -- Frame sections come after all units, `.eh_frame` before `.debug_frame`.
  unit_before_frames : fault (debug_says (image (old 0) "" "ff000000" "ff000000")) ≡ in_info is.Ends 0xc
  eh_frame_next : fault (debug_says (image (old 8) "" "ff000000" "ff000000")) ≡ in_frames section.EhFrame
  debug_frame_last : fault (debug_says (image (old 8) "" "" "ff000000")) ≡ in_frames section.DebugFrame
  two_units : seen_in (others ++ (unit "03 00000000 04 0010000000000000 10 06" ++ unit "05 06")) "19000000 0200 13000000 01 01 fd 0c 0d 00 01 01 01 01 00 00 00 01 00 00 01 00 00"
      ≡ Ok (record { places = 0x28 ∷ 0x2d ∷ 0x37 ∷ []; pairs = [] ∷ (record { start = 0x1000; end = 0x1010 } ∷ []) ∷ [] ∷ []; function = true; lines = Some 1 } ∷ record { places = 0x44 ∷ 0x45 ∷ []; pairs = [] ∷ [] ∷ []; function = false; lines = None } ∷ [])
  -- The faults of a supplementary file come after those of the file's units, and before those of
  -- frames.
  sup_fault : fault (debug_says (both (old 8) (old 0) "ff000000")) ≡ Some (Sup (record { kind = is.Ends; section = section.Info; at = 0xc }))
  own_fault_first : fault (debug_says (both (old 0) (old 0x100) "")) ≡ in_info is.Ends 0xc
  frames_last : fault (debug_says (both (old 8) (old 8) "ff000000")) ≡ in_frames section.EhFrame
  -- The ranges and line tables of a supplementary file are not read, whatever they are. The places
  -- of its entries come after all others.
  sup_units : seen_both (unit "05 06") (unit "03 ffffff00 02 00 10")
      ≡ Ok (record { places = 0xc ∷ 0xd ∷ []; pairs = [] ∷ [] ∷ []; function = false; lines = None } ∷ record { places = 0x2000000c ∷ 0x20000011 ∷ []; pairs = [] ∷ [] ∷ []; function = true; lines = None } ∷ [])

faults : Faults
unfolding worked narrow others seen seen_in seen_both
faults = search rules
