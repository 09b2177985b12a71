-- Worked examples: the abbreviations of a unit (DWARF 5, 7.5.3).
use Rattle.std.proofs.Common.{◌≡◌, ℕ, Bool, true, false, pos, negsuc, List, [], ◌∷◌, Some, None, Result, Ok, Err, rules}
use Prim.Native.String.{String}
use Rattle.sym_edges.proofs.Hex.{hex}
use Rattle.sym_edges.specs.declared.part.Sect.TheVariants as section
use Rattle.sym_edges.specs.declared.located.Located.{Located}
use Rattle.abbrev_units.specs.SpecFields.{Abbrev}
use Rattle.abbrev_units.specs.declared.fault.DwarfKind.{DwarfKind}
use Rattle.abbrev_units.specs.declared.fault.DwarfKind.TheVariants as is
use Rattle.abbrev_units.specs.declared.unit.Unit.{Unit}
use Rattle.abbrev_units.specs.declared.unit.UnitPart.TheVariants as part
use Rattle.abbrev_units.specs.Abbreviations.{abbrevs_of, abbrev_of}
use Rattle.abbrev_units.proofs.Computing.{abbrev_units_computes}

unfoldable unit_at : ℕ → Bool → Unit
unit_at place wide = record { start = 0x20; body = 0x2b; end = 0x30; version = 4; abbrev_at = place; part = part.Read; wide = wide }

-- The abbreviations at a place of a section, for a unit that starts at 20.
unfoldable abbrevs_in : String → ℕ → Bool → Result (List Abbrev) (Located DwarfKind)
unfolding hex unit_at
abbrevs_in text place wide =
    abbrevs_of (record { info = []; abbrevs = hex text; line = []; line_str = []; strs = []; str_offsets = []; addr = []; ranges = []; rnglists = []; sup_strs = None; is_sup = false }) (unit_at place wide)

abbrev sample : ℕ → ℕ → Abbrev
sample code tag = record { code = code; tag = tag; children = false; specs = [] }

record Tables : Type 0 where
  -- One abbreviation: a subprogram without children, with one attribute of four bytes.
  a_table : abbrevs_in "01 2e 00 3b 06 00 00 00" 0 false ≡ Ok (record { code = 1; tag = 46; children = false; specs = record { attribute = 59; form = 6; implicit = pos 0; wide = false } ∷ [] } ∷ [])
  a_table_in_the_64_bit_format : abbrevs_in "01 2e 00 3b 06 00 00 00" 0 true ≡ Ok (record { code = 1; tag = 46; children = false; specs = record { attribute = 59; form = 6; implicit = pos 0; wide = true } ∷ [] } ∷ [])
  -- Code 0 comes first.
  an_empty_table : abbrevs_in "00" 0 false ≡ Ok []
  the_last_byte : abbrevs_in "01 2e 00 3b 06 00 00 00" 7 false ≡ Ok []
  -- A byte for children that is not 0 means yes.
  children_by_any_byte : abbrevs_in "05 11 80 00 00 00" 0 false ≡ Ok (record { code = 5; tag = 17; children = true; specs = [] } ∷ [])
  -- Two abbreviations have the same code.
  a_code_twice : abbrevs_in "01 11 01 00 00 01 2e 00 00 00 00" 0 false ≡ Ok (record { code = 1; tag = 17; children = true; specs = [] } ∷ record { code = 1; tag = 46; children = false; specs = [] } ∷ [])
  -- DW_FORM_implicit_const has its constant in the abbreviation.
  an_implicit_constant : abbrevs_in "01 34 00 3b 21 7e 03 08 00 00 00" 0 false ≡ Ok (record { code = 1; tag = 52; children = false; specs = record { attribute = 59; form = 33; implicit = negsuc 1; wide = false } ∷ record { attribute = 3; form = 8; implicit = pos 0; wide = false } ∷ [] } ∷ [])
  -- Only the pair 0 and 0 ends the attributes.
  attribute_0_with_a_form : abbrevs_in "01 34 00 00 06 03 00 00 00 00" 0 false ≡ Ok (record { code = 1; tag = 52; children = false; specs = record { attribute = 0; form = 6; implicit = pos 0; wide = false } ∷ record { attribute = 3; form = 0; implicit = pos 0; wide = false } ∷ [] } ∷ [])
  -- An unknown form is no fault in an abbreviation.
  an_unknown_form : abbrevs_in "01 34 00 03 02 00 00 00" 0 false ≡ Ok (record { code = 1; tag = 52; children = false; specs = record { attribute = 3; form = 2; implicit = pos 0; wide = false } ∷ [] } ∷ [])

tables : Tables
unfolding abbrev_units_computes abbrevs_in unit_at
tables = search rules

record Faults : Type 0 where
  -- The table is cut off at each of its bytes.
  cut_at_0 : abbrevs_in "" 0 false ≡ Err (record { kind = is.Ends; section = section.Abbrev; at = 0 })
  cut_at_1 : abbrevs_in "01" 0 false ≡ Err (record { kind = is.Ends; section = section.Abbrev; at = 1 })
  cut_at_2 : abbrevs_in "012e" 0 false ≡ Err (record { kind = is.Ends; section = section.Abbrev; at = 2 })
  cut_at_3 : abbrevs_in "012e00" 0 false ≡ Err (record { kind = is.Ends; section = section.Abbrev; at = 3 })
  cut_at_4 : abbrevs_in "012e003b" 0 false ≡ Err (record { kind = is.Ends; section = section.Abbrev; at = 4 })
  cut_at_5 : abbrevs_in "012e003b06" 0 false ≡ Err (record { kind = is.Ends; section = section.Abbrev; at = 5 })
  cut_at_6 : abbrevs_in "012e003b0600" 0 false ≡ Err (record { kind = is.Ends; section = section.Abbrev; at = 6 })
  cut_at_7 : abbrevs_in "012e003b060000" 0 false ≡ Err (record { kind = is.Ends; section = section.Abbrev; at = 7 })
  a_cut_constant : abbrevs_in "01 34 00 3b 21" 0 false ≡ Err (record { kind = is.Ends; section = section.Abbrev; at = 5 })
  a_long_code : abbrevs_in "80808080 80808080 8080 00" 0 false ≡ Err (record { kind = is.LebLong; section = section.Abbrev; at = 0 })
  -- A place after the end of the section is a fault of the unit; the end itself is not.
  behind_the_end : abbrevs_in "01 2e 00 3b 06 00 00 00" 9 false ≡ Err (record { kind = is.OffsetOutside; section = section.Info; at = 32 })
  at_the_end : abbrevs_in "01 2e 00 3b 06 00 00 00" 8 false ≡ Err (record { kind = is.Ends; section = section.Abbrev; at = 8 })
  a_missing_section : abbrevs_in "" 0 false ≡ Err (record { kind = is.Ends; section = section.Abbrev; at = 0 })

faults : Faults
unfolding abbrev_units_computes abbrevs_in unit_at
faults = search rules

record Codes : Type 0 where
  -- The first abbreviation of a code.
  the_first_of_a_code : abbrev_of 1 (sample 1 0x11 ∷ sample 2 0x12 ∷ sample 1 0x13 ∷ []) ≡ Some (sample 1 0x11)
  no_such_code : abbrev_of 3 (sample 1 0x11 ∷ sample 2 0x12 ∷ []) ≡ None

codes : Codes
unfolding abbrev_units_computes
codes = search rules
