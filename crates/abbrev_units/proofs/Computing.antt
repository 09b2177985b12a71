-- The definitions of abbrev_units and of the crates below it that a proof unfolds to compute a
-- worked example.
use Rattle.std.specs.Prelude.{⊤}
use Rattle.leb_cursor.proofs.Computing.{leb_cursor_computes}
use Rattle.code_table.proofs.Computing.{code_table_computes}
use Rattle.text_table.proofs.Computing.{text_table_computes}
use Rattle.abbrev_units.specs.Faults.{in_section, header_fault}
use Rattle.abbrev_units.specs.FormValue.{value_of, direct_at, indirect_at, form_at}
use Rattle.abbrev_units.specs.DebugSections.{place_in}
use Rattle.abbrev_units.specs.Texts.{text_in, number_in, text_of}
use Rattle.abbrev_units.specs.InitialLength.{length_by, length_at, contents_at}
use Rattle.abbrev_units.specs.Units.{address_size_at, version_4_at, version_5_by, version_5_at, unit_by, unit_in, header_at, unit_at, next_unit, units_in}
use Rattle.abbrev_units.specs.Abbreviations.{implicit_at, spec_at, abbrev_by, abbrev_at, used_at, abbrevs_of, abbrev_of}
use Rattle.abbrev_units.specs.Values.{values_at, behind_values}

unfoldable pub abbrev_units_computes : ⊤
unfolding in_section place_in header_fault value_of direct_at indirect_at form_at text_in number_in text_of length_by length_at contents_at address_size_at version_4_at version_5_by version_5_at unit_by unit_in header_at unit_at next_unit units_in implicit_at spec_at abbrev_by abbrev_at used_at abbrevs_of abbrev_of values_at behind_values leb_cursor_computes code_table_computes text_table_computes
abbrev_units_computes = tt
