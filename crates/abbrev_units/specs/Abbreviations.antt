-- Abbreviations (DWARF 5, 7.5.3): each has a code, and a list of attributes with their forms.
use Rattle.std.specs.Prelude.{ℕ, ◌==◌, ◌&&◌, not, nat_lt, Bool, if◌then◌else◌, ℤ, pos, List, length, map, find, Option, None, Some, Result, Ok, Err}
use Rattle.sym_edges.specs.Results.{◌>>=◌}
use Rattle.sym_edges.specs.declared.located.Located.{Located}
use Rattle.sym_edges.specs.declared.part.Sect.TheVariants as section
use Rattle.leb_cursor.specs.declared.fault.CursorFault.{CursorFault}
use Rattle.leb_cursor.specs.Ahead.{Ahead}
use Rattle.leb_cursor.specs.Readings.{fixed_at, uleb_at, sleb_at}
use Rattle.leb_cursor.specs.Lists.{list_at}
use Rattle.abbrev_units.specs.declared.fault.DwarfKind.{DwarfKind}
use Rattle.abbrev_units.specs.declared.fault.DwarfKind.TheVariants as is
use Rattle.abbrev_units.specs.declared.unit.Unit.{Unit}
use Rattle.abbrev_units.specs.SpecFields.{AttributeSpec, SpecFields, Abbrev}
use Rattle.abbrev_units.specs.DebugSections.{DebugSections}
use Rattle.abbrev_units.specs.Faults.{read_in}
use Rattle.abbrev_units.specs.Texts.{ahead_from}

-- the constant after the form DW_FORM_implicit_const (0x21); no other form has one
unfoldable pub implicit_at : ℕ → Ahead → Result (ℤ × Ahead) CursorFault
implicit_at form c = if form == 0x21 then sleb_at c else Ok (pos 0, c)

-- an attribute and its form; the pair 0 and 0 ends the list
unfoldable pub spec_at : Ahead → Result (Option AttributeSpec × Ahead) CursorFault
spec_at c =
    uleb_at c >>= λ attribute.
    uleb_at attribute.1 >>= λ form.
    implicit_at form.0 form.1 >>= λ implicit.
    Ok (if attribute.0 == 0 && form.0 == 0 then None else Some (record { attribute = attribute.0; form = form.0; implicit = implicit.0 }), implicit.1)

-- an abbreviation: its code, the tag of its entries, whether they have children, and their attributes
pub record AbbrevFields : Type 0 where
  pub code : ℕ
  pub tag : ℕ
  pub children : Bool
  pub specs : List AttributeSpec

-- the rest of an abbreviation, after its code
unfoldable pub abbrev_by : ℕ → Ahead → Result (Option AbbrevFields × Ahead) CursorFault
abbrev_by code c =
    uleb_at c >>= λ tag.
    fixed_at 1 tag.1 >>= λ children.
    list_at spec_at children.1 >>= λ specs.
    Ok (Some (record { code = code; tag = tag.0; children = not (children.0 == 0); specs = specs.0 }), specs.1)

-- the next abbreviation; code 0 ends the list
unfoldable pub abbrev_at : Ahead → Result (Option AbbrevFields × Ahead) CursorFault
abbrev_at c = uleb_at c >>= λ code. if code.0 == 0 then Ok (None, code.1) else abbrev_by code.0 code.1

-- an attribute and an abbreviation as a unit uses them; `wide` says whether the unit has the 64-bit
-- format
abbrev pub used_spec : Bool → AttributeSpec → SpecFields
used_spec wide s = record { attribute = s.attribute; form = s.form; implicit = s.implicit; wide = wide }

abbrev pub used_abbrev : Bool → AbbrevFields → Abbrev
used_abbrev wide a = record { code = a.code; tag = a.tag; children = a.children; specs = map (used_spec wide) a.specs }

-- the abbreviations ahead, as a unit uses them
unfoldable pub used_at : Bool → Ahead → Result (List Abbrev × Ahead) CursorFault
used_at wide c = list_at abbrev_at c >>= λ abbrevs. Ok (map (used_abbrev wide) abbrevs.0, abbrevs.1)

-- the abbreviations of a unit: they begin at the place that its header gives. A place after the end of the section is a fault of the unit
unfoldable pub abbrevs_of : DebugSections → Unit → Result (List Abbrev) (Located DwarfKind)
abbrevs_of sections unit =
    if nat_lt (length sections.abbrevs) unit.abbrev_at
    then Err (record { kind = is.OffsetOutside; section = section.Info; at = unit.start })
    else (read_in section.Abbrev (used_at unit.wide (ahead_from unit.abbrev_at sections.abbrevs)) >>= λ abbrevs. Ok abbrevs.0)

-- the abbreviation of a code: the first one with that code
unfoldable pub abbrev_of : ℕ → List Abbrev → Option Abbrev
abbrev_of code abbrevs = find (λ a. a.code == code) abbrevs
