-- The rows of the table of forms, each looked up once.
use Rattle.std.specs.Prelude.{◌≡◌, ℕ, Bool, List, Option, None, Some}
use Rattle.std.specs.List.{slice_get}
use Rattle.leb_cursor.specs.Ahead.{Ahead}
use Rattle.code_table.specs.declared.kind.Kind.{Kind}
use Rattle.code_table.specs.declared.kind.Kind.TheVariants as kind
use Rattle.code_table.specs.declared.forms.FormRow.{FormRow}
use Rattle.code_table.specs.Forms.{forms, form_row}
use Rattle.abbrev_units.specs.declared.spec.Known.{Known}
use Rattle.abbrev_units.specs.SpecFields.{SpecFields}
use Rattle.abbrev_units.specs.FormValue.{value_by}
use Rattle.abbrev_units.specs.Values.{value_at}

-- the row of a form, made from its code and from its layout and class, which are stored
abbrev pub row_said : ℕ → Option Known → Option FormRow
row_said form None = None
row_said form (Some known) = Some (record { code = form; layout = known.layout; class = known.class })

-- at each of its indices, a list has the row of the form with that code, or says that there is no
-- row
abbrev pub AreRows : Bool → List (Option Known) → Type 0
AreRows wide rows = (form : ℕ) (known : Option Known) → slice_get rows form ≡ Some known → row_said form known ≡ form_row form (forms wide)

-- each value of the attribute is read as this row says
abbrev pub HasRow : SpecFields → FormRow → Type 0
HasRow spec row = (c : Ahead) → value_at spec c ≡ value_by (Some row) spec.implicit c

-- the size of the operands of a layout in bytes, if it is fixed
abbrev pub size_in : Kind → Option ℕ
size_in kind.Nothing = Some 0
size_in kind.U8 = Some 1
size_in kind.U16 = Some 2
size_in kind.U24 = Some 3
size_in kind.U32 = Some 4
size_in kind.U64 = Some 8
size_in kind.Bytes16 = Some 16
size_in _ = None
