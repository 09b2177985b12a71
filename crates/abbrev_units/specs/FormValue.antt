-- The value of an attribute by its form (DWARF 5, 7.5.3, 7.5.5 and 7.5.6).
use Rattle.std.specs.Prelude.{ℕ, ◌==◌, ◌||◌, not, Bool, true, if◌then◌else◌, ℤ, pos, Option, None, Some, Result, Ok, Err}
use Rattle.sym_edges.specs.Results.{◌>>=◌}
use Rattle.leb_cursor.specs.Ahead.{Ahead}
use Rattle.leb_cursor.specs.Readings.{uleb_at}
use Rattle.code_table.specs.declared.kind.Operand.{Operand}
use Rattle.code_table.specs.declared.kind.Operand.TheVariants as operand
use Rattle.code_table.specs.declared.forms.FormClass.{FormClass}
use Rattle.code_table.specs.declared.forms.FormClass.TheVariants as is
use Rattle.code_table.specs.declared.forms.FormRow.{FormRow}
use Rattle.code_table.specs.Layouts.{kind_at}
use Rattle.code_table.specs.Forms.{forms, form_row}
use Rattle.abbrev_units.specs.declared.fault.FormFault.{FormFault}
use Rattle.abbrev_units.specs.declared.fault.FormFault.TheVariants.{Unknown}
use Rattle.abbrev_units.specs.declared.value.Value.{Value}
use Rattle.abbrev_units.specs.declared.value.Value.TheVariants as value
use Rattle.abbrev_units.specs.Faults.{as_value}

-- the value of an operand, by the class of its form; `implicit` is the constant in the abbreviation
unfoldable pub value_of : FormClass → ℤ → Operand → Value
value_of is.Address implicit (operand.Num n) = value.Addr n
value_of is.AddressIndex implicit (operand.Num n) = value.AddrIndex n
value_of is.Block implicit (operand.Run start len) = value.Block start len
value_of is.Constant implicit (operand.Num n) = value.Num n
value_of is.Signed implicit (operand.Signed n) = value.Signed n
value_of is.Implicit implicit _ = value.Signed implicit
value_of is.Flag implicit (operand.Num n) = value.Flag (not (n == 0))
value_of is.Present implicit _ = value.Flag true
value_of is.InlineText implicit (operand.Run start len) = value.InlineText start
value_of is.TextPlace implicit (operand.Num n) = value.StrAt n
value_of is.LineTextPlace implicit (operand.Num n) = value.LineStrAt n
value_of is.SupTextPlace implicit (operand.Num n) = value.SupStrAt n
value_of is.TextIndex implicit (operand.Num n) = value.StrIndex n
value_of is.UnitReference implicit (operand.Num n) = value.UnitRef n
value_of is.InfoReference implicit (operand.Num n) = value.InfoRef n
value_of is.SupReference implicit (operand.Num n) = value.SupRefAt n
value_of is.SectionPlace implicit (operand.Num n) = value.SecOffset n
value_of is.ListIndex implicit (operand.Num n) = value.ListIndex n
value_of _ implicit _ = value.Other

-- the value of a form, given its row in the table of forms; a form without a row is a fault at the place where the value would begin
abbrev pub value_by : Option FormRow → ℤ → Ahead → Result (Value × Ahead) FormFault
value_by None implicit c = Err (Unknown c.at)
value_by (Some row) implicit c = as_value (kind_at row.layout c) >>= λ x. Ok (value_of row.class implicit x.0, x.1)

-- a value whose form is not DW_FORM_indirect
unfoldable pub direct_at : ℕ → ℤ → Bool → Ahead → Result (Value × Ahead) FormFault
direct_at form implicit wide c = value_by (form_row form (forms wide)) implicit c

-- DW_FORM_indirect (0x16): the form comes before the value, and may be neither DW_FORM_indirect nor DW_FORM_implicit_const (0x21)
unfoldable pub indirect_at : Bool → Ahead → Result (Value × Ahead) FormFault
indirect_at wide c =
    as_value (uleb_at c) >>= λ form.
    if form.0 == 0x16 || form.0 == 0x21 then Err (Unknown form.1.at) else direct_at form.0 (pos 0) wide form.1

-- the value of a form; `wide` says whether the unit has the 64-bit format
unfoldable pub form_at : ℕ → ℤ → Bool → Ahead → Result (Value × Ahead) FormFault
form_at form implicit wide c = if form == 0x16 then indirect_at wide c else direct_at form implicit wide c
