-- The usual forms of values, for `read_value`.
use Rattle.std.proofs.Common.{◌≡◌, ℕ, pos, Bool, true, false, Result, Ok, Err, refl, sym, ap, ◌∙◌}
use Rattle.sym_edges.specs.Results.{◌>>=◌}
use Rattle.leb_cursor.specs.declared.fault.CursorFault.{CursorFault}
use Rattle.leb_cursor.specs.Ahead.{Ahead}
use Rattle.leb_cursor.specs.Readings.{fixed_at, uleb_at}
use Rattle.code_table.specs.declared.kind.Operand.{Operand}
use Rattle.code_table.specs.declared.forms.FormClass.{FormClass}
use Rattle.code_table.specs.declared.forms.FormClass.TheVariants as class
use Rattle.code_table.specs.Forms.{forms, form_row}
use Rattle.code_table.specs.Layouts.{kind_at, number_in}
use Rattle.abbrev_units.specs.declared.fault.FormFault.{FormFault}
use Rattle.abbrev_units.specs.declared.value.Value.{Value}
use Rattle.abbrev_units.specs.declared.value.Value.TheVariants.{Num, LineStrAt}
use Rattle.abbrev_units.specs.Faults.{as_value, in_section}
use Rattle.abbrev_units.specs.FormValue.{value_of, direct_at, form_at}
use Rattle.abbrev_units.specs.Texts.{place_width}
use Rattle.sym_edges.specs.declared.part.Sect.TheVariants.{Line}
use Rattle.line_program.specs.Faults.{Fault, or_value_fault}
use Rattle.line_program.specs.FileTables.{value_at}

abbrev valued : FormClass → Operand × Ahead → Result (Value × Ahead) FormFault
valued kind x = Ok (value_of kind (pos 0) x.0, x.1)

abbrev read_as : FormClass → Result (ℕ × Ahead) CursorFault → Result (Value × Ahead) Fault
read_as kind reading = or_value_fault (as_value (number_in reading) >>= valued kind)

number_is : (wide : Bool) (c : Ahead) → value_at wide 0x0f c ≡ read_as class.Constant (uleb_at c)
unfolding value_at form_at direct_at form_row forms kind_at
number_is wide c = refl

path_is : (wide : Bool) (c : Ahead) → value_at wide 0x1f c ≡ read_as class.LineTextPlace (fixed_at (place_width wide) c)
unfolding value_at form_at direct_at form_row forms kind_at
path_is true c = refl
path_is false c = refl

pub number_read : (wide : Bool) (form : ℕ) (c d : Ahead) (n : ℕ) → form ≡ 0x0f → Ok (n, d) ≡ uleb_at c → Ok (Num n, d) ≡ value_at wide form c
unfolding value_of
number_read wide form c d n is reads = sym (ap (λ f. value_at wide f c) is ∙ number_is wide c ∙ ap (read_as class.Constant) (sym reads))

pub number_cut : (wide : Bool) (form : ℕ) (c : Ahead) (fault : CursorFault) (line : Fault) → form ≡ 0x0f → Err fault ≡ uleb_at c → line ≡ in_section Line fault → Err line ≡ value_at wide form c
number_cut wide form c fault line is reads told = ap Err told ∙ sym (ap (λ f. value_at wide f c) is ∙ number_is wide c ∙ ap (read_as class.Constant) (sym reads))

pub path_read : (wide : Bool) (form : ℕ) (c d : Ahead) (n : ℕ) → form ≡ 0x1f → Ok (n, d) ≡ fixed_at (place_width wide) c → Ok (LineStrAt n, d) ≡ value_at wide form c
unfolding value_of
path_read wide form c d n is reads = sym (ap (λ f. value_at wide f c) is ∙ path_is wide c ∙ ap (read_as class.LineTextPlace) (sym reads))

pub path_cut : (wide : Bool) (form : ℕ) (c : Ahead) (fault : CursorFault) (line : Fault) → form ≡ 0x1f → Err fault ≡ fixed_at (place_width wide) c → line ≡ in_section Line fault → Err line ≡ value_at wide form c
path_cut wide form c fault line is reads told = ap Err told ∙ sym (ap (λ f. value_at wide f c) is ∙ path_is wide c ∙ ap (read_as class.LineTextPlace) (sym reads))
