-- How many bytes the reading of a value passes.
use Rattle.std.proofs.Common.{◌≡◌, ℕ, ℤ, pos, Bool, ◌||◌, nat_eq, cond, List, [], ◌∷◌, Option, None, Some, Result, Ok, Err, refl, sym, ap, ◌∙◌, arith}
use Rattle.std.specs.List.{find}
use Rattle.std.proofs.lemmas.Bool.Decides.{nat_tests}
use Rattle.leb_cursor.specs.declared.fault.CursorFault.{CursorFault}
use Rattle.leb_cursor.specs.Ahead.{Ahead}
use Rattle.leb_cursor.specs.Passes.{Passes}
use Rattle.leb_cursor.specs.Readings.{uleb_at}
use Rattle.leb_cursor.proofs.PassLemmas.{uleb_passes, passes_then}
use Rattle.leb_cursor.proofs.ListLemmas.{weaker, either_passes}
use Rattle.code_table.specs.declared.forms.FormRow.{FormRow}
use Rattle.code_table.specs.Layouts.{kind_at}
use Rattle.code_table.specs.Forms.{forms, form_row}
use Rattle.code_table.proofs.OperandLemmas.{kind_passes}
use Rattle.abbrev_units.specs.declared.fault.FormFault.TheVariants.{Unknown}
use Rattle.abbrev_units.specs.Faults.{as_value}
use Rattle.abbrev_units.specs.SpecFields.{SpecFields}
use Rattle.abbrev_units.specs.FormValue.{value_of, value_by, direct_at, indirect_at, form_at}
use Rattle.abbrev_units.specs.Values.{value_at, values_at}

value_passes : {A : Type 0} (reading : Result (A × Ahead) CursorFault) (least : ℕ) (c : Ahead) → Passes least c reading → Passes least c (as_value reading)
value_passes (Ok x) least c goes = goes
value_passes (Err fault) least c goes = tt

row_passes : (row : Option FormRow) (implicit : ℤ) (c : Ahead) → Passes 0 c (value_by row implicit c)
row_passes None implicit c = tt
row_passes (Some row) implicit c =
    passes_then (as_value (kind_at row.layout c)) (λ x. Ok (value_of row.class implicit x.0, x.1)) 0 0 c
    (value_passes (kind_at row.layout c) 0 c (kind_passes row.layout c)) (λ x. (omega arith, refl))

direct_passes : (form : ℕ) (implicit : ℤ) (wide : Bool) (c : Ahead) → Passes 0 c (direct_at form implicit wide c)
unfolding direct_at
direct_passes form implicit wide c = row_passes (form_row form (forms wide)) implicit c

indirect_passes : (wide : Bool) (c : Ahead) → Passes 0 c (indirect_at wide c)
unfolding indirect_at
indirect_passes wide c =
    weaker (indirect_at wide c) 1 0 c (omega arith)
    (passes_then (as_value (uleb_at c)) (λ form. cond (nat_eq form.0 0x16 || nat_eq form.0 0x21) (Err (Unknown form.1.at)) (direct_at form.0 (pos 0) wide form.1)) 1 0 c
    (value_passes (uleb_at c) 1 c (uleb_passes c))
    (λ form. either_passes (nat_eq form.0 0x16 || nat_eq form.0 0x21) (Err (Unknown form.1.at)) (direct_at form.0 (pos 0) wide form.1) 0 form.1 tt (direct_passes form.0 (pos 0) wide form.1)))

pub form_passes : (form : ℕ) (implicit : ℤ) (wide : Bool) (c : Ahead) → Passes 0 c (form_at form implicit wide c)
unfolding form_at
form_passes form implicit wide c =
    either_passes (nat_eq form 0x16) (indirect_at wide c) (direct_at form implicit wide c) 0 c (indirect_passes wide c) (direct_passes form implicit wide c)

pub values_pass : (specs : List SpecFields) (c : Ahead) → Passes 0 c (values_at specs c)
unfolding values_at
values_pass [] c = (omega arith, refl)
values_pass (spec ∷ specs) c =
    passes_then (value_at spec c) _ 0 0 c (form_passes spec.form spec.implicit spec.wide c)
    (λ first. passes_then (values_at specs first.1) _ 0 0 first.1 (values_pass specs first.1) (λ later. (omega arith, refl)))

-- The row that is found has the code that was looked for.
row_code : (code : ℕ) (rows : List FormRow) (row : FormRow) → Some row ≡ find (λ (r : FormRow). nat_eq r.code code) rows → row.code ≡ code
row_code code [] row is = absurd (grind (arith, is))
row_code code (first ∷ rows) row is = grind (arith, nat_tests, row_code code rows row, is)

pub row_known : (form : ℕ) (rows : List FormRow) (row : FormRow) → Some row ≡ form_row form rows → Some (record { code = form; layout = row.layout; class = row.class }) ≡ form_row form rows
unfolding form_row
row_known form rows row is = ap (λ code. Some (record { code = code; layout = row.layout; class = row.class })) (sym (row_code form rows row is)) ∙ is
