-- The short way over the values of an entry: each step skips some bytes and reads one operand.
use Rattle.std.specs.Prelude.{◌≡◌, ℕ, ◌+◌, Bool, true, false, List, [], ◌∷◌, ℤ, Some, Result, Ok, Err}
use Rattle.std.specs.Int.{w64, cast_signed, cast_unsigned}
use Rattle.std.specs.Option.{option_and_then}
use Rattle.sym_edges.specs.Results.{◌>>=◌}
use Rattle.leb_cursor.specs.declared.fault.CursorFault.{CursorFault}
use Rattle.leb_cursor.specs.Ahead.{Ahead}
use Rattle.leb_cursor.specs.Readings.{take_at}
use Rattle.code_table.specs.declared.kind.Kind.{Kind}
use Rattle.code_table.specs.declared.kind.Kind.TheVariants as kind
use Rattle.code_table.specs.declared.kind.Operand.{Operand}
use Rattle.code_table.specs.declared.kind.Operand.TheVariants as operand
use Rattle.code_table.specs.declared.forms.FormClass.{FormClass}
use Rattle.code_table.specs.declared.forms.FormClass.TheVariants as form
use Rattle.code_table.specs.declared.forms.FormRow.{FormRow}
use Rattle.code_table.specs.Layouts.{kind_at}
use Rattle.abbrev_units.specs.declared.fault.FormFault.{FormFault}
use Rattle.abbrev_units.specs.declared.slots.Class.{Class}
use Rattle.abbrev_units.specs.declared.slots.Slot.{Slot}
use Rattle.abbrev_units.specs.declared.slots.Slot.TheVariants as slot
use Rattle.abbrev_units.specs.declared.take.Take.{Take}
use Rattle.abbrev_units.specs.declared.value.Given.{Given}
use Rattle.abbrev_units.specs.FormValue.{value_of}
use Rattle.abbrev_units.specs.Picks.{PickFields, kept_by, no_picks, put_in, value_in, with_picks}
use Rattle.abbrev_units.specs.SpecFields.{SpecFields}
use Rattle.abbrev_units.specs.Values.{values_at}
use Rattle.abbrev_units.specs.internal.FormRows.{size_in}

-- the number of an operand; for an operand without bytes it is the constant
abbrev pub number_of : ℕ → Operand → ℕ
number_of constant operand.Nothing = constant
number_of constant (operand.Num n) = n
number_of constant (operand.Signed n) = cast_unsigned w64 n
number_of constant (operand.Run start len) = start

abbrev pub number_at : Kind → ℕ → Ahead → Result (ℕ × Ahead) CursorFault
number_at layout constant c = kind_at layout c >>= λ x. Ok (number_of constant x.0, x.1)

-- a take skips `take.bytes` bytes, and then puts an operand into its slot
abbrev pub put_taken : Take → PickFields → ℕ × Ahead → Result (PickFields × Ahead) CursorFault
put_taken take picks number = Ok (put_in take.slot (value_in take.class number.0) picks, number.1)

abbrev pub take_one : Take → PickFields → Ahead → Result (PickFields × Ahead) CursorFault
take_one take picks c = take_at take.bytes c >>= λ run. number_at take.layout take.constant run.1 >>= put_taken take picks

unfoldable pub take_all : List Take → PickFields → Ahead → Result (PickFields × Ahead) CursorFault
take_all [] picks c = Ok (picks, c)
take_all (take ∷ takes) picks c = take_one take picks c >>= λ x. take_all takes x.0 x.1

-- the takes, after which `tail` bytes are skipped
abbrev pub takes_at : List Take → ℕ → PickFields → Ahead → Result (PickFields × Ahead) CursorFault
takes_at takes tail picks c = take_all takes picks c >>= λ x. take_at tail x.1 >>= λ run. Ok (x.0, run.1)

-- what is kept of values: the picks if the entries are kept, else nothing
abbrev pub kept_with : {F : Type 0} → Bool → Result (List Given × Ahead) F → Result (PickFields × Ahead) F
kept_with true reading = with_picks reading
kept_with false (Ok x) = Ok (no_picks, x.1)
kept_with false (Err fault) = Err fault

abbrev pub kept_at : Bool → List SpecFields → Ahead → Result (PickFields × Ahead) FormFault
kept_at kept specs c = kept_with kept (values_at specs c)

-- if the takes succeed, they leave what is kept of the values of these attributes, and pass all these values
abbrev pub AreTakes : Bool → List Take → ℕ → List SpecFields → Type 0
AreTakes kept takes tail specs = (c d : Ahead) (picks : PickFields) → takes_at takes tail no_picks c ≡ Ok (picks, d) → kept_at kept specs c ≡ Ok (picks, d)

-- whether the operands of a layout are unsigned numbers
abbrev pub has_numbers : Kind → Bool
has_numbers kind.U8 = true
has_numbers kind.U16 = true
has_numbers kind.U24 = true
has_numbers kind.U32 = true
has_numbers kind.U64 = true
has_numbers kind.Uleb = true
has_numbers _ = false

-- a number with the class `class` stands for the value that a form of the class `form` has if its
-- operand is this number
abbrev pub MakesNumbers : FormClass → Class → Type 0
MakesNumbers form class = (implicit : ℤ) (n : ℕ) → value_in class n ≡ Some (value_of form implicit (operand.Num n))

-- the number that stands for a value without bytes: 1 for a flag, or the constant in the
-- abbreviation modulo 2^64
abbrev pub HasConstant : FormClass → ℤ → ℕ → Type 0
HasConstant form.Present implicit constant = constant ≡ 1
HasConstant form.Implicit implicit constant = cast_signed w64 constant ≡ implicit
HasConstant _ implicit constant = Prim.Unit {0}

-- each slot keeps the same, whether it is given the value of the form or the operand's number with
-- the class `class`
abbrev pub HasClass : FormClass → Kind → Class → Type 0
HasClass form layout class =
    (implicit : ℤ) (constant : ℕ) (c d : Ahead) (x : Operand) (s : Slot) →
    HasConstant form implicit constant →
    kind_at layout c ≡ Ok (x, d) →
    option_and_then (kept_by s) (value_in class (number_of constant x)) ≡ kept_by s (value_of form implicit x)

-- what the take of an attribute has, if the form of the attribute has this row
pub record TakesValue (spec : SpecFields) (row : FormRow) (front : ℕ) (given : Slot) (take : Take) : Type 0 where
  pub bytes : take.bytes ≡ front
  pub into : take.slot ≡ given
  pub layout : take.layout ≡ row.layout
  pub keeps : (c d : Ahead) (x : Operand) → kind_at row.layout c ≡ Ok (x, d) → value_in take.class (number_of take.constant x) ≡ kept_by given (value_of row.class spec.implicit x)

-- an operand of fixed size that goes to no slot is added to the bytes that are skipped
pub record Joins (given : Slot) (layout : Kind) (before after : ℕ) : Type 0 where
  pub unasked : given ≡ slot.Passed
  pub size : ℕ
  pub sized : size_in layout ≡ Some size
  pub sum : after ≡ before + size
