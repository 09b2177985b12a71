-- What each slot keeps of values of each class; for `keep` and `class_of`.
use Rattle.std.proofs.Common.{◌≡◌, ℕ, ◌^◌, ℤ, pos, negsuc, Bool, true, false, cond, List, length, Option, None, Some, IfSome, Result, Ok, Err, refl, sym, ap, subst, arith}
use Rattle.std.specs.Int.{w64, cast_signed, cast_unsigned}
use Rattle.std.specs.Option.{option_and_then}
use Rattle.std.proofs.lemmas.Bool.{ltb-true}
use Rattle.std.proofs.lemmas.Int.{to_z-of_z}
use Rattle.sym_edges.specs.Results.{◌>>=◌}
use Rattle.sym_edges.specs.Integers.{fits_i64}
use Rattle.leb_cursor.specs.declared.fault.CursorFault.{CursorFault}
use Rattle.leb_cursor.specs.declared.fault.CursorFault.TheVariants.{LebLong}
use Rattle.leb_cursor.specs.Ahead.{Ahead, passed}
use Rattle.leb_cursor.specs.Readings.{fixed_at, uleb_at, sleb_at, sleb_by, sleb_sum, text_at, leb_length}
use Rattle.code_table.specs.declared.kind.Kind.{Kind}
use Rattle.code_table.specs.declared.kind.Kind.TheVariants as kind
use Rattle.code_table.specs.declared.kind.Operand.{Operand}
use Rattle.code_table.specs.declared.kind.Operand.TheVariants as operand
use Rattle.code_table.specs.declared.forms.FormClass.{FormClass}
use Rattle.code_table.specs.declared.forms.FormClass.TheVariants as form
use Rattle.code_table.specs.Layouts.{kind_at, number_in}
use Rattle.abbrev_units.specs.declared.slots.Class.{Class}
use Rattle.abbrev_units.specs.declared.slots.Class.TheVariants as class
use Rattle.abbrev_units.specs.declared.slots.Slot.{Slot}
use Rattle.abbrev_units.specs.declared.slots.Slot.TheVariants as slot
use Rattle.abbrev_units.specs.declared.value.Value.{Value}
use Rattle.abbrev_units.specs.declared.value.Value.TheVariants as value
use Rattle.abbrev_units.specs.FormValue.{value_of}
use Rattle.abbrev_units.specs.Picks.{kept_by, value_in}
use Rattle.abbrev_units.proofs.OkLemmas.{value_or}
use Rattle.abbrev_units.specs.internal.Picked.{plain_of}
use Rattle.abbrev_units.specs.internal.Takes.{HasClass, MakesNumbers, has_numbers, number_of}

-- Nothing is kept of a block.
block_kept : (s : Slot) (start len : ℕ) → None ≡ kept_by s (value.Block start len)
block_kept slot.Low start len = refl
block_kept _ start len = refl

other_kept : (s : Slot) → None ≡ kept_by s value.Other
other_kept slot.Low = refl
other_kept _ = refl

pub keeps_plain : (s : Slot) (v : Value) → option_and_then (kept_by s) (plain_of v) ≡ kept_by s v
keeps_plain s (value.Block start len) = block_kept s start len
keeps_plain s value.Other = other_kept s
keeps_plain s _ = refl

-- The kind of operand that each layout gives.
number_is : (reading : Result (ℕ × Ahead) CursorFault) (x : Operand) (d : Ahead) → number_in reading ≡ Ok (x, d) → (n : ℕ) × (x ≡ operand.Num n)
number_is (Ok n) x d is = (n.0, sym (ap (value_or x) is))
number_is (Err fault) x d is = absurd (grind (arith, is))

numbers : (layout : Kind) (c d : Ahead) (x : Operand) → has_numbers layout ≡ true → kind_at layout c ≡ Ok (x, d) → (n : ℕ) × (x ≡ operand.Num n)
unfolding kind_at
numbers kind.U8 c d x has is = number_is (fixed_at 1 c) x d is
numbers kind.U16 c d x has is = number_is (fixed_at 2 c) x d is
numbers kind.U24 c d x has is = number_is (fixed_at 3 c) x d is
numbers kind.U32 c d x has is = number_is (fixed_at 4 c) x d is
numbers kind.U64 c d x has is = number_is (fixed_at 8 c) x d is
numbers kind.Uleb c d x has is = number_is (uleb_at c) x d is
numbers _ c d x has is = absurd (grind (arith, has))

signed_fits : (z : ℤ) → fits_i64 z ≡ true → cast_signed w64 (cast_unsigned w64 z) ≡ z
signed_fits (pos n) fits = to_z-of_z w64 (pos n) (record { sfits = ltb-true n (2 ^ 63) fits })
signed_fits (negsuc n) fits = to_z-of_z w64 (negsuc n) (record { sfits = ltb-true n (2 ^ 63) fits })

-- The value of a form, and the number that stands for it.
number_class : (f : FormClass) (layout : Kind) (class : Class) → has_numbers layout ≡ true → MakesNumbers f class → HasClass f layout class
number_class f layout class has makes implicit constant c d x s constant_is is =
    let number = numbers layout c d x has is in
    subst (λ (o : Operand). option_and_then (kept_by s) (value_in class (number_of constant o)) ≡ kept_by s (value_of f implicit o)) (sym number.1)
    (ap (option_and_then (kept_by s)) (makes implicit number.0))

pub number_classes : (f : FormClass) (layout : Kind) (made : Option Class) → has_numbers layout ≡ true → IfSome made (λ class. MakesNumbers f class) → IfSome made (λ class. HasClass f layout class)
number_classes f layout (Some class) has makes = number_class f layout class has makes
number_classes f layout None has makes = tt

pub block_class : (layout : Kind) → HasClass form.Block layout class.Missing
unfolding value_of
block_class layout implicit constant c d (operand.Run start len) s constant_is is = block_kept s start len
block_class layout implicit constant c d _ s constant_is is = other_kept s

pub other_class : (layout : Kind) → HasClass form.Other layout class.Missing
unfolding value_of
other_class layout implicit constant c d x s constant_is is = other_kept s

pub present_class : HasClass form.Present kind.Nothing class.Flag
unfolding value_of kind_at
present_class implicit constant c d x s constant_is is =
    subst (λ (o : Operand). option_and_then (kept_by s) (value_in class.Flag (number_of constant o)) ≡ kept_by s (value.Flag true)) (ap (value_or x) is)
    (ap (λ (n : ℕ). option_and_then (kept_by s) (value_in class.Flag n)) constant_is)

pub implicit_class : HasClass form.Implicit kind.Nothing class.Signed
unfolding value_of kind_at
implicit_class implicit constant c d x s constant_is is =
    subst (λ (o : Operand). option_and_then (kept_by s) (value_in class.Signed (number_of constant o)) ≡ kept_by s (value.Signed implicit)) (ap (value_or x) is)
    (ap (λ (z : ℤ). kept_by s (value.Signed z)) constant_is)

abbrev run_from : ℕ → List ℕ × Ahead → Result (Operand × Ahead) CursorFault
run_from at text = Ok (operand.Run at (length text.0), text.1)

text_is : (reading : Result (List ℕ × Ahead) CursorFault) (at : ℕ) (x : Operand) (d : Ahead) → (reading >>= run_from at) ≡ Ok (x, d) → (len : ℕ) × (x ≡ operand.Run at len)
text_is (Ok text) at x d is = (length text.0, sym (ap (value_or x) is))
text_is (Err fault) at x d is = absurd (grind (arith, is))

pub text_class : HasClass form.InlineText kind.ZeroText class.InlineText
unfolding value_of kind_at
text_class implicit constant c d x s constant_is is =
    let text = text_is (text_at c) c.at x d is in
    subst (λ (o : Operand). option_and_then (kept_by s) (value_in class.InlineText (number_of constant o)) ≡ kept_by s (value_of form.InlineText implicit o)) (sym text.1) refl

-- A signed operand.
abbrev with_sign : ℤ × Ahead → Result (Operand × Ahead) CursorFault
with_sign number = Ok (operand.Signed number.0, number.1)

signed_by : (fits : Bool) (z : ℤ) (rest : Ahead) (fault : CursorFault) (x : Operand) (d : Ahead) → fits_i64 z ≡ fits → (cond fits (Ok (z, rest)) (Err fault) >>= with_sign) ≡ Ok (x, d) → (v : ℤ) × (fits_i64 v ≡ true) × (x ≡ operand.Signed v)
signed_by true z rest fault x d fits is = (z, fits, sym (ap (value_or x) is))
signed_by false z rest fault x d fits is = absurd (grind (arith, is))

signed_of : (c : Ahead) (count : Option ℕ) (x : Operand) (d : Ahead) → (sleb_by c count >>= with_sign) ≡ Ok (x, d) → (v : ℤ) × (fits_i64 v ≡ true) × (x ≡ operand.Signed v)
signed_of c None x d is = absurd (grind (arith, is))
signed_of c (Some count) x d is = signed_by (fits_i64 (sleb_sum count c.bytes)) (sleb_sum count c.bytes) (passed count c) (LebLong c.at) x d refl is

pub signed_class : HasClass form.Signed kind.Sleb class.Signed
unfolding value_of kind_at sleb_at
signed_class implicit constant c d x s constant_is is =
    let signed = signed_of c (leb_length c.bytes) x d is in
    subst (λ (o : Operand). option_and_then (kept_by s) (value_in class.Signed (number_of constant o)) ≡ kept_by s (value_of form.Signed implicit o)) (sym signed.2)
    (ap (λ (z : ℤ). kept_by s (value.Signed z)) (signed_fits signed.0 signed.1))
