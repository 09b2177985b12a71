-- Worked examples of operations and steps of expressions (DWARF 5, 2.5): each constant with its
-- least and its greatest value, each step, and operations that are in no step.
use Rattle.std.proofs.Common.{◌≡◌, ◌^◌, pos, negsuc, true, false, [], ◌∷◌, None, Some, refl}
use Rattle.sym_edges.proofs.Hex.{hex}
use Rattle.expr_steps.specs.declared.place.Place.{Place}
use Rattle.expr_steps.specs.declared.operation.Operation.TheVariants.{Constant, Breg, Deref, And, Minus, Mul, Plus, PlusUconst, Shl, Ge}
use Rattle.expr_steps.specs.declared.step.Step.TheVariants as step
use Rattle.expr_steps.specs.Operations.{operations}
use Rattle.expr_steps.specs.Steps.{steps}
use Rattle.expr_steps.specs.Places.{place_of, bytes_at}
use Rattle.expr_steps.proofs.Computing.{expr_steps_computes}

-- Unsigned and signed constants, by their size in bytes.
one_byte_least : operations (hex "08 00") ≡ Some (Constant 0 ∷ [])
unfolding expr_steps_computes
one_byte_least = refl

one_byte_greatest : operations (hex "08 ff") ≡ Some (Constant 0xff ∷ [])
unfolding expr_steps_computes
one_byte_greatest = refl

one_signed_byte_least : operations (hex "09 80") ≡ Some (Constant 0xffffffffffffff80 ∷ [])
unfolding expr_steps_computes
one_signed_byte_least = refl

one_signed_byte_greatest : operations (hex "09 7f") ≡ Some (Constant 0x7f ∷ [])
unfolding expr_steps_computes
one_signed_byte_greatest = refl

two_bytes_least : operations (hex "0a 0000") ≡ Some (Constant 0 ∷ [])
unfolding expr_steps_computes
two_bytes_least = refl

two_bytes_greatest : operations (hex "0a ffff") ≡ Some (Constant 0xffff ∷ [])
unfolding expr_steps_computes
two_bytes_greatest = refl

two_signed_bytes_least : operations (hex "0b 0080") ≡ Some (Constant 0xffffffffffff8000 ∷ [])
unfolding expr_steps_computes
two_signed_bytes_least = refl

two_signed_bytes_greatest : operations (hex "0b ff7f") ≡ Some (Constant 0x7fff ∷ [])
unfolding expr_steps_computes
two_signed_bytes_greatest = refl

four_bytes_least : operations (hex "0c 00000000") ≡ Some (Constant 0 ∷ [])
unfolding expr_steps_computes
four_bytes_least = refl

four_bytes_greatest : operations (hex "0c ffffffff") ≡ Some (Constant 0xffffffff ∷ [])
unfolding expr_steps_computes
four_bytes_greatest = refl

four_signed_bytes_least : operations (hex "0d 00000080") ≡ Some (Constant 0xffffffff80000000 ∷ [])
unfolding expr_steps_computes
four_signed_bytes_least = refl

four_signed_bytes_greatest : operations (hex "0d ffffff7f") ≡ Some (Constant 0x7fffffff ∷ [])
unfolding expr_steps_computes
four_signed_bytes_greatest = refl

eight_bytes_least : operations (hex "0e 0000000000000000") ≡ Some (Constant 0 ∷ [])
unfolding expr_steps_computes
eight_bytes_least = refl

eight_bytes_greatest : operations (hex "0e ffffffffffffffff") ≡ Some (Constant 0xffffffffffffffff ∷ [])
unfolding expr_steps_computes
eight_bytes_greatest = refl

eight_signed_bytes_least : operations (hex "0f 0000000000000080") ≡ Some (Constant 0x8000000000000000 ∷ [])
unfolding expr_steps_computes
eight_signed_bytes_least = refl

eight_signed_bytes_greatest : operations (hex "0f ffffffffffffff7f") ≡ Some (Constant 0x7fffffffffffffff ∷ [])
unfolding expr_steps_computes
eight_signed_bytes_greatest = refl

unsigned_least : operations (hex "10 00") ≡ Some (Constant 0 ∷ [])
unfolding expr_steps_computes
unsigned_least = refl

unsigned_greatest : operations (hex "10 ffffffffffffffffff01") ≡ Some (Constant 0xffffffffffffffff ∷ [])
unfolding expr_steps_computes
unsigned_greatest = refl

signed_least : operations (hex "11 8080808080808080807f") ≡ Some (Constant 0x8000000000000000 ∷ [])
unfolding expr_steps_computes
signed_least = refl

signed_greatest : operations (hex "11 ffffffffffffffffff00") ≡ Some (Constant 0x7fffffffffffffff ∷ [])
unfolding expr_steps_computes
signed_greatest = refl

literals : operations (hex "30 4f") ≡ Some (Constant 0 ∷ Constant 31 ∷ [])
unfolding expr_steps_computes
literals = refl

-- The other operations.
registers : operations (hex "70 08 77 78 8f 00") ≡ Some (Breg 0 (pos 8) ∷ Breg 7 (negsuc 7) ∷ Breg 31 (pos 0) ∷ [])
unfolding expr_steps_computes
registers = refl

signs : operations (hex "06 1a 1c 1e 22 23 8001 24 2a") ≡ Some (Deref ∷ And ∷ Minus ∷ Mul ∷ Plus ∷ PlusUconst 128 ∷ Shl ∷ Ge ∷ [])
unfolding expr_steps_computes
signs = refl

no_operation : operations (hex "") ≡ Some []
unfolding expr_steps_computes
no_operation = refl

-- Opcodes that are not read, operands that are cut off, and LEB128 numbers that are too long.
an_unknown_opcode : operations (hex "77 08 96") ≡ None
unfolding expr_steps_computes
an_unknown_opcode = refl

an_address : operations (hex "03 0010000000000000") ≡ None
unfolding expr_steps_computes
an_address = refl

opcode_07 : operations (hex "07") ≡ None
unfolding expr_steps_computes
opcode_07 = refl

opcode_12 : operations (hex "12") ≡ None
unfolding expr_steps_computes
opcode_12 = refl

opcode_2f : operations (hex "2f") ≡ None
unfolding expr_steps_computes
opcode_2f = refl

opcode_50 : operations (hex "50") ≡ None
unfolding expr_steps_computes
opcode_50 = refl

opcode_6f : operations (hex "6f") ≡ None
unfolding expr_steps_computes
opcode_6f = refl

opcode_90 : operations (hex "90") ≡ None
unfolding expr_steps_computes
opcode_90 = refl

opcode_08_cut : operations (hex "08") ≡ None
unfolding expr_steps_computes
opcode_08_cut = refl

opcode_09_cut : operations (hex "09") ≡ None
unfolding expr_steps_computes
opcode_09_cut = refl

opcode_0a_cut : operations (hex "0a 00") ≡ None
unfolding expr_steps_computes
opcode_0a_cut = refl

opcode_0b_cut : operations (hex "0b 00") ≡ None
unfolding expr_steps_computes
opcode_0b_cut = refl

opcode_0c_cut : operations (hex "0c 000000") ≡ None
unfolding expr_steps_computes
opcode_0c_cut = refl

opcode_0d_cut : operations (hex "0d 000000") ≡ None
unfolding expr_steps_computes
opcode_0d_cut = refl

opcode_0e_cut : operations (hex "0e 00000000000000") ≡ None
unfolding expr_steps_computes
opcode_0e_cut = refl

opcode_0f_cut : operations (hex "0f 00000000000000") ≡ None
unfolding expr_steps_computes
opcode_0f_cut = refl

opcode_10_cut : operations (hex "10 80") ≡ None
unfolding expr_steps_computes
opcode_10_cut = refl

opcode_11_cut : operations (hex "11") ≡ None
unfolding expr_steps_computes
opcode_11_cut = refl

opcode_23_cut : operations (hex "23 ff") ≡ None
unfolding expr_steps_computes
opcode_23_cut = refl

opcode_77_cut : operations (hex "77") ≡ None
unfolding expr_steps_computes
opcode_77_cut = refl

an_unsigned_too_long : operations (hex "10 80808080808080808080 00") ≡ None
unfolding expr_steps_computes
an_unsigned_too_long = refl

an_unsigned_above_64_bits : operations (hex "10 ffffffffffffffffff02") ≡ None
unfolding expr_steps_computes
an_unsigned_above_64_bits = refl

a_signed_too_long : operations (hex "11 80808080808080808080 00") ≡ None
unfolding expr_steps_computes
a_signed_too_long = refl

an_offset_too_long : operations (hex "77 80808080808080808001") ≡ None
unfolding expr_steps_computes
an_offset_too_long = refl

-- Each operation that is a step alone, and the limits of registers.
each_alone : steps (hex "35 70 08 06 22 1c 1e 23 05") ≡ Some (step.Constant 5 ∷ step.Register 0 (pos 8) ∷ step.Fetch ∷ step.Add ∷ step.Subtract ∷ step.Multiply ∷ step.AddConstant 5 ∷ [])
unfolding expr_steps_computes
each_alone = refl

register_15 : steps (hex "7f 00") ≡ Some (step.Register 15 (pos 0) ∷ [])
unfolding expr_steps_computes
register_15 = refl

rip : steps (hex "80 00") ≡ Some (step.Register 16 (pos 0) ∷ [])
unfolding expr_steps_computes
rip = refl

register_17 : steps (hex "81 00") ≡ None
unfolding expr_steps_computes
register_17 = refl

-- `and` with one less than a power of two, up to 2^62.
and_with_0 : steps (hex "30 1a") ≡ Some (step.Remainder 1 ∷ [])
unfolding expr_steps_computes
and_with_0 = refl

and_with_15 : steps (hex "3f 1a") ≡ Some (step.Remainder 16 ∷ [])
unfolding expr_steps_computes
and_with_15 = refl

and_with_62_ones : steps (hex "0e ffffffffffffff3f 1a") ≡ Some (step.Remainder (2 ^ 62) ∷ [])
unfolding expr_steps_computes
and_with_62_ones = refl

and_with_63_ones : steps (hex "0e ffffffffffffff7f 1a") ≡ None
unfolding expr_steps_computes
and_with_63_ones = refl

and_with_64_ones : steps (hex "09 ff 1a") ≡ None
unfolding expr_steps_computes
and_with_64_ones = refl

and_with_16 : steps (hex "40 1a") ≡ None
unfolding expr_steps_computes
and_with_16 = refl

and_with_14 : steps (hex "3e 1a") ≡ None
unfolding expr_steps_computes
and_with_14 = refl

and_behind_no_constant : steps (hex "70 00 1a") ≡ None
unfolding expr_steps_computes
and_behind_no_constant = refl

and_first : steps (hex "1a") ≡ None
unfolding expr_steps_computes
and_first = refl

-- `shl` by at most 62.
shift_by_0 : steps (hex "30 24") ≡ Some (step.Product 1 ∷ [])
unfolding expr_steps_computes
shift_by_0 = refl

shift_by_62 : steps (hex "10 3e 24") ≡ Some (step.Product (2 ^ 62) ∷ [])
unfolding expr_steps_computes
shift_by_62 = refl

shift_by_63 : steps (hex "10 3f 24") ≡ None
unfolding expr_steps_computes
shift_by_63 = refl

shift_behind_no_constant : steps (hex "06 24") ≡ None
unfolding expr_steps_computes
shift_behind_no_constant = refl

-- `ge` directly after an `and`, with at most the power of two of the `and`.
ge_with_0 : steps (hex "3f 1a 30 2a") ≡ Some (step.Remainder 16 ∷ step.Reaches 16 16 ∷ [])
unfolding expr_steps_computes
ge_with_0 = refl

ge_with_11 : steps (hex "3f 1a 3b 2a") ≡ Some (step.Remainder 16 ∷ step.Reaches 5 16 ∷ [])
unfolding expr_steps_computes
ge_with_11 = refl

ge_with_16 : steps (hex "3f 1a 40 2a") ≡ Some (step.Remainder 16 ∷ step.Reaches 0 16 ∷ [])
unfolding expr_steps_computes
ge_with_16 = refl

ge_with_17 : steps (hex "3f 1a 41 2a") ≡ None
unfolding expr_steps_computes
ge_with_17 = refl

ge_behind_the_least_and : steps (hex "30 1a 31 2a") ≡ Some (step.Remainder 1 ∷ step.Reaches 0 1 ∷ [])
unfolding expr_steps_computes
ge_behind_the_least_and = refl

ge_behind_no_and : steps (hex "3b 2a") ≡ None
unfolding expr_steps_computes
ge_behind_no_and = refl

ge_behind_another_step : steps (hex "3f 1a 31 22 3b 2a") ≡ None
unfolding expr_steps_computes
ge_behind_another_step = refl

ge_behind_ge : steps (hex "3f 1a 3b 2a 31 2a") ≡ None
unfolding expr_steps_computes
ge_behind_ge = refl

ge_behind_no_constant : steps (hex "3f 1a 2a") ≡ None
unfolding expr_steps_computes
ge_behind_no_constant = refl

-- A constant and an `and` with an operation between them, and two constants.
a_pair_that_is_split : steps (hex "3f 06 1a") ≡ None
unfolding expr_steps_computes
a_pair_that_is_split = refl

a_constant_behind_a_constant : steps (hex "3b 3f 1a") ≡ Some (step.Constant 11 ∷ step.Remainder 16 ∷ [])
unfolding expr_steps_computes
a_constant_behind_a_constant = refl

a_constant_at_the_end : steps (hex "3f 1a 3b") ≡ Some (step.Remainder 16 ∷ step.Constant 11 ∷ [])
unfolding expr_steps_computes
a_constant_at_the_end = refl

a_bad_byte_behind_steps : steps (hex "70 00 96") ≡ None
unfolding expr_steps_computes
a_bad_byte_behind_steps = refl

-- Places of expressions.
a_place : place_of true 0xffffffff 0 ≡ (let p : Place = record { own = true; start = 0xffffffff; len = 0 } in Some p)
unfolding expr_steps_computes
a_place = refl

a_place_too_far : place_of true 0x100000000 0 ≡ None
unfolding expr_steps_computes
a_place_too_far = refl

a_place_too_long : place_of true 0 0x100000000 ≡ None
unfolding expr_steps_computes
a_place_too_long = refl

bytes_of_the_cie : bytes_at (record { own = false; start = 1; len = 2 }) (1 ∷ 2 ∷ 3 ∷ 4 ∷ []) (5 ∷ 6 ∷ []) ≡ 2 ∷ 3 ∷ []
unfolding expr_steps_computes
bytes_of_the_cie = refl

bytes_of_the_entry : bytes_at (record { own = true; start = 1; len = 2 }) (1 ∷ 2 ∷ 3 ∷ 4 ∷ []) (5 ∷ 6 ∷ 7 ∷ []) ≡ 6 ∷ 7 ∷ []
unfolding expr_steps_computes
bytes_of_the_entry = refl

bytes_past_the_end : bytes_at (record { own = true; start = 1; len = 9 }) [] (5 ∷ 6 ∷ []) ≡ 6 ∷ []
unfolding expr_steps_computes
bytes_past_the_end = refl
