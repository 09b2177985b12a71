-- Worked examples: each opcode of the standard with its operands.
use Rattle.std.proofs.Common.{◌≡◌, ℕ, negsuc, List, [], ◌∷◌, Ok, Err, refl}
use Prim.Native.String.{String}
use Rattle.sym_edges.specs.declared.reason.Reason.TheVariants as reason
use Rattle.frame_rows.specs.declared.instruction.Block.{Block}
use Rattle.frame_rows.specs.declared.instruction.Instruction.TheVariants.{SetLoc, AdvanceLoc, DefCfa, DefCfaSf, DefCfaRegister, DefCfaOffset, DefCfaOffsetSf, DefCfaExpression, Undefined, SameValue, Offset, OffsetExtendedSf, ValOffset, ValOffsetSf, Register, Expression, ValExpression, Restore, RememberState, RestoreState, Nop}
use Rattle.frame_rows.specs.Instructions.{Item, instructions}
use Rattle.sym_edges.proofs.Hex.{hex}
use Rattle.frame_rows.proofs.Computing.{frame_rows_computes}

-- The instructions of a run of bytes at 2029, whose pointers are numbers of eight bytes.
unfoldable reads : String → List Item
unfolding hex
reads text = instructions 0 0x2029 (hex text)

advance_loc : reads "45" ≡ Ok (AdvanceLoc 5) ∷ []
unfolding frame_rows_computes reads
advance_loc = refl

advance_loc_by_63 : reads "7f" ≡ Ok (AdvanceLoc 63) ∷ []
unfolding frame_rows_computes reads
advance_loc_by_63 = refl

offset : reads "83 02" ≡ Ok (Offset 3 2) ∷ []
unfolding frame_rows_computes reads
offset = refl

restore : reads "c6" ≡ Ok (Restore 6) ∷ []
unfolding frame_rows_computes reads
restore = refl

nop : reads "00" ≡ Ok (Nop) ∷ []
unfolding frame_rows_computes reads
nop = refl

set_loc : reads "01 0712000000000000" ≡ Ok (SetLoc 0x1207) ∷ []
unfolding frame_rows_computes reads
set_loc = refl

advance_loc1 : reads "02 ff" ≡ Ok (AdvanceLoc 255) ∷ []
unfolding frame_rows_computes reads
advance_loc1 = refl

advance_loc2 : reads "03 0001" ≡ Ok (AdvanceLoc 256) ∷ []
unfolding frame_rows_computes reads
advance_loc2 = refl

advance_loc4 : reads "04 00000100" ≡ Ok (AdvanceLoc 0x10000) ∷ []
unfolding frame_rows_computes reads
advance_loc4 = refl

offset_extended : reads "05 03 02" ≡ Ok (Offset 3 2) ∷ []
unfolding frame_rows_computes reads
offset_extended = refl

restore_extended : reads "06 00" ≡ Ok (Restore 0) ∷ []
unfolding frame_rows_computes reads
restore_extended = refl

undefined : reads "07 06" ≡ Ok (Undefined 6) ∷ []
unfolding frame_rows_computes reads
undefined = refl

same_value : reads "08 0f" ≡ Ok (SameValue 15) ∷ []
unfolding frame_rows_computes reads
same_value = refl

register : reads "09 10 03" ≡ Ok (Register 16 3) ∷ []
unfolding frame_rows_computes reads
register = refl

remember_state : reads "0a" ≡ Ok (RememberState) ∷ []
unfolding frame_rows_computes reads
remember_state = refl

restore_state : reads "0b" ≡ Ok (RestoreState) ∷ []
unfolding frame_rows_computes reads
restore_state = refl

def_cfa : reads "0c 06 10" ≡ Ok (DefCfa 6 16) ∷ []
unfolding frame_rows_computes reads
def_cfa = refl

def_cfa_register : reads "0d 06" ≡ Ok (DefCfaRegister 6) ∷ []
unfolding frame_rows_computes reads
def_cfa_register = refl

def_cfa_offset : reads "0e 10" ≡ Ok (DefCfaOffset 16) ∷ []
unfolding frame_rows_computes reads
def_cfa_offset = refl

offset_extended_sf : reads "11 03 7e" ≡ Ok (OffsetExtendedSf 3 (negsuc 1)) ∷ []
unfolding frame_rows_computes reads
offset_extended_sf = refl

def_cfa_sf : reads "12 06 7e" ≡ Ok (DefCfaSf 6 (negsuc 1)) ∷ []
unfolding frame_rows_computes reads
def_cfa_sf = refl

def_cfa_offset_sf : reads "13 7d" ≡ Ok (DefCfaOffsetSf (negsuc 2)) ∷ []
unfolding frame_rows_computes reads
def_cfa_offset_sf = refl

val_offset : reads "14 03 02" ≡ Ok (ValOffset 3 2) ∷ []
unfolding frame_rows_computes reads
val_offset = refl

val_offset_sf : reads "15 03 7e" ≡ Ok (ValOffsetSf 3 (negsuc 1)) ∷ []
unfolding frame_rows_computes reads
val_offset_sf = refl

GNU_args_size : reads "2e 10" ≡ Ok (Nop) ∷ []
unfolding frame_rows_computes reads
GNU_args_size = refl

-- Operands of two bytes.
offset_of_two_bytes : reads "83 8101" ≡ Ok (Offset 3 129) ∷ []
unfolding frame_rows_computes reads
offset_of_two_bytes = refl

offset_extended_of_two_bytes : reads "05 8101 8202" ≡ Ok (Offset 129 258) ∷ []
unfolding frame_rows_computes reads
offset_extended_of_two_bytes = refl

restore_extended_of_two_bytes : reads "06 8101" ≡ Ok (Restore 129) ∷ []
unfolding frame_rows_computes reads
restore_extended_of_two_bytes = refl

undefined_of_two_bytes : reads "07 8101" ≡ Ok (Undefined 129) ∷ []
unfolding frame_rows_computes reads
undefined_of_two_bytes = refl

same_value_of_two_bytes : reads "08 8101" ≡ Ok (SameValue 129) ∷ []
unfolding frame_rows_computes reads
same_value_of_two_bytes = refl

register_of_two_bytes : reads "09 8101 8202" ≡ Ok (Register 129 258) ∷ []
unfolding frame_rows_computes reads
register_of_two_bytes = refl

def_cfa_of_two_bytes : reads "0c 8101 8202" ≡ Ok (DefCfa 129 258) ∷ []
unfolding frame_rows_computes reads
def_cfa_of_two_bytes = refl

def_cfa_register_of_two_bytes : reads "0d 8101" ≡ Ok (DefCfaRegister 129) ∷ []
unfolding frame_rows_computes reads
def_cfa_register_of_two_bytes = refl

def_cfa_offset_of_two_bytes : reads "0e 8101" ≡ Ok (DefCfaOffset 129) ∷ []
unfolding frame_rows_computes reads
def_cfa_offset_of_two_bytes = refl

offset_extended_sf_of_two_bytes : reads "11 8101 807f" ≡ Ok (OffsetExtendedSf 129 (negsuc 127)) ∷ []
unfolding frame_rows_computes reads
offset_extended_sf_of_two_bytes = refl

def_cfa_sf_of_two_bytes : reads "12 8101 807f" ≡ Ok (DefCfaSf 129 (negsuc 127)) ∷ []
unfolding frame_rows_computes reads
def_cfa_sf_of_two_bytes = refl

def_cfa_offset_sf_of_two_bytes : reads "13 807f" ≡ Ok (DefCfaOffsetSf (negsuc 127)) ∷ []
unfolding frame_rows_computes reads
def_cfa_offset_sf_of_two_bytes = refl

val_offset_of_two_bytes : reads "14 8101 8202" ≡ Ok (ValOffset 129 258) ∷ []
unfolding frame_rows_computes reads
val_offset_of_two_bytes = refl

val_offset_sf_of_two_bytes : reads "15 8101 807f" ≡ Ok (ValOffsetSf 129 (negsuc 127)) ∷ []
unfolding frame_rows_computes reads
val_offset_sf_of_two_bytes = refl

GNU_args_size_of_two_bytes : reads "2e 8101" ≡ Ok (Nop) ∷ []
unfolding frame_rows_computes reads
GNU_args_size_of_two_bytes = refl

-- Several instructions, up to the first one that cannot be read.
two_in_a_row : reads "41 0e10" ≡ Ok (AdvanceLoc 1) ∷ Ok (DefCfaOffset 16) ∷ []
unfolding frame_rows_computes reads
two_in_a_row = refl

none : reads "" ≡ []
unfolding frame_rows_computes reads
none = refl

-- The place of a DWARF expression's bytes.
abbrev at : ℕ → ℕ → Block
at start len = record { start = start; len = len }

def_cfa_expression : reads "00 0f 02 7708" ≡ Ok Nop ∷ Ok (DefCfaExpression (at 3 2)) ∷ []
unfolding frame_rows_computes reads
def_cfa_expression = refl

expression : reads "00 10 06 02 7778 41" ≡ Ok Nop ∷ Ok (Expression 6 (at 4 2)) ∷ Ok (AdvanceLoc 1) ∷ []
unfolding frame_rows_computes reads
expression = refl

val_expression : reads "16 9101 00 41" ≡ Ok (ValExpression 145 (at 4 0)) ∷ Ok (AdvanceLoc 1) ∷ []
unfolding frame_rows_computes reads
val_expression = refl

no_block : reads "00 0f" ≡ Ok Nop ∷ Err reason.Instruction ∷ []
unfolding frame_rows_computes reads
no_block = refl

no_column : reads "00 10" ≡ Ok Nop ∷ Err reason.Instruction ∷ []
unfolding frame_rows_computes reads
no_column = refl

a_cut_block : reads "00 0f 02 77" ≡ Ok Nop ∷ Err reason.Instruction ∷ []
unfolding frame_rows_computes reads
a_cut_block = refl

a_cut_block_of_a_column : reads "00 16 06 03 2310" ≡ Ok Nop ∷ Err reason.Instruction ∷ []
unfolding frame_rows_computes reads
a_cut_block_of_a_column = refl

no_opcode_17 : reads "00 17" ≡ Ok Nop ∷ Err reason.Instruction ∷ []
unfolding frame_rows_computes reads
no_opcode_17 = refl

no_opcode_3f : reads "00 3f" ≡ Ok Nop ∷ Err reason.Instruction ∷ []
unfolding frame_rows_computes reads
no_opcode_3f = refl

a_cut_number : reads "00 0e 80" ≡ Ok Nop ∷ Err reason.Instruction ∷ []
unfolding frame_rows_computes reads
a_cut_number = refl

a_number_of_eleven_bytes : reads "00 0e 80808080 80808080 808001" ≡ Ok Nop ∷ Err reason.Instruction ∷ []
unfolding frame_rows_computes reads
a_number_of_eleven_bytes = refl

a_signed_number_of_eleven_bytes : reads "00 13 80808080 80808080 808001" ≡ Ok Nop ∷ Err reason.Instruction ∷ []
unfolding frame_rows_computes reads
a_signed_number_of_eleven_bytes = refl

a_cut_delta : reads "00 03 01" ≡ Ok Nop ∷ Err reason.Instruction ∷ []
unfolding frame_rows_computes reads
a_cut_delta = refl

a_cut_pointer : reads "00 01 000000" ≡ Ok Nop ∷ Err reason.Instruction ∷ []
unfolding frame_rows_computes reads
a_cut_pointer = refl

a_cut_offset : reads "00 83" ≡ Ok Nop ∷ Err reason.Instruction ∷ []
unfolding frame_rows_computes reads
a_cut_offset = refl

a_cut_second_operand : reads "00 0c 07" ≡ Ok Nop ∷ Err reason.Instruction ∷ []
unfolding frame_rows_computes reads
a_cut_second_operand = refl
