-- Worked examples: the reasons for which an entry has no rows.
use Rattle.std.proofs.Common.{◌≡◌, None, Err, refl}
use Rattle.sym_edges.specs.declared.reason.Reason.TheVariants as reason
use Rattle.frame_rows.specs.Rows.{instruction_fault}
use Rattle.frame_rows.proofs.Entries.{entry, called, rows, entries}

-- Expressions that rule text cannot express: one that adds without values, one that leaves two
-- values, and one whose operation has no word.
an_expression_without_values : rows (called 0x20 "0f0122") ≡ Err reason.Expression
unfolding entries
an_expression_without_values = refl

an_expression_with_two_values : rows (called 0x20 "0f03770830") ≡ Err reason.Expression
unfolding entries
an_expression_with_two_values = refl

an_expression_of_a_nop : rows (called 0x20 "0f0196") ≡ Err reason.Expression
unfolding entries
an_expression_of_a_nop = refl

an_expression_for_a_column : rows (called 0x20 "10060196") ≡ Err reason.Expression
unfolding entries
an_expression_for_a_column = refl

an_expression_of_the_cie : rows (entry 0x1000 0x20 "0c0708 9001 1610019d" "00") ≡ Err reason.Expression
unfolding entries
an_expression_of_the_cie = refl

-- For a column above 16 the expression is not checked, but its block is read.
an_expression_for_column_17 : instruction_fault (called 0x20 "10110196 16110196") ≡ None
unfolding entries
an_expression_for_column_17 = refl

a_cut_expression_for_column_17 : rows (called 0x20 "10110296") ≡ Err reason.Instruction
unfolding entries
a_cut_expression_for_column_17 = refl

no_block : rows (called 0x20 "0f") ≡ Err reason.Instruction
unfolding entries
no_block = refl

a_block_that_leaves_the_entry : rows (called 0x20 "0f037708") ≡ Err reason.Instruction
unfolding entries
a_block_that_leaves_the_entry = refl

-- If the CFA rule is an expression, its offset or its register cannot be changed.
no_offset_of_an_expression : rows (called 0x20 "0f027708 0e10") ≡ Err reason.State
unfolding entries
no_offset_of_an_expression = refl

no_signed_offset_of_an_expression : rows (called 0x20 "0f027708 137e") ≡ Err reason.State
unfolding entries
no_signed_offset_of_an_expression = refl

no_register_of_an_expression : rows (called 0x20 "0f027708 0d06") ≡ Err reason.State
unfolding entries
no_register_of_an_expression = refl

no_such_opcode : rows (called 0x20 "3f") ≡ Err reason.Instruction
unfolding entries
no_such_opcode = refl

no_row_is_remembered : rows (called 0x20 "0b") ≡ Err reason.State
unfolding entries
no_row_is_remembered = refl

one_row_is_remembered : rows (called 0x20 "0a 0b 0b") ≡ Err reason.State
unfolding entries
one_row_is_remembered = refl

set_loc_below_the_location : rows (called 0x20 "42 01d3efffff") ≡ Err reason.Range
unfolding entries
set_loc_below_the_location = refl

a_location_past_the_last_address : rows (called 0x20 "01cedfffff 49") ≡ Err reason.Range
unfolding entries
a_location_past_the_last_address = refl

the_first_bad_one_counts : rows (called 0x20 "0b 3f") ≡ Err reason.State
unfolding entries
the_first_bad_one_counts = refl

a_bad_one_past_the_end : rows (called 0x20 "02ff 41 0d10") ≡ Err reason.Register
unfolding entries
a_bad_one_past_the_end = refl

a_location_that_wraps : rows (entry 0xffffffffffffffcf 0x20 "0c0708 9001 0000" "71") ≡ Err reason.Range
unfolding entries
a_location_that_wraps = refl

-- A bad one of the initial instructions comes first.
restore_in_the_cie : rows (entry 0x1000 0x20 "0c0708 c6" "3f") ≡ Err reason.State
unfolding entries
restore_in_the_cie = refl

restore_extended_of_column_17_in_the_cie : rows (entry 0x1000 0x20 "0611" "3f") ≡ Err reason.State
unfolding entries
restore_extended_of_column_17_in_the_cie = refl

restore_state_in_the_cie : rows (entry 0x1000 0x20 "0b" "3f") ≡ Err reason.State
unfolding entries
restore_state_in_the_cie = refl

advance_loc_in_the_cie : rows (entry 0x1000 0x20 "41" "3f") ≡ Err reason.Range
unfolding entries
advance_loc_in_the_cie = refl

advance_loc_by_0_in_the_cie : rows (entry 0x1000 0x20 "40" "3f") ≡ Err reason.Range
unfolding entries
advance_loc_by_0_in_the_cie = refl

set_loc_in_the_cie : rows (entry 0x1000 0x20 "0100000000" "3f") ≡ Err reason.Range
unfolding entries
set_loc_in_the_cie = refl

a_cut_set_loc_in_the_cie : rows (entry 0x1000 0x20 "01000000" "3f") ≡ Err reason.Instruction
unfolding entries
a_cut_set_loc_in_the_cie = refl

-- Some address has no rule for the CFA, and no instruction is bad.
nowhere : rows (entry 0x1000 0x20 "00" "00") ≡ Err reason.Cfa
unfolding entries
nowhere = refl

nowhere_is_no_bad_instruction : instruction_fault (entry 0x1000 0x20 "00" "00") ≡ None
unfolding entries
nowhere_is_no_bad_instruction = refl

none_at_the_start : rows (entry 0x1000 0x20 "00" "41 0c0708") ≡ Err reason.Cfa
unfolding entries
none_at_the_start = refl

none_at_the_start_is_no_bad_instruction : instruction_fault (entry 0x1000 0x20 "00" "41 0c0708") ≡ None
unfolding entries
none_at_the_start_is_no_bad_instruction = refl

none_in_the_middle : rows (entry 0x1000 0x20 "0a 0c0708" "41 0b 41 0c0708") ≡ Err reason.Cfa
unfolding entries
none_in_the_middle = refl

none_in_the_middle_is_no_bad_instruction : instruction_fault (entry 0x1000 0x20 "0a 0c0708" "41 0b 41 0c0708") ≡ None
unfolding entries
none_in_the_middle_is_no_bad_instruction = refl

none_at_the_last_address : rows (entry 0x1000 0x20 "0a 0c0708" "5f 0b") ≡ Err reason.Cfa
unfolding entries
none_at_the_last_address = refl

none_at_the_last_address_is_no_bad_instruction : instruction_fault (entry 0x1000 0x20 "0a 0c0708" "5f 0b") ≡ None
unfolding entries
none_at_the_last_address_is_no_bad_instruction = refl

-- The register or the offset of the CFA rule is changed when there is no CFA rule.
def_cfa_register_without_a_rule : rows (entry 0x1000 0x20 "00" "0d06") ≡ Err reason.State
unfolding entries
def_cfa_register_without_a_rule = refl

def_cfa_offset_without_a_rule : rows (entry 0x1000 0x20 "00" "0e10") ≡ Err reason.State
unfolding entries
def_cfa_offset_without_a_rule = refl

def_cfa_offset_sf_without_a_rule : rows (entry 0x1000 0x20 "00" "137e") ≡ Err reason.State
unfolding entries
def_cfa_offset_sf_without_a_rule = refl

a_register_above_15_first_without_a_rule : rows (entry 0x1000 0x20 "00" "0d10") ≡ Err reason.Register
unfolding entries
a_register_above_15_first_without_a_rule = refl
