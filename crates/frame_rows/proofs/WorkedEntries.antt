-- Worked examples: the rows of small entries.
use Rattle.std.proofs.Common.{◌≡◌, pos, true, false, [], ◌∷◌, None, Some, Ok, refl}
use Rattle.sym_edges.specs.declared.reason.Reason.TheVariants as reason
use Rattle.frame_rows.specs.declared.row.Rule.TheVariants as rule
use Rattle.frame_rows.specs.Rows.{instruction_fault}
use Rattle.frame_rows.proofs.Entries.{minus, row, row_by, in_own, in_cie, factored, entry, called, saved_return, rows, entries}

a_frame_pointer : rows (called 0x20 "41 0e10 8602 43 0d06 4a 0c0708 000000") ≡ Ok (
    (0x1000, row 7 (pos 8) (saved_return ∷ []))
    ∷ (0x1001, row 7 (pos 16) (saved_return ∷ (6, rule.Offset (minus 16)) ∷ []))
    ∷ (0x1004, row 6 (pos 16) (saved_return ∷ (6, rule.Offset (minus 16)) ∷ []))
    ∷ (0x100e, row 7 (pos 8) (saved_return ∷ (6, rule.Offset (minus 16)) ∷ []))
    ∷ [])
unfolding entries
a_frame_pointer = refl

saved_and_then_undefined : rows (called 0x10 "44 8003 44 0700") ≡ Ok (
    (0x1000, row 7 (pos 8) (saved_return ∷ []))
    ∷ (0x1004, row 7 (pos 8) (saved_return ∷ (0, rule.Offset (minus 24)) ∷ []))
    ∷ (0x1008, row 7 (pos 8) (saved_return ∷ (0, rule.Undefined) ∷ []))
    ∷ [])
unfolding entries
saved_and_then_undefined = refl

a_restored_rbp : rows (called 0x20 "41 8602 48 c6") ≡ Ok (
    (0x1000, row 7 (pos 8) (saved_return ∷ []))
    ∷ (0x1001, row 7 (pos 8) (saved_return ∷ (6, rule.Offset (minus 16)) ∷ []))
    ∷ (0x1009, row 7 (pos 8) (saved_return ∷ []))
    ∷ [])
unfolding entries
a_restored_rbp = refl

a_restored_return_address : rows (called 0x20 "41 9002 41 d0") ≡ Ok (
    (0x1000, row 7 (pos 8) (saved_return ∷ []))
    ∷ (0x1001, row 7 (pos 8) ((16, rule.Offset (minus 16)) ∷ []))
    ∷ (0x1002, row 7 (pos 8) (saved_return ∷ []))
    ∷ [])
unfolding entries
a_restored_return_address = refl

a_remembered_row_comes_back_with_its_cfa_rule : rows (called 0x20 "0a 44 0e10 44 0b") ≡ Ok (
    (0x1000, row 7 (pos 8) (saved_return ∷ []))
    ∷ (0x1004, row 7 (pos 16) (saved_return ∷ []))
    ∷ (0x1008, row 7 (pos 8) (saved_return ∷ []))
    ∷ [])
unfolding entries
a_remembered_row_comes_back_with_its_cfa_rule = refl

nested_rows : rows (called 0x20 "0a 41 0e10 0a 41 0e18 41 0b 41 0b") ≡ Ok (
    (0x1000, row 7 (pos 8) (saved_return ∷ []))
    ∷ (0x1001, row 7 (pos 16) (saved_return ∷ []))
    ∷ (0x1002, row 7 (pos 24) (saved_return ∷ []))
    ∷ (0x1003, row 7 (pos 16) (saved_return ∷ []))
    ∷ (0x1004, row 7 (pos 8) (saved_return ∷ []))
    ∷ [])
unfolding entries
nested_rows = refl

a_row_that_the_cie_remembered : rows (entry 0x1000 0x20 "0c0708 9001 0a 0e20" "41 0b") ≡ Ok (
    (0x1000, row 7 (pos 32) (saved_return ∷ []))
    ∷ (0x1001, row 7 (pos 8) (saved_return ∷ []))
    ∷ [])
unfolding entries
a_row_that_the_cie_remembered = refl

-- An advance by 0, and a set_loc to the current location, begin no row.
all_changes_at_one_address_make_one_row : rows (called 0x20 "40 0e10 40 8602 44 0e20 01d1efffff 0e18") ≡ Ok (
    (0x1000, row 7 (pos 16) (saved_return ∷ (6, rule.Offset (minus 16)) ∷ []))
    ∷ (0x1004, row 7 (pos 24) (saved_return ∷ (6, rule.Offset (minus 16)) ∷ []))
    ∷ [])
unfolding entries
all_changes_at_one_address_make_one_row = refl

no_move_by_a_code_alignment_factor_of_0 : rows (factored 0 0x1000 0x20 "0c0708 9001" "41 0e10 02ff 8602") ≡ Ok (
    (0x1000, row 7 (pos 16) (saved_return ∷ (6, rule.Offset (minus 16)) ∷ []))
    ∷ [])
unfolding entries
no_move_by_a_code_alignment_factor_of_0 = refl

a_code_alignment_factor_of_4 : rows (factored 4 0x1000 0x20 "0c0708 9001" "41 0e10") ≡ Ok (
    (0x1000, row 7 (pos 8) (saved_return ∷ []))
    ∷ (0x1004, row 7 (pos 16) (saved_return ∷ []))
    ∷ [])
unfolding entries
a_code_alignment_factor_of_4 = refl

past_the_end : rows (called 0x8 "47 0e10 41 0e18 0280 0e20") ≡ Ok (
    (0x1000, row 7 (pos 8) (saved_return ∷ []))
    ∷ (0x1007, row 7 (pos 16) (saved_return ∷ []))
    ∷ [])
unfolding entries
past_the_end = refl

one_address : rows (called 0x1 "47 0e10 41 0e18 0280 0e20") ≡ Ok (
    (0x1000, row 7 (pos 8) (saved_return ∷ []))
    ∷ [])
unfolding entries
one_address = refl

-- The instructions offset, restore, undefined, same_value, register and val_offset are ignored for
-- columns above 16.
columns_above_the_return_address_are_passed_over : rows (called 0x20 "41 9102 d1 0712 0813 09207f 142101 052201 0622") ≡ Ok (
    (0x1000, row 7 (pos 8) (saved_return ∷ []))
    ∷ (0x1001, row 7 (pos 8) (saved_return ∷ []))
    ∷ [])
unfolding entries
columns_above_the_return_address_are_passed_over = refl

-- Offsets are taken modulo 2^64.
products_modulo_2_to_the_64 : rows (called 0x20 "0effffffff ffffffffff 01 9081808080 8080808080 01 137f") ≡ Ok (
    (0x1000, row 7 (pos 8) ((16, rule.Offset (minus 8)) ∷ []))
    ∷ [])
unfolding entries
products_modulo_2_to_the_64 = refl

an_offset_modulo_2_to_the_64 : rows (called 0x20 "0effffffff ffffffffff 01") ≡ Ok (
    (0x1000, row 7 (minus 1) (saved_return ∷ []))
    ∷ [])
unfolding entries
an_offset_modulo_2_to_the_64 = refl

no_instructions : rows (called 0x20 "") ≡ Ok (
    (0x1000, row 7 (pos 8) (saved_return ∷ []))
    ∷ [])
unfolding entries
no_instructions = refl

-- The instructions are checked for any address range.
empty : instruction_fault (called 0 "41 0e10") ≡ None
unfolding entries
empty = refl

empty_and_bad : instruction_fault (called 0 "41 0b") ≡ Some reason.State
unfolding entries
empty_and_bad = refl

past_the_last_address : instruction_fault (entry 0xfffffffffffffffe 0x20 "0c0708 9001 0000" "41 0e10") ≡ None
unfolding entries
past_the_last_address = refl

past_the_last_address_and_bad : instruction_fault (entry 0xffffffffffffffff 0x20 "0c0708 9001 0000" "41 0e10") ≡ Some reason.Range
unfolding entries
past_the_last_address_and_bad = refl

-- Of an expression, only the place of its bytes is kept.
expressions_of_a_column : rows (called 0x10 "44 1006027778 44 1606022310") ≡ Ok (
    (0x1000, row 7 (pos 8) (saved_return ∷ []))
    ∷ (0x1004, row 7 (pos 8) (saved_return ∷ (6, rule.Expr true (in_own 4 2)) ∷ []))
    ∷ (0x1008, row 7 (pos 8) (saved_return ∷ (6, rule.Expr false (in_own 10 2)) ∷ []))
    ∷ [])
unfolding entries
expressions_of_a_column = refl

an_expression_of_the_cfa_is_taken_back : rows (called 0x10 "0a 44 0f027708 44 0b") ≡ Ok (
    (0x1000, row 7 (pos 8) (saved_return ∷ []))
    ∷ (0x1004, row_by (in_own 4 2) (saved_return ∷ []))
    ∷ (0x1008, row 7 (pos 8) (saved_return ∷ []))
    ∷ [])
unfolding entries
an_expression_of_the_cfa_is_taken_back = refl

expressions_of_the_cie_and_of_the_entry : rows (entry 0x1000 0x10 "0f027708 9001 1006027778" "44 1606022308 44 0c0708 c6") ≡ Ok (
    (0x1000, row_by (in_cie 2 2) (saved_return ∷ (6, rule.Expr true (in_cie 9 2)) ∷ []))
    ∷ (0x1004, row_by (in_cie 2 2) (saved_return ∷ (6, rule.Expr false (in_own 4 2)) ∷ []))
    ∷ (0x1008, row 7 (pos 8) (saved_return ∷ (6, rule.Expr true (in_cie 9 2)) ∷ []))
    ∷ [])
unfolding entries
expressions_of_the_cie_and_of_the_entry = refl
