-- Worked examples: the text of an entry, given its instructions.
use Rattle.std.proofs.Common.{◌≡◌, negsuc, [], ◌∷◌, Ok, Err, refl}
use Prim.Native.String.{String}
use Rattle.sym_edges.specs.declared.part.Sect.TheVariants.{EhFrame}
use Rattle.sym_edges.specs.declared.reason.Reason.TheVariants as reason
use Rattle.frame_entries.specs.declared.description.Body.TheVariants.{Good}
use Rattle.frame_entries.specs.FdeFields.{FdeFields}
use Rattle.rule_postfix.proofs.WorkedSections.{hex, framed, fde, section, body_text, translated, says, sections}

-- A function with a frame pointer has an INIT and three records of changes; addresses are counted
-- from the base.
a_frame_pointer : translated 0 framed
    ≡ Ok "STACK CFI INIT 1000 20 .cfa: $rsp 8 + .ra: .cfa -8 + ^\nSTACK CFI 1001 .cfa: $rsp 16 + $rbp: .cfa -16 + ^\nSTACK CFI 1004 .cfa: $rbp 16 +\nSTACK CFI 100e .cfa: $rsp 8 +\n"
unfolding sections
a_frame_pointer = refl

a_frame_pointer_from_400 : translated 0x400 framed
    ≡ Ok "STACK CFI INIT c00 20 .cfa: $rsp 8 + .ra: .cfa -8 + ^\nSTACK CFI c01 .cfa: $rsp 16 + $rbp: .cfa -16 + ^\nSTACK CFI c04 .cfa: $rbp 16 +\nSTACK CFI c0e .cfa: $rsp 8 +\n"
unfolding sections
a_frame_pointer_from_400 = refl

-- A record of changes says what differs from the row at the address before.
a_kept_register_comes_back : says "41 8602 48 c6"
    ≡ Ok "STACK CFI INIT 1000 20 .cfa: $rsp 8 + .ra: .cfa -8 + ^\nSTACK CFI 1001 $rbp: .cfa -16 + ^\nSTACK CFI 1009 $rbp: $rbp\n"
unfolding sections
a_kept_register_comes_back = refl

a_remembered_row_comes_back_with_its_cfa : says "0a 44 0e10 44 0b"
    ≡ Ok "STACK CFI INIT 1000 20 .cfa: $rsp 8 + .ra: .cfa -8 + ^\nSTACK CFI 1004 .cfa: $rsp 16 +\nSTACK CFI 1008 .cfa: $rsp 8 +\n"
unfolding sections
a_remembered_row_comes_back_with_its_cfa = refl

what_is_undone_before_the_location_moves : says "44 0e10 0e08 44 8602 c6 44 8602"
    ≡ Ok "STACK CFI INIT 1000 20 .cfa: $rsp 8 + .ra: .cfa -8 + ^\nSTACK CFI 100c $rbp: .cfa -16 + ^\n"
unfolding sections
what_is_undone_before_the_location_moves = refl

the_same_cfa_once_more : says "41 0c0708" ≡ Ok "STACK CFI INIT 1000 20 .cfa: $rsp 8 + .ra: .cfa -8 + ^\n"
unfolding sections
the_same_cfa_once_more = refl

the_same_cfa_by_its_register : says "41 0c0708 41 0d07" ≡ Ok "STACK CFI INIT 1000 20 .cfa: $rsp 8 + .ra: .cfa -8 + ^\n"
unfolding sections
the_same_cfa_by_its_register = refl

an_advance_by_nothing : says "40 41 40" ≡ Ok "STACK CFI INIT 1000 20 .cfa: $rsp 8 + .ra: .cfa -8 + ^\n"
unfolding sections
an_advance_by_nothing = refl

no_instructions : says "" ≡ Ok "STACK CFI INIT 1000 20 .cfa: $rsp 8 + .ra: .cfa -8 + ^\n"
unfolding sections
no_instructions = refl

behind_the_range : says "60 0e10" ≡ Ok "STACK CFI INIT 1000 20 .cfa: $rsp 8 + .ra: .cfa -8 + ^\n"
unfolding sections
behind_the_range = refl

rules_stand_in_one_order : says "41 8f09 8005 8304 8603 9002 0e10"
    ≡ Ok "STACK CFI INIT 1000 20 .cfa: $rsp 8 + .ra: .cfa -8 + ^\nSTACK CFI 1001 .cfa: $rsp 16 + .ra: .cfa -16 + ^ $rax: .cfa -40 + ^ $rbx: .cfa -32 + ^ $rbp: .cfa -24 + ^ $r15: .cfa -72 + ^\n"
unfolding sections
rules_stand_in_one_order = refl

a_value_becomes_a_saved_word : says "41 140302 41 8302"
    ≡ Ok "STACK CFI INIT 1000 20 .cfa: $rsp 8 + .ra: .cfa -8 + ^\nSTACK CFI 1001 $rbx: .cfa -16 +\nSTACK CFI 1002 $rbx: .cfa -16 + ^\n"
unfolding sections
a_value_becomes_a_saved_word = refl

a_value_becomes_a_saved_word_of_a_scratch_register : says "41 140802 41 8802"
    ≡ Ok "STACK CFI INIT 1000 20 .cfa: $rsp 8 + .ra: .cfa -8 + ^\nSTACK CFI 1001 $r8: .cfa -16 +\nSTACK CFI 1002 $r8: .cfa -16 + ^\n"
unfolding sections
a_value_becomes_a_saved_word_of_a_scratch_register = refl

a_saved_word_at_another_place : says "41 8302 41 8303"
    ≡ Ok "STACK CFI INIT 1000 20 .cfa: $rsp 8 + .ra: .cfa -8 + ^\nSTACK CFI 1001 $rbx: .cfa -16 + ^\nSTACK CFI 1002 $rbx: .cfa -24 + ^\n"
unfolding sections
a_saved_word_at_another_place = refl

a_register_becomes_another_register : says "41 090c00 41 090c02"
    ≡ Ok "STACK CFI INIT 1000 20 .cfa: $rsp 8 + .ra: .cfa -8 + ^\nSTACK CFI 1001 $r12: $rax\nSTACK CFI 1002 $r12: $rcx\n"
unfolding sections
a_register_becomes_another_register = refl

a_register_becomes_another_register_of_a_scratch_register : says "41 090103 41 090102"
    ≡ Ok "STACK CFI INIT 1000 20 .cfa: $rsp 8 + .ra: .cfa -8 + ^\nSTACK CFI 1001 $rdx: $rbx\nSTACK CFI 1002 $rdx: $rcx\n"
unfolding sections
a_register_becomes_another_register_of_a_scratch_register = refl

-- A register that a call keeps has its own value without a rule.
kept_saved : says "41 8302 41 c3"
    ≡ Ok "STACK CFI INIT 1000 20 .cfa: $rsp 8 + .ra: .cfa -8 + ^\nSTACK CFI 1001 $rbx: .cfa -16 + ^\nSTACK CFI 1002 $rbx: $rbx\n"
unfolding sections
kept_saved = refl

kept_a_value : says "41 140302 41 c3"
    ≡ Ok "STACK CFI INIT 1000 20 .cfa: $rsp 8 + .ra: .cfa -8 + ^\nSTACK CFI 1001 $rbx: .cfa -16 +\nSTACK CFI 1002 $rbx: $rbx\n"
unfolding sections
kept_a_value = refl

kept_in_another_register : says "41 090c00 41 070c"
    ≡ Ok "STACK CFI INIT 1000 20 .cfa: $rsp 8 + .ra: .cfa -8 + ^\nSTACK CFI 1001 $r12: $rax\nSTACK CFI 1002 $r12: $r12\n"
unfolding sections
kept_in_another_register = refl

kept_in_itself : says "41 090303 41 c3" ≡ Ok "STACK CFI INIT 1000 20 .cfa: $rsp 8 + .ra: .cfa -8 + ^\n"
unfolding sections
kept_in_itself = refl

kept_the_same_value : says "41 0806 41 0706" ≡ Ok "STACK CFI INIT 1000 20 .cfa: $rsp 8 + .ra: .cfa -8 + ^\n"
unfolding sections
kept_the_same_value = refl

kept_not_known : says "41 070f 41 cf" ≡ Ok "STACK CFI INIT 1000 20 .cfa: $rsp 8 + .ra: .cfa -8 + ^\n"
unfolding sections
kept_not_known = refl

kept_r13_restored : says "41 8d02 41 cd"
    ≡ Ok "STACK CFI INIT 1000 20 .cfa: $rsp 8 + .ra: .cfa -8 + ^\nSTACK CFI 1001 $r13: .cfa -16 + ^\nSTACK CFI 1002 $r13: $r13\n"
unfolding sections
kept_r13_restored = refl

kept_r14_restored : says "41 8e02 41 ce"
    ≡ Ok "STACK CFI INIT 1000 20 .cfa: $rsp 8 + .ra: .cfa -8 + ^\nSTACK CFI 1001 $r14: .cfa -16 + ^\nSTACK CFI 1002 $r14: $r14\n"
unfolding sections
kept_r14_restored = refl

kept_r15_restored : says "41 8f02 41 cf"
    ≡ Ok "STACK CFI INIT 1000 20 .cfa: $rsp 8 + .ra: .cfa -8 + ^\nSTACK CFI 1001 $r15: .cfa -16 + ^\nSTACK CFI 1002 $r15: $r15\n"
unfolding sections
kept_r15_restored = refl

-- The stack pointer is the CFA without a rule.
rsp_saved : says "41 8702 41 c7"
    ≡ Ok "STACK CFI INIT 1000 20 .cfa: $rsp 8 + .ra: .cfa -8 + ^\nSTACK CFI 1001 $rsp: .cfa -16 + ^\nSTACK CFI 1002 $rsp: .cfa\n"
unfolding sections
rsp_saved = refl

rsp_a_value : says "41 140702 41 c7"
    ≡ Ok "STACK CFI INIT 1000 20 .cfa: $rsp 8 + .ra: .cfa -8 + ^\nSTACK CFI 1001 $rsp: .cfa -16 +\nSTACK CFI 1002 $rsp: .cfa\n"
unfolding sections
rsp_a_value = refl

rsp_in_another_register : says "41 090706 41 0707"
    ≡ Ok "STACK CFI INIT 1000 20 .cfa: $rsp 8 + .ra: .cfa -8 + ^\nSTACK CFI 1001 $rsp: $rbp\nSTACK CFI 1002 $rsp: .cfa\n"
unfolding sections
rsp_in_another_register = refl

rsp_in_itself : says "41 090707 41 c7"
    ≡ Ok "STACK CFI INIT 1000 20 .cfa: $rsp 8 + .ra: .cfa -8 + ^\nSTACK CFI 1001 $rsp: $rsp\nSTACK CFI 1002 $rsp: .cfa\n"
unfolding sections
rsp_in_itself = refl

rsp_the_same_value : says "41 0807 41 c7"
    ≡ Ok "STACK CFI INIT 1000 20 .cfa: $rsp 8 + .ra: .cfa -8 + ^\nSTACK CFI 1001 $rsp: $rsp\nSTACK CFI 1002 $rsp: .cfa\n"
unfolding sections
rsp_the_same_value = refl

rsp_the_same_value_then_not_known : says "41 0807 41 0707"
    ≡ Ok "STACK CFI INIT 1000 20 .cfa: $rsp 8 + .ra: .cfa -8 + ^\nSTACK CFI 1001 $rsp: $rsp\nSTACK CFI 1002 $rsp: .cfa\n"
unfolding sections
rsp_the_same_value_then_not_known = refl

rsp_not_known : says "41 0707 41 c7" ≡ Ok "STACK CFI INIT 1000 20 .cfa: $rsp 8 + .ra: .cfa -8 + ^\n"
unfolding sections
rsp_not_known = refl

-- Of any other register nothing is specified without a rule, so a new INIT begins there.
scratch_saved : says "41 8002 41 c0"
    ≡ Ok "STACK CFI INIT 1000 2 .cfa: $rsp 8 + .ra: .cfa -8 + ^\nSTACK CFI 1001 $rax: .cfa -16 + ^\nSTACK CFI INIT 1002 1e .cfa: $rsp 8 + .ra: .cfa -8 + ^\n"
unfolding sections
scratch_saved = refl

scratch_a_value : says "41 140802 41 c8"
    ≡ Ok "STACK CFI INIT 1000 2 .cfa: $rsp 8 + .ra: .cfa -8 + ^\nSTACK CFI 1001 $r8: .cfa -16 +\nSTACK CFI INIT 1002 1e .cfa: $rsp 8 + .ra: .cfa -8 + ^\n"
unfolding sections
scratch_a_value = refl

scratch_in_another_register : says "41 090103 41 0701"
    ≡ Ok "STACK CFI INIT 1000 2 .cfa: $rsp 8 + .ra: .cfa -8 + ^\nSTACK CFI 1001 $rdx: $rbx\nSTACK CFI INIT 1002 1e .cfa: $rsp 8 + .ra: .cfa -8 + ^\n"
unfolding sections
scratch_in_another_register = refl

scratch_in_itself : says "41 090202 41 c2"
    ≡ Ok "STACK CFI INIT 1000 2 .cfa: $rsp 8 + .ra: .cfa -8 + ^\nSTACK CFI 1001 $rcx: $rcx\nSTACK CFI INIT 1002 1e .cfa: $rsp 8 + .ra: .cfa -8 + ^\n"
unfolding sections
scratch_in_itself = refl

scratch_the_same_value : says "41 080b 41 cb"
    ≡ Ok "STACK CFI INIT 1000 2 .cfa: $rsp 8 + .ra: .cfa -8 + ^\nSTACK CFI 1001 $r11: $r11\nSTACK CFI INIT 1002 1e .cfa: $rsp 8 + .ra: .cfa -8 + ^\n"
unfolding sections
scratch_the_same_value = refl

scratch_above_the_cfa : says "41 15047f 41 c4"
    ≡ Ok "STACK CFI INIT 1000 2 .cfa: $rsp 8 + .ra: .cfa -8 + ^\nSTACK CFI 1001 $rsi: .cfa 8 +\nSTACK CFI INIT 1002 1e .cfa: $rsp 8 + .ra: .cfa -8 + ^\n"
unfolding sections
scratch_above_the_cfa = refl

scratch_never_known : says "41 0705 41 c5" ≡ Ok "STACK CFI INIT 1000 20 .cfa: $rsp 8 + .ra: .cfa -8 + ^\n"
unfolding sections
scratch_never_known = refl

scratch_lost_in_a_short_range : translated 0 (section EhFrame (fde 0x1000 0x10 "44 8003 44 0700" ∷ []))
    ≡ Ok "STACK CFI INIT 1000 8 .cfa: $rsp 8 + .ra: .cfa -8 + ^\nSTACK CFI 1004 $rax: .cfa -24 + ^\nSTACK CFI INIT 1008 8 .cfa: $rsp 8 + .ra: .cfa -8 + ^\n"
unfolding sections
scratch_lost_in_a_short_range = refl

-- The return address becomes unspecified or changes.
ra_saved_elsewhere : says "41 9002 41 d0"
    ≡ Ok "STACK CFI INIT 1000 20 .cfa: $rsp 8 + .ra: .cfa -8 + ^\nSTACK CFI 1001 .ra: .cfa -16 + ^\nSTACK CFI 1002 .ra: .cfa -8 + ^\n"
unfolding sections
ra_saved_elsewhere = refl

ra_a_value : says "41 141002 41 d0"
    ≡ Ok "STACK CFI INIT 1000 20 .cfa: $rsp 8 + .ra: .cfa -8 + ^\nSTACK CFI 1001 .ra: .cfa -16 +\nSTACK CFI 1002 .ra: .cfa -8 + ^\n"
unfolding sections
ra_a_value = refl

ra_in_a_register : says "41 091002 41 d0"
    ≡ Ok "STACK CFI INIT 1000 20 .cfa: $rsp 8 + .ra: .cfa -8 + ^\nSTACK CFI 1001 .ra: $rcx\nSTACK CFI 1002 .ra: .cfa -8 + ^\n"
unfolding sections
ra_in_a_register = refl

ra_lost_and_found_again : says "41 0710 41 d0"
    ≡ Ok "STACK CFI INIT 1000 1 .cfa: $rsp 8 + .ra: .cfa -8 + ^\nSTACK CFI INIT 1001 1f .cfa: $rsp 8 +\nSTACK CFI 1002 .ra: .cfa -8 + ^\n"
unfolding sections
ra_lost_and_found_again = refl

ra_lost_from_the_start : says "0710" ≡ Ok "STACK CFI INIT 1000 20 .cfa: $rsp 8 +\n"
unfolding sections
ra_lost_from_the_start = refl

-- An entry without rows has the reason that its rows give.
nothing_is_remembered : says "0b" ≡ Err reason.State
unfolding sections
nothing_is_remembered = refl

no_such_opcode_behind_the_range : says "60 3f" ≡ Err reason.Instruction
unfolding sections
no_such_opcode_behind_the_range = refl

a_cfa_of_no_register : says "41 0d10" ≡ Err reason.Register
unfolding sections
a_cfa_of_no_register = refl

no_rule_for_the_cfa : translated 0 (hex "14000000 00000000 01 7a5200 01 78 10 01 1b 000000 9001 0000 1c000000 1c000000 e0efffff 20000000 00 00 0000 0000 00 0000 00 000000 000000 00000000")
    ≡ Err reason.Cfa
unfolding sections
no_rule_for_the_cfa = refl

-- Expressions: the word at the address that one gives, and the value of one over the CFA.
expressions_of_rbp : says "44 1006027778 44 1606022310"
    ≡ Ok "STACK CFI INIT 1000 20 .cfa: $rsp 8 + .ra: .cfa -8 + ^\nSTACK CFI 1004 $rbp: $rsp -8 + ^\nSTACK CFI 1008 $rbp: .cfa 16 +\n"
unfolding sections
expressions_of_rbp = refl

-- The expression that linkers write for the procedure linkage table.
a_linkage_table : says "0e10 46 0e18 4a 0f0b 7708 8000 3f1a3b2a332422"
    ≡ Ok "STACK CFI INIT 1000 20 .cfa: $rsp 16 + .ra: .cfa -8 + ^\nSTACK CFI 1006 .cfa: $rsp 24 +\nSTACK CFI 1010 .cfa: $rsp 8 + $rip 0 + 16 % 5 + 16 / 8 * +\n"
unfolding sections
a_linkage_table = refl

-- An expression is the same if it is at the same place, but not if the same bytes are at another
-- place.
an_expression_twice : says "1006027778 44 1006027778"
    ≡ Ok "STACK CFI INIT 1000 20 .cfa: $rsp 8 + .ra: .cfa -8 + ^ $rbp: $rsp -8 + ^\nSTACK CFI 1004 $rbp: $rsp -8 + ^\n"
unfolding sections
an_expression_twice = refl

an_expression_remembered : says "1006027778 0a 44 0b"
    ≡ Ok "STACK CFI INIT 1000 20 .cfa: $rsp 8 + .ra: .cfa -8 + ^ $rbp: $rsp -8 + ^\n"
unfolding sections
an_expression_remembered = refl

a_cfa_expression_remembered : says "0a 44 0f027708 44 0b"
    ≡ Ok "STACK CFI INIT 1000 20 .cfa: $rsp 8 + .ra: .cfa -8 + ^\nSTACK CFI 1004 .cfa: $rsp 8 +\nSTACK CFI 1008 .cfa: $rsp 8 +\n"
unfolding sections
a_cfa_expression_remembered = refl

-- Expressions for a kept register, for rsp, for the return address, and for a register that a call
-- may change. When the last has no rule again, a new INIT begins.
an_expression_of_rbx : says "44 1603027308 44 c3"
    ≡ Ok "STACK CFI INIT 1000 20 .cfa: $rsp 8 + .ra: .cfa -8 + ^\nSTACK CFI 1004 $rbx: $rbx 8 +\nSTACK CFI 1008 $rbx: $rbx\n"
unfolding sections
an_expression_of_rbx = refl

an_expression_of_rsp : says "44 1607022308 44 c7"
    ≡ Ok "STACK CFI INIT 1000 20 .cfa: $rsp 8 + .ra: .cfa -8 + ^\nSTACK CFI 1004 $rsp: .cfa 8 +\nSTACK CFI 1008 $rsp: .cfa\n"
unfolding sections
an_expression_of_rsp = refl

an_expression_of_the_return_address : says "44 1610028000 44 d0"
    ≡ Ok "STACK CFI INIT 1000 20 .cfa: $rsp 8 + .ra: .cfa -8 + ^\nSTACK CFI 1004 .ra: $rip 0 +\nSTACK CFI 1008 .ra: .cfa -8 + ^\n"
unfolding sections
an_expression_of_the_return_address = refl

an_expression_of_rax : says "44 1000027708 44 c0"
    ≡ Ok "STACK CFI INIT 1000 8 .cfa: $rsp 8 + .ra: .cfa -8 + ^\nSTACK CFI 1004 $rax: $rsp 8 + ^\nSTACK CFI INIT 1008 18 .cfa: $rsp 8 + .ra: .cfa -8 + ^\n"
unfolding sections
an_expression_of_rax = refl

-- An expression at an address at which a register that a call may change becomes unspecified.
an_expression_in_a_cut : says "44 1000027708 44 c0 1606022310"
    ≡ Ok "STACK CFI INIT 1000 8 .cfa: $rsp 8 + .ra: .cfa -8 + ^\nSTACK CFI 1004 $rax: $rsp 8 + ^\nSTACK CFI INIT 1008 18 .cfa: $rsp 8 + .ra: .cfa -8 + ^ $rbp: .cfa 16 +\n"
unfolding sections
an_expression_in_a_cut = refl

-- The empty expression gives the CFA, or the address of the word there. Columns above 16 are not
-- checked.
empty_expressions : says "160600 44 100300"
    ≡ Ok "STACK CFI INIT 1000 20 .cfa: $rsp 8 + .ra: .cfa -8 + ^ $rbp: .cfa\nSTACK CFI 1004 $rbx: .cfa ^\n"
unfolding sections
empty_expressions = refl

expressions_above_the_columns : says "44 10110196 16110196" ≡ Ok "STACK CFI INIT 1000 20 .cfa: $rsp 8 + .ra: .cfa -8 + ^\n"
unfolding sections
expressions_above_the_columns = refl

-- Expressions of the CIE, which the entry changes and restores.
unfoldable behind_cie : String → String → FdeFields
unfolding hex
behind_cie initial own = record {
  cie = 0;
  start = 0x1000;
  size = 0x10;
  code_align = 1;
  data_align = negsuc 7;
  encoding = 0x1b;
  initial_instructions = hex initial;
  instructions = hex own;
  instructions_address = 0x2029;
}

expressions_of_the_cie : body_text 0 (Good (behind_cie "0f027708 9001 1006027778" "44 1606022308 44 0c0708 c6"))
    ≡ Ok "STACK CFI INIT 1000 10 .cfa: $rsp 8 + .ra: .cfa -8 + ^ $rbp: $rsp -8 + ^\nSTACK CFI 1004 $rbp: .cfa 8 +\nSTACK CFI 1008 .cfa: $rsp 8 + $rbp: $rsp -8 + ^\n"
unfolding sections behind_cie
expressions_of_the_cie = refl

-- Expressions that rule text cannot express.
an_expression_of_a_nop : says "0f0196" ≡ Err reason.Expression
unfolding sections
an_expression_of_a_nop = refl

an_expression_without_values : says "0f0122" ≡ Err reason.Expression
unfolding sections
an_expression_without_values = refl

an_expression_with_two_values : says "0f03770830" ≡ Err reason.Expression
unfolding sections
an_expression_with_two_values = refl

an_expression_that_leaves_the_entry : says "0f7f7708" ≡ Err reason.Instruction
unfolding sections
an_expression_that_leaves_the_entry = refl

no_offset_of_an_expression : says "0f027708 0e10" ≡ Err reason.State
unfolding sections
no_offset_of_an_expression = refl
